-- A walk along the chain of a statement meets the objections against it in the order of their lines: between one and the next, no
-- objection has a field on its card.
use mathlib.Core.List.{List, []}
use mathlib.Core.Path.{refl, ap, sym, subst, ◌≡◌, ◌∙◌}
use Prim.Native.Nat.{ℕ, ◌+◌, ◌-◌, ◌≤◌, ◌<◌}
use native.Mathlib.Omega.{arith}
use lib.ListN.{length, get_or}
use borrow.Author.Tests.{eq-eqb, ne_eqb}
use Rattle.pair_chain.specs.Linked.{Latest}
use Rattle.register.specs.Texts.{rows_to}
use Rattle.register.proofs.TextRows.{no_rows, rows_idle}
use Rattle.room_write.specs.Writing.{Put}
use Rattle.catalogue_write.specs.CatalogueRows.{field_text, field_against, Writable}

-- the walk has come to the first of the last c objections, one against x, or to the end
pub record Reached (targets : List ℕ) (x c : ℕ) : Type 0 where
  pub low : c ≤ length targets
  pub of : (e : ℕ) → e + c ≡ length targets → (c ≡ 0 → ⊥) → get_or targets e 0 ≡ x

module _ {nums objectors targets head next : List ℕ} (w : Writable nums objectors targets head next) (x : ℕ) where
  abbrev row : ℕ → List ℕ
  row = field_against nums objectors targets x

  -- the rows behind the last c objections
  abbrev passed : ℕ → List ℕ
  passed c = rows_to (length objectors - c) row

  -- from the last a objections on to the first of them against x
  onward : (a d : ℕ) → a ≤ length targets → Latest w.chained.turned a x d → Reached targets x d × (passed a ≡ passed d)
  onward a d h latest = (reached, rows_idle row (length objectors - a) (length objectors - d) (omega (arith, latest.low)) idle)
    where
      turned : (e i : ℕ) → e + i + 1 ≡ length targets → get_or w.chained.turned i 0 ≡ get_or targets e 0
      turned = w.chained.is_turned

      reached : Reached targets x d
      reached = record {
        low = omega (arith, latest.low);
        of = λ e p on. sym (turned e (d - 1) (omega arith)) ∙ latest.of (d - 1) (omega arith);
      }

      other : (e : ℕ) → length objectors - a ≤ e → e < length objectors - d → get_or targets e 0 ≡ x → ⊥
      other e k l p =
          latest.seen (length targets - 1 - e) (omega (arith, w.copyable.paired))
          (turned e (length targets - 1 - e) (omega (arith, w.copyable.paired)) ∙ p) (omega (arith, w.copyable.paired))

      idle : (e : ℕ) → length objectors - a ≤ e → e < length objectors - d → row e ≡ []
      idle e k l = rw (ne_eqb (get_or targets e 0) x (other e k l)) refl

  pub walk_begins : x < length nums → {c : ℕ} → c ≡ get_or head x 0 → Reached targets x c × (passed c ≡ [])
  walk_begins h {c} p =
      let first = onward (length targets) c (omega arith)
      (rw p (w.chained.linked.begins x (omega (arith, w.head_room)))) in
      let none : length objectors - length targets ≡ 0 = omega (arith, w.copyable.paired) in
      (first.0, sym first.1 ∙ rw none (no_rows row))

  module _ {c : ℕ} (r : Reached targets x c) (on : c ≡ 0 → ⊥) where
    -- the objection there is one against x, and its field is on the card
    here : get_or targets (length objectors - c) 0 ≡ x
    here = r.of (length objectors - c) (omega (arith, r.low, w.copyable.paired)) on

    pub walk_field : field_text nums objectors (length objectors - c) ≡ row (length objectors - c)
    walk_field = rw (eq-eqb (get_or targets (length objectors - c) 0) x here) refl

    latest_next : {d : ℕ} → d ≡ get_or next (c - 1) 0 → Latest w.chained.turned (c - 1) x d
    latest_next p =
        let there = w.chained.is_turned (length objectors - c) (c - 1) (omega (arith, r.low, w.copyable.paired)) ∙ here in
        rw (sym there, p) (w.chained.linked.links (c - 1) (omega (arith, r.low)))

    -- with its field, the rows are those up to the next one
    pub walk_on : (room : List ℕ) (at : ℕ) {d end : ℕ} {room' : List ℕ} → d ≡ get_or next (c - 1) 0
        → Put room at (rows_to ((length objectors - c) + 1) row) end room'
        → Reached targets x d × Put room at (passed d) end room'
    walk_on room at {d} {end} {room'} p put =
        let further = onward (c - 1) d (omega (arith, r.low)) (latest_next p) in
        let more : (length objectors - c) + 1 ≡ length objectors - (c - 1) = omega (arith, r.low, w.copyable.paired) in (
          further.0,
          subst (λ u. Put room at u end room') (ap (λ n. rows_to n row) more ∙ further.1) put,
        )
