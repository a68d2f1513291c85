-- The rows of the objections that have a tick: whether the next one is there, how long they are, and that they are the
-- reason's.
use mathlib.Core.Bool.{Bool, cond, true, false, not}
use mathlib.Core.List.{List, [], ◌++◌}
use mathlib.Core.Logic.{◌↔◌}
use mathlib.Core.Path.{refl, ap, subst, sym, ◌≡◌}
use Prim.Native.Nat.{ℕ, ◌+◌, ◌*◌, ◌≤◌}
use native.Mathlib.Omega.{arith}
use lib.Dec.{T}
use lib.ListN.{get_or, length, length-append, drop}
use borrow.Author.Tests.{ne_eqb, eq-eqb}
use Rattle.room_write.specs.Writing.{RoomFor, Put}
use Rattle.register.specs.Texts.{rows_to}
use Rattle.register_solve.specs.declared.labelled_register.LabelledRegister.{LabelledRegister}
use Rattle.listing_row.specs.RegisterRows.{place_row, entry_row}
use Rattle.listing_row.specs.RowsAt.{kind_at, verdict_at}
use Rattle.room_write.proofs.Writing.{put_start, put_more}
use Rattle.register.proofs.TextRows.{rows_small}
use Rattle.listing.proofs.Rows.{objection_small, statement_small}
use Rattle.call_reason.specs.ReasonRows.{chosen_at, has_tick, chosen_part}

-- whether there is a tick
pub has_tick_lem : (inside : List ℕ) (k : ℕ) → T (has_tick inside k) ↔ (get_or inside k 0 ≡ 0 → ⊥)
has_tick_lem inside k = (
  λ t e. subst (λ b. T (not b)) (eq-eqb (get_or inside k 0) 0 e) t,
  λ n. subst (λ b. T (not b)) (sym (ne_eqb (get_or inside k 0) 0 n)) tt,
)

module _ (r : LabelledRegister) (inside : List ℕ) where
  abbrev row : ℕ → List ℕ
  row = chosen_at r inside

  pub chosen_row : (k : ℕ) → (get_or inside k 0 ≡ 0 → ⊥) → entry_row r k ≡ row k
  chosen_row k n = rw (ne_eqb (get_or inside k 0) 0 n) refl

  pub passed_row : (k : ℕ) → get_or inside k 0 ≡ 0 → [] ≡ row k
  passed_row k e = rw (eq-eqb (get_or inside k 0) 0 e) refl

  pub chosen_small : (m : ℕ) → length (rows_to m row) ≤ 64 * m
  chosen_small = rows_small row 64 (λ k. go _ (has_tick inside k) (objection_small _ _
      (kind_at r.labelled.pairs.objectors.now r.labelled.pairs.targets.now r.labelled.labels.now r.labelled.lengths.now k)))
    where
      go : (l : List ℕ) (b : Bool) → length l ≤ 64 → length (cond b l []) ≤ 64
      go l true h = h
      go l false h = omega arith

  -- all rows, once the last was passed
  pub chosen_all : (m : ℕ) → m ≡ length r.labelled.pairs.objectors.now → rows_to m row ≡ chosen_part r inside
  unfolding chosen_part
  chosen_all m e = ap (λ k. rows_to k row) e

  -- what fits them fits all rows
  pub chosen_fits : (room : List ℕ) (at m : ℕ) → m ≡ length r.labelled.pairs.objectors.now
      → RoomFor room at (chosen_part r inside) → RoomFor room at (rows_to m row)
  chosen_fits room at m e h = subst (RoomFor room at) (sym (chosen_all m e)) h

  module _ (x : ℕ) where
    abbrev statement : List ℕ
    statement = place_row r x

    abbrev chosen : List ℕ
    chosen = chosen_part r inside

    pub rows_sum : (a b : ℕ) → a ≡ length statement → b ≡ length chosen → a + b ≡ length (statement ++ chosen)
    rows_sum a b p q = omega (arith, length-append statement chosen)

    -- they are not many bytes
    pub rows_few : length (statement ++ chosen) ≤ 262208
    rows_few =
        omega (
          arith,
          length-append statement chosen,
          statement_small (get_or r.numbers.now x 0) (verdict_at r.labelled.labels.now r.labelled.lengths.now x),
          chosen_small (length r.labelled.pairs.objectors.now),
          r.labelled.pairs.handed.few_pairs,
          ap length (chosen_all (length r.labelled.pairs.objectors.now) refl),
        )

    -- the statement's row and the rows behind it, put one after the other at the start of a room
    pub rows_put : (room : List ℕ) {e₁ e₂ : ℕ} {r₁ r₂ : List ℕ} → length (statement ++ chosen) ≤ length room
        → Put room 0 statement e₁ r₁ → Put r₁ e₁ chosen e₂ r₂ → r₂ ≡ (statement ++ chosen) ++ drop (length
        (statement ++ chosen)) room
    rows_put room h a b =
        (put_start room (statement ++ chosen)
        (put_more room 0 statement (omega (arith, length-append statement chosen)) chosen a b)).1
