-- The demands leave no choice: a label, a length or a kind that says what they ask is that of the meaning. So none of them can be
-- emptied: demand 2 alone settles labels and lengths, and demand 3 alone what falls and stands, and how soon.
use mathlib.Core.Logic.{inl, inr, ◌↔◌}
use mathlib.Core.Option.{Option, some}
use mathlib.Core.Path.{◌≡◌, ap, ◌∙◌}
use Prim.Native.Nat.{ℕ, suc, ◌≤◌}
use native.Mathlib.Omega.{arith}
use Rattle.game.specs.Book.{Book, Listed}
use Rattle.game.specs.Label.{falls, Falls, stands, Stands, is_open, Verdict, Means}
use Rattle.game.specs.Account.{label_number, length_number, kind_number, kind_length}
use Rattle.game.specs.Objection.{kind_of, OfKind}
use Rattle.game.specs.declared.Kind.{Kind}
use Rattle.game.specs.declared.Kind.TheVariants.{Idle, Felling, Delaying, Standoff}
use Rattle.game.proofs.BookDemands.{demand_3}
use Rattle.game.proofs.Finish.{plain, plain_finish, plain_first, plain_second}
use Rattle.game.proofs.Verdict.{means_unique}
use Rattle.promises.specs.Demands.{LabelSays, LengthSays, KindSays}
use Rattle.promises.proofs.Says.{same_kind}

module _ (B : Book) (x : ℕ) where
  -- demand 2
  pub label_says_once : (label : ℕ) (v : Verdict) → Means B x v → LabelSays B x label → label ≡ label_number v
  label_says_once label (falls n) m s = s.falls.1 (n, m.0)
  label_says_once label (stands n) m s = s.stands.1 (n, m.0)
  label_says_once label is_open m s = s.is_open.1 m

  pub length_says_once : (length : ℕ) (v : Verdict) → Means B x v → LengthSays B x length → length ≡ length_number v
  length_says_once length (falls n) m s =
      let (f, least) = s.falls (n, m.0) in omega (arith, least n m.0, m.1 length f)
  length_says_once length (stands n) m s =
      let (f, least) = s.stands (n, m.0) in omega (arith, least n m.0, m.1 length f)
  length_says_once length is_open m s = s.none m

  -- demand 3
  module _ (h : Listed B x) where
    pub label_in_finishes : (label : ℕ) → LabelSays B x label → ((label ≡ 2) ↔ Falls B x) × ((label ≡ 1) ↔ Stands B x)
    label_in_finishes label s = (
      (
        (λ e. ((demand_3 B).falls_exactly x h).1 (s.falls_finishes.0 e)),
        λ f. s.falls_finishes.1 (((demand_3 B).falls_exactly x h).0 f),
      ),
      (
        (λ e. ((demand_3 B).stands_exactly x h).1 (s.stands_finishes.0 e)),
        λ f. s.stands_finishes.1 (((demand_3 B).stands_exactly x h).0 f),
      ),
    )

    pub length_in_finishes : (length n : ℕ) → LengthSays B x length → (Means B x (falls n) → n ≤ length)
        × (Means B x (stands n) → n ≤ length)
    length_in_finishes length n s = (
      λ m. let (k, low, w) = s.falls_finishes (n, m.0) (plain B) (plain_finish B) in
          omega (arith, low, m.1 k (plain_first B k x h w.0)),
      λ m. let (k, low, w) = s.stands_finishes (n, m.0) (plain B) (plain_finish B) in
          omega (arith, low, m.1 k (plain_second B k x h w.0)),
    )

-- the table of kinds
pub kind_says_once : (B : Book) (y x kind length : ℕ) (κ : Kind) → OfKind B y x κ → KindSays B y x kind length
    → (kind ≡ kind_number κ) × (length ≡ kind_length κ)
kind_says_once B y x kind length κ o s = go o.target o.objector κ o.target_means o.objector_means o.is
  where
    Is : Kind → Type 0
    Is κ = (kind ≡ kind_number κ) × (length ≡ kind_length κ)

    idle : (κ : Kind) → ◌≡◌ {A = Option Kind} (some Idle) (some κ) → kind ≡ 0 → Is κ
    idle κ e f = same_kind Is Idle κ e (f, s.no_length (inl f))

    go : (v w : Verdict) (κ : Kind) → Means B x v → Means B y w → kind_of v w ≡ some κ → Is κ
    go (falls n) (stands m) κ p q e =
        let f : kind ≡ 1 = s.felling.1 ((n, p.0), (m, q.0)) in
        let (k, t, l) = s.felling_length f in
        let i : stands k ≡ stands m = means_unique B y (stands k) (stands m) t q in
        same_kind Is (Felling (suc m)) κ e (f, l ∙ ap suc (ap (λ v. length_number v) i))
    go (stands n) (falls m) κ p q e =
        let f : kind ≡ 2 = s.delaying.1 ((n, p.0), (m, q.0)) in
        let (k, t, l) = s.delaying_length f in
        let i : falls k ≡ falls m = means_unique B y (falls k) (falls m) t q in
        same_kind Is (Delaying (suc m)) κ e (f, l ∙ ap suc (ap (λ v. length_number v) i))
    go (falls n) (falls m) κ p q e = idle κ e (s.idle.1 (inl ((n, p.0), inl (m, q.0))))
    go (falls n) is_open κ p q e = idle κ e (s.idle.1 (inl ((n, p.0), inr q)))
    go is_open (falls m) κ p q e = idle κ e (s.idle.1 (inr (p, (m, q.0))))
    go is_open is_open κ p q e =
        let f : kind ≡ 3 = s.standoff.1 (p, q) in same_kind Is Standoff κ e (f, s.no_length (inr f))
    go (stands n) (stands m) κ p q e = let z : ◌≡◌ {A = ℕ} 0 1 = cc in absurd (omega arith)
    go (stands n) is_open κ p q e = let z : ◌≡◌ {A = ℕ} 0 1 = cc in absurd (omega arith)
    go is_open (stands m) κ p q e = let z : ◌≡◌ {A = ℕ} 0 1 = cc in absurd (omega arith)
