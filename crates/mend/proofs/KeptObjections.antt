-- The objections of the mended register are those of the objection lines that are kept.
use mathlib.Core.Bool.{Bool, false}
use mathlib.Core.List.{List, [], ◌∷◌}
use mathlib.Core.Logic.{inl, inr, ◌⊎◌}
use mathlib.Core.Path.{sym, refl, subst, ◌≡◌, ◌∙◌}
use Prim.Native.Nat.{ℕ}
use native.Mathlib.Nat.{not-suc-le-zero}
use native.Mathlib.Omega.{arith}
use lib.ListN.{length-append, length, get_or}
use Rattle.register.specs.declared.StatementLine.{StatementLine}
use Rattle.register.specs.declared.ObjectionLine.{ObjectionLine}
use Rattle.register.specs.declared.Line.TheVariants.{Statement, Objection}
use Rattle.register.specs.Register.{Register, Has, bare}
use Rattle.register.proofs.OneMore.{with_objection_lem, old_or_new, Old, New}
use Rattle.mend.specs.TextLines.{TextLine, good, spoiled, unended, ObjectionAt}
use Rattle.mend.specs.Fate.{Cause, Fate, kept, dropped, unknown_number, repeat, objection_limit}
use Rattle.mend.specs.Mended.{with_objection, with_objections, with_statements, fate_of, fates_from, settle_objection, mended}
use Rattle.mend.specs.Mended.{fates}
use Rattle.mend.proofs.Settling.{objection_case, ObjectionCase, unknown, again, past, entered}
use Rattle.mend.proofs.Fate.{dropped_not_kept}
use Rattle.mend.proofs.AllLines.{comes_by, Some, some_at, comes, some_by}

module _ (y x : ℕ) where
  -- one objection more
  module _ (R : Register) (o : ObjectionLine) where
    more_cases : Has (with_objection_lem R o) y x → Has R y x ⊎ ((o.objector ≡ y) × (o.target ≡ x))
    more_cases (k, h, a, b) = go (old_or_new R o k h)
      where
        go : Old R o k ⊎ New R o k → Has R y x ⊎ ((o.objector ≡ y) × (o.target ≡ x))
        go (inl (l, p, q)) = inl (k, l, sym p ∙ a, sym q ∙ b)
        go (inr (e, p, q)) = inr (sym p ∙ a, sym q ∙ b)

    more : Has R y x ⊎ ((o.objector ≡ y) × (o.target ≡ x)) → Has (with_objection_lem R o) y x
    more (inl (k, h, a, b)) = go (old_or_new R o k (omega (arith, length-append R.objections (o ∷ []))))
      where
        go : Old R o k ⊎ New R o k → Has (with_objection_lem R o) y x
        go (inl (l, p, q)) = (k, omega (arith, length-append R.objections (o ∷ [])), p ∙ a, q ∙ b)
        go (inr (e, p, q)) = absurd (omega arith)
    more (inr (a, b)) =
        go (old_or_new R o (length R.objections) (omega (arith, length-append R.objections (o ∷ []))))
      where
        go : Old R o (length R.objections) ⊎ New R o (length R.objections) → Has (with_objection_lem R o) y x
        go (inl (l, p, q)) = absurd (omega arith)
        go (inr (e, p, q)) = (length R.objections, omega (arith, length-append R.objections (o ∷ [])), p ∙ a, q ∙ b)

  -- the line is this objection, and is kept
  abbrev Keeps : TextLine → Fate → Type 0
  Keeps (good (Statement st)) f = ⊥
  Keeps (good (Objection o)) f = (o.objector ≡ y) × (o.target ≡ x) × (f ≡ kept)
  Keeps spoiled f = ⊥
  Keeps unended f = ⊥

  comes_here : (S : List StatementLine) (late : Bool) (R : Register) (l : TextLine) → Has (with_objection R l) y x
      → Has R y x ⊎ Keeps l (fate_of S late R l)
  comes_here S late R (good (Statement st)) w = inl w
  comes_here S late R spoiled w = inl w
  comes_here S late R unended w = inl w
  comes_here S late R (good (Objection o)) w = go (objection_case R o) w
    where
      here : Has R y x ⊎ ((o.objector ≡ y) × (o.target ≡ x)) → Has R y x ⊎ Keeps (good (Objection o)) kept
      here (inl w) = inl w
      here (inr (a, b)) = inr (a, b, refl)

      go : ObjectionCase R o → Has (settle_objection R o).1 y x → Has R y x ⊎ Keeps (good (Objection o)) (settle_objection R o).0
      go (unknown n e) = rw e (λ w. inl w)
      go (again k h e) = rw e (λ w. inl w)
      go (past k h l e) = rw e (λ w. inl w)
      go (entered k h l e) = rw e (λ w. here (more_cases R o w))

  goes_on : (S : List StatementLine) (late : Bool) (R : Register) (l : TextLine) → Has R y x ⊎ Keeps l (fate_of S late R l)
      → Has (with_objection R l) y x
  goes_on S late R (good (Statement st)) (inl w) = w
  goes_on S late R (good (Statement st)) (inr w) = absurd w
  goes_on S late R spoiled (inl w) = w
  goes_on S late R spoiled (inr w) = absurd w
  goes_on S late R unended (inl w) = w
  goes_on S late R unended (inr w) = absurd w
  goes_on S late R (good (Objection o)) w = go (objection_case R o) w
    where
      old : (cause : Cause) → Has R y x ⊎ Keeps (good (Objection o)) (dropped cause) → Has R y x
      old cause (inl w) = w
      old cause (inr (a, b, e)) = absurd (dropped_not_kept cause e)

      here : Has R y x ⊎ Keeps (good (Objection o)) kept → Has R y x ⊎ ((o.objector ≡ y) × (o.target ≡ x))
      here (inl w) = inl w
      here (inr (a, b, e)) = inr (a, b)

      go : ObjectionCase R o → Has R y x ⊎ Keeps (good (Objection o)) (settle_objection R o).0 → Has (settle_objection R o).1 y x
      go (unknown n e) = rw e (old unknown_number)
      go (again k h e) = rw e (old repeat)
      go (past k h l e) = rw e (old objection_limit)
      go (entered k h l e) = rw e (λ w. more R o (here w))

  as_line : (l : TextLine) (f : Fate) → Keeps l f → (o : ObjectionLine) × (l ≡ good (Objection o)) × (o.objector ≡ y)
      × (o.target ≡ x) × (f ≡ kept)
  as_line (good (Objection o)) f (a, b, e) = (o, refl, a, b, e)
  as_line (good (Statement st)) f w = absurd w
  as_line spoiled f w = absurd w
  as_line unended f w = absurd w

-- after some lines more, a register without objections has one exactly if a line with it is kept
module _ (ls : List TextLine) (S : List StatementLine) (late : Bool) (B : List StatementLine) where
  pub kept_from : (y x : ℕ) → Has (with_objections (bare B) ls) y x → (k : ℕ) × (o : ObjectionLine) × ObjectionAt ls k o
      × (o.objector ≡ y) × (o.target ≡ x) × (get_or (fates_from S late (bare B) ls) k kept ≡ kept)
  kept_from y x w =
      go (comes_by (Keeps y x) (λ S R. Has R y x) (comes_here y x) ls S late (bare B) w)
    where
      go : Has (bare B) y x ⊎ Some (Keeps y x) ls (fates_from S late (bare B) ls) → (k : ℕ) × (o : ObjectionLine)
          × ObjectionAt ls k o
          × (o.objector ≡ y) × (o.target ≡ x) × (get_or (fates_from S late (bare B) ls) k kept ≡ kept)
      go (inl (k, h, a, b)) = absurd (not-suc-le-zero h)
      go (inr w) =
          let (k, h, m) = some_at (Keeps y x) ls (fates_from S late (bare B) ls) w in
          let (o, e, a, b, f) = as_line y x (get_or ls k spoiled) (get_or (fates_from S late (bare B) ls) k kept) m in
          (k, o, (h, e), a, b, f)

  pub from_kept : (k : ℕ) (o : ObjectionLine) → ObjectionAt ls k o → get_or (fates_from S late (bare B) ls) k kept ≡ kept
      → Has (with_objections (bare B) ls) o.objector o.target
  from_kept k o (h, e) f =
      comes (Keeps o.objector o.target) (λ S R. Has R o.objector o.target) (goes_on o.objector o.target) ls S
      late
      (bare B) (some_by (Keeps o.objector o.target) ls (fates_from S late (bare B) ls) k h
      (subst (λ l. Keeps o.objector o.target l (get_or (fates_from S late (bare B) ls) k kept)) (sym e) (refl, refl, f)))

-- the mended register has an objection exactly if a line with it is kept
pub kept_line : (ls : List TextLine) (y x : ℕ) → Has (mended ls) y x → (k : ℕ) × (o : ObjectionLine) × ObjectionAt ls k o
    × (o.objector ≡ y) × (o.target ≡ x) × (get_or (fates ls) k kept ≡ kept)
kept_line ls = kept_from ls [] false (with_statements [] ls)

pub line_kept : (ls : List TextLine) (k : ℕ) (o : ObjectionLine) → ObjectionAt ls k o → get_or (fates ls) k kept ≡ kept
    → Has (mended ls) o.objector o.target
line_kept ls = from_kept ls [] false (with_statements [] ls)
