-- From one line to all lines: what settling a line brings about by its fate, some line of the text brought about, and what holds
-- of every fate.
use mathlib.Core.Bool.{Bool}
use mathlib.Core.List.{List, [], ◌∷◌}
use mathlib.Core.Logic.{inl, inr, ◌⊎◌}
use mathlib.Core.Path.{refl, ap, ◌≡◌}
use Prim.Native.Nat.{suc, ℕ, zero, ◌<◌}
use native.Mathlib.Nat.{not-suc-le-zero, le_of_suc-le-suc}
use native.Mathlib.Omega.{arith}
use lib.ListN.{length, get_or}
use Rattle.register.specs.declared.StatementLine.{StatementLine}
use Rattle.register.specs.Register.{Register}
use Rattle.mend.specs.TextLines.{TextLine, spoiled}
use Rattle.mend.specs.Fate.{Fate, kept}
use Rattle.mend.specs.Mended.{fates_from, with_statement, late_after, with_objection, fate_of, with_statements, with_objections}

-- as many fates as lines
pub fates_counted : (ls : List TextLine) (S : List StatementLine) (late : Bool) (R : Register)
    → length (fates_from S late R ls) ≡ length ls
unfolding fates_from
fates_counted [] S late R = refl
fates_counted (l ∷ ls) S late R = ap suc (fates_counted ls (with_statement S l) (late_after late l) (with_objection R l))

module _ (P : TextLine → Fate → Type 0) where
  -- some line has the property, with its fate
  pub Some : List TextLine → List Fate → Type 0
  Some ls fs = (k : ℕ) × (k < length ls) × P (get_or ls k spoiled) (get_or fs k kept)

  pub some_at : (ls : List TextLine) (fs : List Fate) → Some ls fs → (k : ℕ) × (k < length ls)
      × P (get_or ls k spoiled) (get_or fs k kept)
  unfolding Some
  some_at ls fs w = w

  pub some_by : (ls : List TextLine) (fs : List Fate) (k : ℕ) → k < length ls → P (get_or ls k spoiled) (get_or fs k kept)
      → Some ls fs
  unfolding Some
  some_by ls fs k h p = (k, h, p)

  -- every line has it, where it follows from what no line changes
  pub each : (I : Register → Type 0) → ((R : Register) (l : TextLine) → I R → I (with_objection R l))
      → ((S : List StatementLine) (late : Bool) (R : Register) (l : TextLine) → I R → P l (fate_of S late R l))
      → (ls : List TextLine) (S : List StatementLine) (late : Bool) (R : Register) → I R → (k : ℕ) → k < length ls
      → P (get_or ls k spoiled) (get_or (fates_from S late R ls) k kept)
  unfolding fates_from
  each I on one [] S late R i k h = absurd (not-suc-le-zero h)
  each I on one (l ∷ ls) S late R i zero h = one S late R l i
  each I on one (l ∷ ls) S late R i (suc k) h =
      each I on one ls (with_statement S l) (late_after late l) (with_objection R l) (on R l i) k (le_of_suc-le-suc h)

  -- Q comes about by such a line, and by nothing else.
  module _ (Q : List StatementLine → Register → Type 0) where
    pub comes_by : ((S : List StatementLine) (late : Bool) (R : Register) (l : TextLine) → Q (with_statement S l)
        (with_objection R l)
        → Q S R ⊎ P l (fate_of S late R l)) → (ls : List TextLine) (S : List StatementLine) (late : Bool) (R : Register)
        → Q (with_statements S ls) (with_objections R ls) → Q S R ⊎ Some ls (fates_from S late R ls)
    unfolding with_statements with_objections fates_from Some
    comes_by one [] S late R q = inl q
    comes_by one (l ∷ ls) S late R q =
        go (comes_by one ls (with_statement S l) (late_after late l) (with_objection R l) q)
      where
        here : Q S R ⊎ P l (fate_of S late R l) → Q S R ⊎ Some (l ∷ ls) (fates_from S late R (l ∷ ls))
        here (inl q) = inl q
        here (inr p) = inr (0, omega arith, p)

        go : Q (with_statement S l) (with_objection R l)
            ⊎ Some ls (fates_from (with_statement S l) (late_after late l) (with_objection R l) ls)
            → Q S R ⊎ Some (l ∷ ls) (fates_from S late R (l ∷ ls))
        go (inl q) = here (one S late R l q)
        go (inr (k, h, p)) = inr (suc k, omega arith, p)

    module _ (one : (S : List StatementLine) (late : Bool) (R : Register) (l : TextLine) → Q S R ⊎ P l (fate_of S late R l)
        → Q (with_statement S l) (with_objection R l)) where
      pub remains : (ls : List TextLine) (S : List StatementLine) (late : Bool) (R : Register) → Q S R
          → Q (with_statements S ls) (with_objections R ls)
      unfolding with_statements with_objections
      remains [] S late R q = q
      remains (l ∷ ls) S late R q =
          remains ls (with_statement S l) (late_after late l) (with_objection R l) (one S late R l (inl q))

      pub comes : (ls : List TextLine) (S : List StatementLine) (late : Bool) (R : Register) → Some ls (fates_from S late R ls)
          → Q (with_statements S ls) (with_objections R ls)
      unfolding with_statements with_objections fates_from Some
      comes [] S late R (k, h, p) = absurd (not-suc-le-zero h)
      comes (l ∷ ls) S late R (zero, h, p) =
          remains ls (with_statement S l) (late_after late l) (with_objection R l) (one S late R l (inr p))
      comes (l ∷ ls) S late R (suc k, h, p) =
          comes ls (with_statement S l) (late_after late l) (with_objection R l) (k, le_of_suc-le-suc h, p)
