-- The line at a place of any text is the first of the lines from there on.
use mathlib.Core.List.{List, [], ◌∷◌, ◌++◌}
use mathlib.Core.Path.{sym, ap, ◌≡◌, ◌∙◌}
use Prim.Native.Nat.{ℕ, suc, ◌+◌, ◌<◌}
use native.Mathlib.Omega.{arith}
use lib.ListN.{get_or, length, drop, take-append-drop, take, length-drop}
use lib.Seq.{length-take-le, get_or-take, drop-drop, drop-cons, drop-length}
use Rattle.std.specs.Prelude.{Some}
use Rattle.game.specs.Questions.{FirstBelow}
use Rattle.register.specs.Lines.{BeginsWith}
use Rattle.register.specs.declared.Line.{Line}
use Rattle.mend.specs.TextLines.{TextLine, LinesOf, good, spoiled, unended}
use Rattle.mend.proofs.TextLines.{good_first, spoiled_first, unended_first}
use Rattle.mend_text.specs.Passes.{AnyLineAt, Passed}
use Rattle.mend_text.specs.declared.AnyLine.TheVariants.{Spoiled, Unended, Good}

-- no line up to the next byte 10, which is r places on
module _ (s : List ℕ) (at r : ℕ) where
  pub spoiled_line : ((l : Line) → ¬ BeginsWith l (drop at s))
      → FirstBelow (λ i. get_or (drop at s) i 0 ≡ 10) (length (drop at s)) (Some r)
      → AnyLineAt s at (Spoiled (at + r + 1))
  spoiled_line no_line (l, none, ends) = (
    no_line,
    omega arith,
    omega (arith, length-drop at s),
    (
      take r (drop at s),
      (λ i h e. let h' : i < r = omega (arith, length-take-le r (drop at s) (omega arith)) in
          none i h' (sym (get_or-take r (drop at s) i 0 h') ∙ e)),
      sym (take-append-drop r (drop at s)) ∙ ap (λ t. take r (drop at s) ++ t) rest,
    ),
  )
    where
      rest : drop r (drop at s) ≡ 10 ∷ drop (at + r + 1) s
      rest = drop-cons (drop at s) r 0 l ∙ ap (λ b. b ∷ drop (suc r) (drop at s)) ends
          ∙ ap (λ t. 10 ∷ t) (drop-drop (suc r) at s
          ∙ ap (λ j. drop j s) (let e : at + suc r ≡ at + r + 1 = omega arith in e))

-- The first line passed.
module _ (s : List ℕ) (at : ℕ) (ls : List TextLine) (lines : LinesOf (drop at s) ls) where
  pub pass_good : (l : Line) (next : ℕ) → AnyLineAt s at (Good l next) → Passed s at ls next (good l)
  pass_good l next (f, onward, within, e) =
      let (more, first, left) = good_first (drop at s) ls l (drop next s) f e lines in
      record { more = more; first = first; left = left; onward = onward; within = within }

  pub pass_spoiled : (next : ℕ) → AnyLineAt s at (Spoiled next) → Passed s at ls next spoiled
  pass_spoiled next (none, onward, within, (w, u, e)) =
      let (more, first, left) = spoiled_first (drop at s) ls w (drop next s) none u e lines in
      record { more = more; first = first; left = left; onward = onward; within = within }

  pub pass_unended : at < length s → AnyLineAt s at Unended → Passed s at ls (length s) unended
  unfolding LinesOf
  pass_unended h u = record {
    more = [];
    first = unended_first (drop at s) ls (omega (arith, length-drop at s)) u lines;
    left = drop-length s;
    onward = h;
    within = omega arith;
  }
