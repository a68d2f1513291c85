-- A table passes where each row passes its test; where the test is sound, every row of such a table holds.
use mathlib.Core.Bool.{Bool, true, ◌&&◌}
use mathlib.Core.List.{List, [], ◌∷◌}
use lib.Dec.{T}
use Rattle.game.proofs.Search.{both}
use Rattle.examples.specs.Table.{Every}

unfoldable pub pass : {Row : Type 0} → (Row → Bool) → List Row → Bool
pass test [] = true
pass test (r ∷ rs) = test r && pass test rs

pub pass_is : {Row : Type 0} (Says : Row → Type 0) (test : Row → Bool) → ((r : Row) → T (test r) → Says r) → (rs : List Row)
    → T (pass test rs) → Every Says rs
unfolding pass
pass_is Says test sound [] t = tt
pass_is Says test sound (r ∷ rs) t =
    let (p, q) = both (test r) (pass test rs) t in
    (sound r p, pass_is Says test sound rs q)
