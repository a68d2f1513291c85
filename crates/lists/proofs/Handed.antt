-- Lists that are accepted are in order and within the limits.
use mathlib.Core.List.{List}
use Prim.Native.Nat.{ℕ}
use Rattle.lists.specs.Handed.{Handed}
use Rattle.lists.specs.Refuses.{Lists}

-- lists that are accepted can be solved
pub handed : (marks objectors targets : List ℕ) → Lists marks objectors targets → Handed marks objectors targets
handed marks objectors targets l = record { few_marks = l.few_marks; few_pairs = l.few_pairs; order = l.order }
