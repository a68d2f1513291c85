-- What checking handed lists answers: not for callers of the product. Which lists are accepted, and which refusal the others get,
-- `lists` says.
use Rattle.std.specs.Prelude.{Result, Ok, Err, List, ◌≡◌, ℕ}
use Rattle.lists.specs.declared.ListsFault.{ListsFault}
use Rattle.lists.specs.declared.in_order.Pairs.{Pairs}
use Rattle.lists.specs.Refuses.{Lists, Refuses}

module _ (marks objectors targets : List ℕ) where
  -- what the check answers: the lists, which are accepted, or the refusal
  abbrev pub Checks : Result Pairs ListsFault → Type 0
  Checks (Ok p) =
      Lists marks objectors targets × (p.marks.now ≡ marks) × (p.objectors.now ≡ objectors) × (p.targets.now ≡ targets)
  Checks (Err r) = Refuses marks objectors targets r
