-- The one shape of a promise on handed lists: the refusals of the lists come first, then those of what is asked of them. Lists
-- that are accepted make nothing else: they are used as they are.
use Rattle.std.specs.Prelude.{List, ◌≡◌, ℕ}
use Rattle.lists.specs.Refuses.{Refuses, Lists}
use Rattle.lists.specs.declared.ListsFault.{ListsFault}
use Rattle.answer.specs.declared.Refusal.{Refusal}
use Rattle.answer.specs.declared.Refusal.TheVariants as refusal
use Rattle.answer.specs.Answer.{Answer}
use Rattle.answer.specs.Answer.{OnInput}

module _ (marks objectors targets : List ℕ) where
  -- the lists are refused for the fault that they have
  abbrev pub ListsRefused : Refusal → Type 0
  ListsRefused r = (fault : ListsFault) × Refuses marks objectors targets fault × (r ≡ refusal.Lists fault)

  abbrev pub OnLists : {Rooms : Type 0} → (later : Refusal → Type 0) → (gives : ℕ → Rooms → Type 0) → Rooms → Answer → Rooms
      → Type 0
  OnLists later gives = OnInput {Made = Unit {0}} (λ m. Lists marks objectors targets) ListsRefused (λ m. later) (λ m. gives)
