-- Accepting and refusing handed lists are apart: they have one fault at most, and none where they are accepted. So the laws of
-- promises on an input hold of every promise on lists.
use mathlib.Core.List.{List}
use mathlib.Core.Logic.{⊎_elim, inr, inl}
use mathlib.Core.Path.{ap, subst, sym, refl, ◌≡◌, ◌∙◌}
use Prim.Native.Nat.{ℕ, ◌≤◌, ◌<◌}
use native.Mathlib.Omega.{arith}
use lib.ListN.{length}
use Rattle.lists.specs.Refuses.{Lists}
use Rattle.answer.specs.declared.Refusal.{Refusal}
use Rattle.answer.specs.declared.Refusal.TheVariants.{Asked}
use Rattle.answer.specs.declared.Refusal.TheVariants as refusal
use Rattle.answer.specs.Answer.{Asks}
use Rattle.answer.proofs.Inputs.{Apart, Later}
use Rattle.promises.specs.Demands.{Settled}
use Rattle.promises.specs.OnLists.{ListsRefused}
use Rattle.lists.proofs.Refuses as lists

module _ (marks objectors targets : List ℕ) where
  pub lists_apart : Apart {Made = Unit {0}} (λ m. Lists marks objectors targets) (ListsRefused marks objectors targets)
  lists_apart = record {
    accepts_once = λ m m' l l'. refl;
    not_both = λ m r l (f, p, e). lists.not_both marks objectors targets l f p;
    refuses_once = λ r r' (f, p, e) (g, q, h). e ∙ ap refusal.Lists (lists.refuses_once marks objectors targets f g p q) ∙ sym h;
  }

  -- what is refused later is no fault of the lists
  pub no_lists_fault : (r : Refusal) → Later r → ¬ ListsRefused marks objectors targets r
  no_lists_fault r l (f, p, e) = subst Later e l

  -- Demand 1: all lists are accepted or refused, never both, with one refusal.
  pub lists_settled : Settled {Made = Unit {0}} (λ m. Lists marks objectors targets) (ListsRefused marks objectors targets)
  lists_settled = record {
    either = ⊎_elim (λ l. inl (tt, l)) (λ (f, p). inr (refusal.Lists f, (f, p, refl))) (lists.settled marks objectors targets);
    not_both = lists_apart.not_both;
    one_refusal = lists_apart.refuses_once;
  }

-- What is asked about a place that is not below the number of marks is refused with 14. The code works with the place as an
-- index; it is the place asked for.
pub unlisted : (marks : List ℕ) (x place : ℕ) → x ≡ place → (turns : ℕ) (short : Type 0) → length marks ≤ x
    → Asks (place < length marks) turns short Asked
unlisted marks x place e turns short h = inl (λ g. omega arith, refl)
