-- `kind_of` gives each of the nine places of the table its kind; at the three impossible ones the ends of an objection
-- would contradict the game, and a label number above 2 is none.
use mathlib.Core.Path.{◌≡◌, refl}
use native.Mathlib.Omega.{arith}
use Rattle.label_kind.proofs.Ends.{never_at, ends_length, ends_low}
use Rattle.label_kind.proofs.kind_of.Goals as goal
use Rattle.label_kind.proofs.kind_of.Goals.{in_default-via-in-2+in_default, in_default-via-in-1+in_default}
use Rattle.label_kind.proofs.kind_of.Goals.{in_default-via-in-0+in_default, in_default-via-in_default}

pub overflow_add-result : goal.overflow_add-result
overflow_add-result c = omega (arith, ends_length _ _ _ c.requires (λ z. omega arith))

pub overflow_add-result-in-1-eq2 : goal.overflow_add-result-in-1-eq2
overflow_add-result-in-1-eq2 c = omega (arith, ends_length _ _ _ c.requires (λ z. omega arith))

pub unreachable-requires : goal.unreachable-requires
unreachable-requires c =
    elim c.in_default.branch [
      | in_default-via-in-2+in_default w ↦ omega (arith, ends_low _ _ _ c.requires)
      | in_default-via-in-1+in_default w ↦
          let no_open : c.args.objector ≡ 0 → ⊥ = λ e. never_at _ _ _ c.requires 1 0 w.in_default.is-0 e refl in
          let no_stand : c.args.objector ≡ 1 → ⊥ = λ e. never_at _ _ _ c.requires 1 1 w.in_default.is-0 e refl in
          omega (arith, ends_low _ _ _ c.requires)
      | in_default-via-in-0+in_default w ↦
          let no_stand : c.args.objector ≡ 1 → ⊥ = λ e. never_at _ _ _ c.requires 0 1 w.in_default.is-0 e refl in
          omega (arith, ends_low _ _ _ c.requires)
      | in_default-via-in_default w ↦ omega (arith, ends_low _ _ _ c.requires)
    ]
