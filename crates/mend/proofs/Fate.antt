-- The fates of a line are told apart by their numbers, none of which has more than one digit.
use mathlib.Core.Path.{ap, ◌≡◌}
use Prim.Native.Nat.{ℕ, ◌<◌}
use native.Mathlib.Omega.{arith}
use Rattle.mend.specs.Fate.{Cause, unended_line, spoiled_line, second_statement, statement_limit, unknown_number, repeat}
use Rattle.mend.specs.Fate.{objection_limit, Fate, kept, moved, dropped, fate_number}

pub dropped_not_kept : (cause : Cause) → dropped cause ≡ kept → ⊥
dropped_not_kept unended_line e = omega (arith, ap (fate_number 0) e)
dropped_not_kept spoiled_line e = omega (arith, ap (fate_number 0) e)
dropped_not_kept second_statement e = omega (arith, ap (fate_number 0) e)
dropped_not_kept statement_limit e = omega (arith, ap (fate_number 0) e)
dropped_not_kept unknown_number e = omega (arith, ap (fate_number 0) e)
dropped_not_kept repeat e = omega (arith, ap (fate_number 0) e)
dropped_not_kept objection_limit e = omega (arith, ap (fate_number 0) e)

pub moved_not_kept : moved ≡ kept → ⊥
moved_not_kept e = omega (arith, ap (fate_number 0) e)

pub one_digit_number : (line : ℕ) (fate : Fate) → fate_number line fate < 10
one_digit_number line kept = omega arith
one_digit_number line moved = omega arith
one_digit_number line (dropped unended_line) = omega arith
one_digit_number line (dropped spoiled_line) = omega arith
one_digit_number line (dropped second_statement) = omega arith
one_digit_number line (dropped statement_limit) = omega arith
one_digit_number line (dropped unknown_number) = omega arith
one_digit_number line (dropped repeat) = omega arith
one_digit_number line (dropped objection_limit) = omega arith
