-- `digits_at` goes over the digits. The invariant: those passed are the digits of the value, and at most so many.
use mathlib.Core.Path.{subst, sym, ◌≡◌}
use Prim.Native.Nat.{◌+◌}
use native.Mathlib.Omega.{arith}
use Rattle.register_number.specs.NumberReading.{byte_at, digit_of}
use Rattle.register_number.proofs.NumberSteps.{begin, turn, whole, too_many, zero_first, none_first}
use Rattle.register_number.proofs.NumberSteps.{below_last}
use Rattle.register_number.proofs.digits_at.Goals as goal

pub returns-then-first-eq0 : goal.returns-then-first-eq0
returns-then-first-eq0 c = zero_first c.args.most (omega arith) (omega arith) c.args.s.now _ _ c.digit_at-first.ensures
    (omega arith)

pub returns-then-first-gt9 : goal.returns-then-first-gt9
returns-then-first-gt9 c = none_first c.args.most (omega arith) (omega arith) c.args.s.now _ _ c.digit_at-first.ensures
    (omega arith)

pub loop-i-init : goal.loop-i-init
loop-i-init c = begin _ (omega arith) (omega arith) _ _ _ c.digit_at-first.ensures (λ e. omega arith) (omega arith)

pub returns-then-digit-gt9 : goal.returns-then-digit-gt9
returns-then-digit-gt9 c = whole c.args.most (omega arith) (omega arith) c.args.s.now _ _ _ c.loop-i.invariant _
    c.digit_at-digit.ensures c.if-digit-gt9.true

pub overflow_mul-value : goal.overflow_mul-value
overflow_mul-value c = omega (
  arith,
  below_last c.args.most (omega arith) (omega arith) c.args.s.now _ _ _ c.loop-i.invariant
      (omega arith),
)

pub overflow_add-value : goal.overflow_add-value
overflow_add-value c = omega (
  arith,
  below_last c.args.most (omega arith) (omega arith) c.args.s.now _ _ _ c.loop-i.invariant
      (omega arith),
)

pub loop-i-preserved : goal.loop-i-preserved
loop-i-preserved c = turn _ (omega arith) (omega arith) _ _ _ _ c.loop-i.invariant _ c.digit_at-digit.ensures
    c.if-digit-gt9.false (omega arith)

pub returns-then-digit_at-lt10 : goal.returns-then-digit_at-lt10
returns-then-digit_at-lt10 c =
    let end : c.loop-i.i ≡ c.args.at + c.args.most = omega arith in
    too_many c.args.most (omega arith) (omega arith) c.args.s.now _ _ _ c.loop-i.invariant _
    (subst (λ i. c.digit_at.result ≡ digit_of (byte_at c.args.s.now i)) (sym end) c.digit_at.ensures)
    c.if-digit_at-lt10.true (omega arith)
