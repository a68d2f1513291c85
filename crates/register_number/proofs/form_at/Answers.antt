-- `form_at`: digits, and what follows them tells a plain number from a year.
use native.Mathlib.Omega.{arith}
use Rattle.register_number.proofs.FormSteps.{plain_found, year_outside, no_serial, year_found}
use Rattle.register_number.proofs.form_at.Goals as goal

pub returns-then-byte_at-ne46 : goal.returns-then-byte_at-ne46
returns-then-byte_at-ne46 c = plain_found c.args.s.now c.args.at _ _ _ (rw c.in_ok-value.was at c.digits_at.ensures)
    (omega arith)
    (λ e. omega (arith, c.byte_at.ensures))

pub returns-then-value-lt1000 : goal.returns-then-value-lt1000
returns-then-value-lt1000 c = year_outside c.args.s.now c.args.at _ _ _ (rw c.in_ok-value.was at c.digits_at.ensures)
    (omega arith)
    (omega (arith, c.byte_at.ensures)) (λ w. omega (arith, w.0))

pub returns-then-value-gt2099 : goal.returns-then-value-gt2099
returns-then-value-gt2099 c = year_outside c.args.s.now c.args.at _ _ _ (rw c.in_ok-value.was at c.digits_at.ensures)
    (omega arith)
    (omega (arith, c.byte_at.ensures)) (λ w. omega (arith, w.1))

pub returns-in_err-serial : goal.returns-in_err-serial
returns-in_err-serial c = rw c.from_residual-in_err-serial.ensures
    (no_serial c.args.s.now c.args.at _ _ _ (rw c.in_ok-value.was at c.digits_at.ensures) (omega arith)
    (omega (arith, c.byte_at.ensures)) _ (rw c.in_err-serial.was at c.digits_at-2.ensures) (omega arith))

pub returns : goal.returns
returns c = year_found c.args.s.now c.args.at _ _ _ (rw c.in_ok-value.was at c.digits_at.ensures)
    (omega arith)
    (omega (arith, c.byte_at.ensures)) (omega arith) (omega arith) _ _ _
    (rw c.in_ok-serial.was at c.digits_at-2.ensures) (omega arith)
