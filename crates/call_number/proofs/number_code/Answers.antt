-- `number_code` reads a number at the start, and holds its end against the end of what is written.
use mathlib.Core.Path.{◌≡◌}
use native.Mathlib.Omega.{arith}
use Rattle.std.specs.Prelude.{Some, None}
use Rattle.std.proofs.lemmas.Result.{err_from_is_err_and}
use Rattle.answer.specs.declared.Refusal.TheVariants.{Text}
use Rattle.register.specs.declared.TextFault.TheVariants.{Spoiled}
use Rattle.call_number.proofs.WholeNumber.{not_read, more_behind, all_read}
use Rattle.call_number.proofs.number_code.Goals as goal

pub returns-in_err-number : goal.returns-in_err-number
returns-in_err-number c =
    let none : c.number_at.result ≡ None = grind arith in
    let p = err_from_is_err_and c.from_residual.result c.from_residual.ensures.1 in
    let refused : c.in_err-number.field-0.0 ≡ Text (Spoiled 0) = grind arith in
    rw (p.1, p.2, refused) (not_read c.args.written.now (rw none at c.number_at.ensures))

pub returns-then-end-written : goal.returns-then-end-written
returns-then-end-written c =
    let read : c.number_at.result ≡ Some (c.in_ok-number.number, c.in_ok-number.end) = grind arith in
    more_behind c.args.written.now _ _ (rw read at c.number_at.ensures) (λ e. omega arith)

pub returns : goal.returns
returns c =
    let read : c.number_at.result ≡ Some (c.in_ok-number.number, c.in_ok-number.end) = grind arith in
    all_read c.args.written.now _ _ (rw read at c.number_at.ensures) c.if-end-written.false
