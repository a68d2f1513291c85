-- `number_size` adds the sizes of the parts that the form has.
use mathlib.Core.List.{◌∷◌}
use mathlib.Core.Path.{ap, sym, ◌∙◌}
use native.Mathlib.Omega.{arith}
use lib.ListN.{length, length-append}
use Rattle.register.specs.Texts.{decimal}
use Rattle.register.proofs.Digits.{ten_digits}
use Rattle.register_number.proofs.CodeSteps.{plain_bytes, year_bytes}
use Rattle.register_number.proofs.number_size.Goals as goal

pub overflow_add-result : goal.overflow_add-result
overflow_add-result c = omega (arith, c.decimal_size-in-Year.ensures, ten_digits c.in-Year.field-0.year)

pub overflow_add-result-in-Year : goal.overflow_add-result-in-Year
overflow_add-result-in-Year c = omega (
  arith,
  c.decimal_size-in-Year.ensures,
  c.decimal_size-in-Year-2.ensures,
  ten_digits c.in-Year.field-0.year,
  ten_digits c.in-Year.field-0.serial,
)

pub returns-in-Plain : goal.returns-in-Plain
returns-in-Plain c = c.decimal_size.ensures ∙ sym (ap length (plain_bytes c.args.number c.form_of.result
    c.form_of.ensures _ c.in-Plain.is))

pub returns-in-Year : goal.returns-in-Year
returns-in-Year c = omega (
  arith,
  c.decimal_size-in-Year.ensures,
  c.decimal_size-in-Year-2.ensures,
  ap length (year_bytes c.args.number c.form_of.result c.form_of.ensures c.in-Year.field-0 c.in-Year.is),
  length-append (decimal c.in-Year.field-0.year) (46 ∷ decimal c.in-Year.field-0.serial),
)
