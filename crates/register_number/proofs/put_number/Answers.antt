-- `put_number` puts the parts that the form has, one behind the other.
use mathlib.Core.List.{◌∷◌}
use mathlib.Core.Path.{ap}
use native.Mathlib.Omega.{arith}
use lib.ListN.{length, length-append}
use Rattle.register.specs.Texts.{decimal}
use Rattle.register_number.proofs.CodeSteps.{plain_bytes, year_bytes, year_room, year_put}
use Rattle.register_number.proofs.put_number.Goals as goal

pub put_decimal-requires : goal.put_decimal-requires
put_decimal-requires c = omega (
  arith,
  c.requires,
  ap length (plain_bytes c.args.number c.form_of.result c.form_of.ensures _ c.in-Plain.is),
)

pub put_decimal-point_at-requires : goal.put_decimal-point_at-requires
put_decimal-point_at-requires c = omega (
  arith,
  c.requires,
  ap length (year_bytes c.args.number c.form_of.result c.form_of.ensures c.in-Year.field-0 c.in-Year.is),
  length-append (decimal c.in-Year.field-0.year) (46 ∷ decimal c.in-Year.field-0.serial),
)

pub put_word-serial_at-requires : goal.put_word-serial_at-requires
put_word-serial_at-requires c = omega (
  arith,
  c.put_decimal-point_at.ensures.ends,
  c.put_decimal-point_at.auto.room,
  year_room c.args.number c.form_of.result c.form_of.ensures _ c.in-Year.is c.args.room.now
      c.args.at c.requires,
)

pub put_decimal-requires-in-Year : goal.put_decimal-requires-in-Year
put_decimal-requires-in-Year c = omega (
  arith,
  c.put_decimal-point_at.ensures.ends,
  c.put_decimal-point_at.auto.room,
  c.put_word-serial_at.ensures.ends,
  c.put_word-serial_at.auto.room,
  year_room c.args.number c.form_of.result c.form_of.ensures _ c.in-Year.is c.args.room.now
      c.args.at c.requires,
)

pub returns-in-Plain : goal.returns-in-Plain
returns-in-Plain c = rw (plain_bytes c.args.number c.form_of.result c.form_of.ensures _ c.in-Plain.is)
    c.put_decimal.ensures

pub returns-in-Year : goal.returns-in-Year
returns-in-Year c = year_put c.args.number c.form_of.result c.form_of.ensures _ c.in-Year.is c.args.room.now
    c.args.at c.requires c.put_decimal-point_at.ensures c.put_word-serial_at.ensures c.put_decimal-in-Year.ensures
