-- `put_decimal` puts the digits of a hundredth first, and then the last two.
use native.Mathlib.Omega.{arith}
use Rattle.room_write.proofs.Writing.{put_more}
use Rattle.room_write.proofs.TwoDigits.{decimal_hundredth, digits_more}
use Rattle.room_write.proofs.+put_decimal.Goals as goal

pub returns : goal.returns
returns t c =
    rw (decimal_hundredth c.args.number (omega arith) (omega arith))
    (put_more _ _ _ (omega (arith, digits_more c.args.number (omega arith) (omega arith))) _ c.put_decimal-end.ensures
    c.put_digits-2.ensures)
