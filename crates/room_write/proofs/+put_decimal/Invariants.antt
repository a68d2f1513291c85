-- `put_decimal` puts the digits of a hundredth first, and then the last two.
use Rattle.room_write.proofs.+put_decimal.Given as goal

abbrev pub decreases-put_decimal : goal.decreases-put_decimal
decreases-put_decimal l = l.number
