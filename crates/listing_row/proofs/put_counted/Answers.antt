-- `put_counted` puts the number behind the word.
use native.Mathlib.Omega.{arith}
use lib.ListN.{length-append}
use Rattle.register.specs.Texts.{decimal}
use Rattle.room_write.proofs.Writing.{put_more}
use Rattle.listing_row.proofs.put_counted.Goals as goal

pub returns : goal.returns
returns c = put_more c.args.room.now c.args.at c.args.word.now (omega (
  arith,
  length-append c.args.word.now
      (decimal c.args.turns),
)) (decimal c.args.turns)
    c.put_word-end.ensures c.put_decimal.ensures
