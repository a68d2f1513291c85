-- `put_numbers` puts the pieces of the line one behind the other.
use Rattle.listing_row.proofs.RowPieces.{numbers_put}
use Rattle.listing_row.proofs.put_numbers.Goals as goal

pub returns : goal.returns
returns c = numbers_put c.args.room.now c.args.at c.args.word.now c.args.first c.args.second c.requires
    c.put_word-first_tab.ensures
    c.put_word-first_at.ensures c.put_decimal-second_tab.ensures c.put_word-second_at.ensures c.put_decimal-end.ensures
    c.put_word.ensures
