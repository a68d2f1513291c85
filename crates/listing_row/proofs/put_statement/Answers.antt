-- `put_statement` puts the pieces of a row one behind the other.
use Rattle.listing_row.specs.Said.{account_said}
use Rattle.listing_row.proofs.RowPieces.{statement_put}
use Rattle.listing_row.proofs.put_statement.Goals as goal

pub returns : goal.returns
returns c = statement_put c.args.room.now c.args.at c.args.number (account_said c.args.label c.args.turns) c.requires
    c.put_number-tab.ensures c.put_word-verdict.ensures c.put_verdict-statement_end.ensures c.put_word.ensures
