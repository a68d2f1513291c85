-- `put_objection` puts the pieces of a row one behind the other.
use Rattle.game.specs.Account.{kind_account}
use Rattle.listing_row.proofs.RowPieces.{objection_put}
use Rattle.listing_row.proofs.put_objection.Goals as goal

pub returns : goal.returns
returns c = objection_put c.args.room.now c.args.at c.args.objector c.args.target (kind_account c.args.kind) c.requires
    c.put_number-first_tab.ensures c.put_word-against.ensures c.put_number-second_tab.ensures c.put_word-fields.ensures
    c.put_kind-objection_end.ensures
    c.put_word.ensures
