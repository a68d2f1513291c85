-- `put_begin` puts the pieces one behind the other.
use Rattle.catalogue_write.proofs.CardPieces.{begin_put}
use Rattle.catalogue_write.proofs.put_begin.Goals as goal

pub returns : goal.returns
returns c = begin_put _ _ c.args.number c.args.mark c.requires c.put_word-number_at.ensures c.put_number-mark_at.ensures
    c.put_mark.ensures
