-- `put_card` puts the pieces of a card one behind the other.
use Rattle.catalogue_write.proofs.CardPieces.{card_put}
use Rattle.catalogue_write.proofs.put_card.Goals as goal

pub returns : goal.returns
returns c = card_put _ _ c.args.register.now.numbers.now c.args.register.now.pairs.marks.now
    c.args.register.now.pairs.objectors.now c.args.register.now.pairs.targets.now c.args.x c.requires.room_for
    c.put_begin-fields_at.ensures c.put_fields-end.ensures c.put_word.ensures
