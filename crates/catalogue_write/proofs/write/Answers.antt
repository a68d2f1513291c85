-- `write` chains the objections, and puts the cards.
use mathlib.Core.Path.{ap, sym}
use native.Mathlib.Omega.{arith}
use lib.ListN.{length}
use Rattle.pair_chain.proofs.ChainSteps.{all_zero}
use Rattle.room_write.proofs.Writing.{put_start}
use Rattle.catalogue_write.specs.CatalogueRows.{register_cards}
use Rattle.catalogue_write.proofs.CatalogueTold.{lists_catalogued}
use Rattle.catalogue_write.proofs.write.Goals as goal

pub chain_back-requires-clause-empty : goal.chain_back-requires-clause-empty
chain_back-requires-clause-empty c = all_zero 1024

pub put_cards-requires-clause-room_for : goal.put_cards-requires-clause-room_for
put_cards-requires-clause-room_for c = omega (arith, c.requires.2, ap length (lists_catalogued _ _ _ _ _ c.requires.1))

pub returns : goal.returns
returns c R made =
    rw (sym (lists_catalogued _ _ _ _ _ made))
    (put_start c.args.room.now (register_cards c.args.register.now) c.put_cards.ensures)
