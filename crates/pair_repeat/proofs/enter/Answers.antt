-- `enter` stores the objection with its two links, and begins both chains there.
use Rattle.pair_repeat.proofs.Entered.{objectors_more, targets_more, chains_more}
use Rattle.pair_repeat.proofs.enter.Goals as goal

pub returns : goal.returns
returns c =
    let chains = c.requires.entered in
    simp (c.put_pair.ensures, c.put_begins.ensures, c.put_link_by.ensures)
    (simp (c.begin_against-against.ensures, c.begin_by-by.ensures) (
      chains_more _ _ _ _ chains.0 chains.1 _ _ chains.2 chains.3 c.requires.new,
      objectors_more _ _ _ _ chains.0 chains.1 _ _ chains.2 chains.3 c.requires.new,
      targets_more _ _ _ _ chains.0 chains.1 _ _ chains.2 chains.3 c.requires.new,
    ))
