-- `put_objection` puts the pieces of a line one behind the other.
use Rattle.register_write.proofs.PutLines.{objection_put}
use Rattle.register_write.proofs.put_objection.Goals as goal

pub returns : goal.returns
returns c = objection_put _ _ _ _ c.requires.1 c.put_word-objector_at.ensures c.put_number-tab.ensures
    c.put_word-target_at.ensures c.put_number-line_end.ensures c.put_word.ensures
