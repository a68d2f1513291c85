-- `put_statement` puts the pieces of a line one behind the other.
use Rattle.register_write.proofs.PutLines.{statement_put}
use Rattle.register_write.proofs.put_statement.Goals as goal

pub returns : goal.returns
returns c = statement_put _ _ _ _ c.requires c.put_word-number_at.ensures c.put_number-mark_at.ensures c.put_mark.ensures
