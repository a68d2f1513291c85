-- How long the fields and the rows of a listing are, as one set: with it the check shows by itself that sizes fit, and that a
-- room which is long enough for a row is so for each piece of it.
use Rattle.register.proofs.Number.{number_small}
use Rattle.listing.proofs.Rows.{statement_length, objection_length, verdict_small, kind_small}

pub ruleset row_sizes = (number_small, verdict_small, kind_small, statement_length, objection_length)
