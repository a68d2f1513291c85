-- `statements_size` adds up the sizes of the rows.
use mathlib.Core.Path.{◌∙◌}
use native.Mathlib.Omega.{arith}
use lib.ListN.{length}
use Rattle.std.proofs.Common.{rules}
use Rattle.std.proofs.lemmas.Iterator.{YieldsList-from_map, YieldsList-from_range}
use Rattle.std.proofs.lemmas.Iterator.Consumers.{sum_from_yields_List, fits_from_yields_list}
use Rattle.listing_row.specs.RegisterRows.{place_row}
use Rattle.listing_write.specs.ListingParts.{statement_part}
use Rattle.listing_write.proofs.ListingParts.{sizes_summed, statements_small}
use Rattle.listing_write.proofs.statements_size.Goals as goal

pub sum-requires-clause-fits : goal.sum-requires-clause-fits
sum-requires-clause-fits c = let r = c.args.register.now in let n = length r.numbers.now in
    fits_from_yields_list c.map.result _ (YieldsList-from_map _ (λ x. length (place_row r x))
    (YieldsList-from_range 0 n n c.map.ensures.source (omega arith)) c.map.ensures.closure (λ x y q k. search rules)) (omega (
      arith,
      sizes_summed (place_row r) n,
      statements_small r.numbers.now r.labelled.labels.now r.labelled.lengths.now n,
      r.numbered,
      r.labelled.pairs.handed.few_marks,
    ))

pub returns : goal.returns
unfolding statement_part
returns c = let r = c.args.register.now in let n = length r.numbers.now in
    sum_from_yields_List c.map.result _ c.sum.ensures.ran (YieldsList-from_map _ (λ x. length (place_row r x))
    (YieldsList-from_range 0 n n c.map.ensures.source (omega arith)) c.map.ensures.closure (λ x y q k. search rules))
    ∙ sizes_summed (place_row r) n
