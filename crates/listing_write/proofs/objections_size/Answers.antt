-- `objections_size` adds up the sizes of the rows.
use mathlib.Core.Path.{◌∙◌}
use native.Mathlib.Omega.{arith}
use lib.ListN.{length}
use Rattle.std.proofs.Common.{rules}
use Rattle.std.proofs.lemmas.Iterator.{YieldsList-from_map, YieldsList-from_range}
use Rattle.std.proofs.lemmas.Iterator.Consumers.{sum_from_yields_List, fits_from_yields_list}
use Rattle.listing_row.specs.RegisterRows.{entry_row}
use Rattle.listing_write.specs.ListingParts.{objection_part}
use Rattle.listing_write.proofs.ListingParts.{sizes_summed, objections_small}
use Rattle.listing_write.proofs.objections_size.Goals as goal

pub sum-requires-clause-fits : goal.sum-requires-clause-fits
sum-requires-clause-fits c = let r = c.args.register.now in let m = length r.labelled.pairs.objectors.now in
    fits_from_yields_list c.map.result _ (YieldsList-from_map _ (λ k. length (entry_row r k))
    (YieldsList-from_range 0 m m c.map.ensures.source (omega arith)) c.map.ensures.closure (λ x y q k. search rules)) (omega (
      arith,
      sizes_summed (entry_row r) m,
      objections_small r.numbers.now r.labelled.labels.now r.labelled.lengths.now r.labelled.pairs.objectors.now
          r.labelled.pairs.targets.now m,
      r.labelled.pairs.handed.few_pairs,
    ))

pub returns : goal.returns
unfolding objection_part
returns c = let r = c.args.register.now in let m = length r.labelled.pairs.objectors.now in
    sum_from_yields_List c.map.result _ c.sum.ensures.ran (YieldsList-from_map _ (λ k. length (entry_row r k))
    (YieldsList-from_range 0 m m c.map.ensures.source (omega arith)) c.map.ensures.closure (λ x y q k. search rules))
    ∙ sizes_summed (entry_row r) m
