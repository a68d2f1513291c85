-- `size` adds up the statement lines and the fields.
use mathlib.Core.List.{[]}
use mathlib.Core.Path.{ap}
use native.Mathlib.Omega.{arith}
use lib.ListN.{length}
use Rattle.register_write.proofs.Copied.{numbered_copyable, statements_small}
use Rattle.catalogue_write.proofs.CatalogueSize.{fields_small, catalogued_length}
use Rattle.catalogue_write.proofs.CatalogueTold.{lists_catalogued}
use Rattle.catalogue_write.proofs.size.Goals as goal

pub overflow_add-result : goal.overflow_add-result
overflow_add-result c =
    let ok = numbered_copyable c.args.register.now in
    omega (
      arith,
      ok.few_numbers,
      ok.few_pairs,
      c.statements_size.ensures [],
      statements_small c.args.register.now.numbers.now [] (length c.args.register.now.numbers.now),
      fields_small c.args.register.now.numbers.now c.args.register.now.pairs.objectors.now
          (length c.args.register.now.pairs.objectors.now),
    )

pub returns : goal.returns
returns c R made = omega (
  arith,
  ap length (lists_catalogued R _ _ _ _ made),
  catalogued_length c.args.register.now.numbers.now c.args.register.now.pairs.objectors.now c.args.register.now.pairs.marks.now
      c.args.register.now.pairs.targets.now (numbered_copyable c.args.register.now),
  c.statements_size.ensures c.args.register.now.pairs.marks.now,
  c.fields_size.ensures,
)
