-- `settle` asks for 7, then for 8, then how long the old form is.
use native.Mathlib.Omega.{arith}
use Rattle.pair_chain.proofs.ChainSteps.{all_zero}
use Rattle.register_write.proofs.Copied.{made_copyable, made_size}
use Rattle.catalogue_read.proofs.Settled.{in_line, unknown_card, all_listed, repeated_card, passed}
use Rattle.catalogue_read.proofs.settle.Goals as goal

pub place_objectors-requires : goal.place_objectors-requires
place_objectors-requires c = (
  c.requires.indexed.0,
  in_line c.requires.filed.0 _ _ _ _ _ c.requires.filed.1 (omega (arith, c.requires.indexed.1)),
)

pub returns-in-Err : goal.returns-in-Err
returns-in-Err c = λ cs filed. unknown_card cs _ _ _ _ _ filed _ _ c.in-Err.ensures

pub repeat_line-requires-clause-in_line : goal.repeat_line-requires-clause-in_line
repeat_line-requires-clause-in_line c = rw c.place_objectors.auto.objectors
    (in_line c.requires.filed.0 _ _ _ _ _ c.requires.filed.1 (omega (arith, c.requires.indexed.1)))

pub repeat_line-requires-clause-none_named : goal.repeat_line-requires-clause-none_named
repeat_line-requires-clause-none_named c = all_zero 1024

pub returns-in-Some : goal.returns-in-Some
returns-in-Some c = λ cs filed. (
  all_listed cs _ _ _ _ _ filed _ c.in_default.ensures,
  repeated_card cs _ _ _ _ _ filed _ c.in_default.ensures _ (rw c.place_objectors.auto.objectors at c.in-Some.ensures),
)

pub register_size-requires : goal.register_size-requires
register_size-requires c = made_copyable _ _ _ _ _ (passed c.requires.filed.0 _ _ _ _ _ c.requires.filed.1 _ c.in_default.ensures
    (rw c.place_objectors.auto.objectors at c.in_default-repeat_line.ensures) c.place_objectors.auto.objectors
    c.requires.indexed.1).made

pub returns-then-register_size-gt65535 : goal.returns-then-register_size-gt65535
returns-then-register_size-gt65535 c = λ cs filed.
    let p = passed cs _ _ c.args.index.now.numbers.now _ c.args.targets.now filed c.place_objectors.new.objectors
    c.in_default.ensures (rw c.place_objectors.auto.objectors at c.in_default-repeat_line.ensures)
    c.place_objectors.auto.objectors c.requires.indexed.1 in
    (p.listed, p.once, omega (arith, made_size _ _ _ _ _ p.made _ c.register_size.ensures))

pub returns : goal.returns
returns c = λ cs filed.
    let p = passed cs _ _ c.args.index.now.numbers.now _ c.args.targets.now filed c.place_objectors.new.objectors
    c.in_default.ensures (rw c.place_objectors.auto.objectors at c.in_default-repeat_line.ensures)
    c.place_objectors.auto.objectors c.requires.indexed.1 in
    (p.listed, p.once, omega (arith, made_size _ _ _ _ _ p.made _ c.register_size.ensures), p.made.objectors_are)
