-- `settle_objections`: the invariant says what is settled of the lines passed, for the lines that the text has.
use Prim.Native.Nat.{◌<◌, ◌≤◌}
use native.Mathlib.Omega.{arith}
use lib.ListN.{length}
use Rattle.pair_words.specs.Words.{objectors_in, targets_in}
use Rattle.mend.proofs.TextLines.{few_lines}
use Rattle.mend_text.proofs.Loops.{fate_room, objecting_next, objecting_last, settled_back}
use Rattle.mend_text.proofs.settle_objections.Goals as goal

pub pass_objection-pass-requires-clause-at_in_bounds : goal.pass_objection-pass-requires-clause-at_in_bounds
pass_objection-pass-requires-clause-at_in_bounds c = let (ls, v) = c.loop-at.invariant.settled in
    let room = fate_room c.args.text.now ls c.loop-at.at c.loop-at.k v.rest v.lines_of v.place c.loop-at-test.true
    c.requires.text_len_bound.0 in (
      c.loop-at-test.true,
      omega (arith, room, c.requires.text_len_bound.1.2),
      omega (arith, v.valid.few_objections, v.holds.objections),
      omega (arith, c.requires.text_len_bound.1.1),
    )

pub overflow_add-k : goal.overflow_add-k
overflow_add-k c = let (ls, v) = c.loop-at.invariant.settled in
    let room = fate_room c.args.text.now ls c.loop-at.at c.loop-at.k v.rest v.lines_of v.place c.loop-at-test.true
    c.requires.text_len_bound.0 in
    omega (arith, room)

pub loop-at-smaller : goal.loop-at-smaller
loop-at-smaller c = let (ls, v) = c.loop-at.invariant.settled in
    let one = c.pass_objection-pass.ensures.0 v.rest v.R v.place.left v.valid v.holds in
    omega (arith, one.passed.onward, one.passed.within)

pub loop-at-preserved : goal.loop-at-preserved
loop-at-preserved c = let (ls, v) = c.loop-at.invariant.settled in
    let room = fate_room c.args.text.now ls c.loop-at.at c.loop-at.k v.rest v.lines_of v.place c.loop-at-test.true
    c.requires.text_len_bound.0 in
    let within : c.loop-at.k < length c.loop-at.fates = omega (arith, room, c.requires.text_len_bound.1.2) in
    let few : length ls ≤ length c.loop-at.fates = omega
    (arith, few_lines c.args.text.now ls v.lines_of, c.requires.text_len_bound.0, c.requires.text_len_bound.1.2) in
    record {
      settled = (
        ls,
        objecting_next c.args.text.now ls c.loop-at.at c.args.index.now.n c.loop-at.m c.loop-at.k c.args.index.now.numbers.now
            c.loop-at.marks (objectors_in c.loop-at.objectors) (targets_in c.loop-at.objectors) c.loop-at.fates v within few
            c.pass_objection-pass.result _ _ _ _
            (c.pass_objection-pass.ensures.0 v.rest v.R v.place.left v.valid v.holds),
      );
      entered = c.pass_objection-pass.ensures.1;
    }

pub returns : goal.returns
returns c = let (ls, v) = c.loop-at.invariant.settled in
    let kept = objectors_in c.loop-at.objectors in
    let against = targets_in c.loop-at.objectors in
    let last = objecting_last c.args.text.now ls c.loop-at.at c.args.index.now.n c.loop-at.m c.loop-at.k
    c.args.index.now.numbers.now c.loop-at.marks kept against
    c.loop-at.fates v c.loop-at-test.false in
    record {
      ls = ls;
      lines_of = v.lines_of;
      counted = last.1;
      settled =
          settled_back ls c.args.index.now.n c.loop-at.m c.args.index.now.numbers.now c.loop-at.marks kept against
          c.loop-at.fates _ _ last.0
          c.unpack.ensures.0 c.unpack.ensures.1;
    }
