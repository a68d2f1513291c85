-- `settle_statements`: the invariant says what is settled of the lines passed, and which lines are left.
use mathlib.Core.Path.{refl}
use Prim.Native.Nat.{◌<◌}
use native.Mathlib.Omega.{arith}
use lib.ListN.{length}
use Rattle.std.proofs.Common.{rules}
use Rattle.mend.proofs.TextLines.{lines_exist}
use Rattle.mend_text.proofs.Loops.{fate_room, stating_first, stating_next, stating_last}
use Rattle.mend_text.proofs.settle_statements.Goals as goal

pub loop-at-init : goal.loop-at-init
loop-at-init c = let (ls, lines) = lines_exist c.args.text.now in
    let none = c.requires.indexed.0 in
    record {
      settled = (
        ls,
        rw none (stating_first c.args.text.now ls c.args.index.now.numbers.now c.args.marks.now c.args.index.now.links.now
            c.args.fates.now lines (rw none at c.requires.indexed.1)),
      );
      same = (refl, refl, refl);
    }

pub bounds-fates-k : goal.bounds-fates-k
bounds-fates-k c = let (ls, v) = c.loop-at.invariant.settled in
    let room = fate_room c.args.text.now ls c.loop-at.at c.loop-at.k v.rest v.lines_of v.place c.loop-at-test.true
    c.requires.text_len_bound.0 in
    omega (arith, room, c.requires.text_len_bound.1.2)

pub overflow_add-k : goal.overflow_add-k
overflow_add-k c = let (ls, v) = c.loop-at.invariant.settled in
    let room = fate_room c.args.text.now ls c.loop-at.at c.loop-at.k v.rest v.lines_of v.place c.loop-at-test.true
    c.requires.text_len_bound.0 in
    omega (arith, room)

pub loop-at-smaller : goal.loop-at-smaller
loop-at-smaller c = let (ls, v) = c.loop-at.invariant.settled in
    let one = c.pass_statement-pass.ensures.passed v.rest v.S v.place.left v.stated in
    omega (arith, one.passed.onward, one.passed.within)

pub loop-at-preserved : goal.loop-at-preserved
loop-at-preserved c = let (ls, v) = c.loop-at.invariant.settled in
    let room = fate_room c.args.text.now ls c.loop-at.at c.loop-at.k v.rest v.lines_of v.place c.loop-at-test.true
    c.requires.text_len_bound.0 in
    let within : c.loop-at.k < length c.loop-at.fates = omega (arith, room, c.requires.text_len_bound.1.2) in
    record {
      settled = (
        ls,
        stating_next c.args.text.now ls c.loop-at.at c.loop-at.index.n c.loop-at.k c.loop-at.late c.loop-at.index.numbers.now
            c.loop-at.marks c.loop-at.index.links.now c.loop-at.fates v within c.pass_statement-pass.result _ _ _ _
            (c.pass_statement-pass.ensures.passed v.rest v.S v.place.left v.stated),
      );
      same = search rules;
    }

pub returns-clause-settled : goal.returns-clause-settled
returns-clause-settled c = let (ls, v) = c.loop-at.invariant.settled in (
  ls,
  stating_last c.args.text.now ls c.loop-at.at c.loop-at.index.n c.loop-at.k c.loop-at.late c.loop-at.index.numbers.now
      c.loop-at.marks c.loop-at.index.links.now c.loop-at.fates v c.loop-at-test.false,
)
