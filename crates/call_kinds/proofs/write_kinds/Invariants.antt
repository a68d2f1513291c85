-- `write_kinds`: the invariant is that both rooms begin with the objections passed.
use Rattle.game.specs.Account.{account_number, account_length}
use Rattle.promises.specs.KindCalls.{Objections}
use Rattle.call_kinds.proofs.write_kinds.Given as goal

abbrev pub invariant-loop-k : goal.invariant-loop-k
invariant-loop-k l = let p = l.labelled.pairs in
    Objections p.marks.now p.objectors.now p.targets.now account_number l.k l.initial.kinds l.kinds
    × Objections p.marks.now p.objectors.now p.targets.now account_length l.k l.initial.lengths l.lengths
