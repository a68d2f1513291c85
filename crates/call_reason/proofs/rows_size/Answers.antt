-- `rows_size` adds up the rows. The invariant: the total is the size of the rows passed.
use mathlib.Core.Path.{sym, ap}
use Prim.Native.Nat.{◌+◌}
use native.Mathlib.Omega.{arith}
use lib.ListN.{length}
use Rattle.register.proofs.TextRows.{no_rows, rows_longer}
use Rattle.call_reason.specs.ReasonRows.{chosen_at}
use Rattle.call_reason.proofs.ReasonRows.{chosen_row, passed_row, chosen_small, chosen_all}
use Rattle.call_reason.proofs.rows_size.Goals as goal
use Rattle.call_reason.proofs.rows_size.Goals.{then-tick-ne0, else-tick-ne0}

pub loop-k-init : goal.loop-k-init
loop-k-init c = sym (ap length (no_rows (chosen_at c.args.register.now c.args.inside.now)))

pub overflow_add-total : goal.overflow_add-total
overflow_add-total c = omega (
  arith,
  chosen_small c.args.register.now c.args.inside.now (c.loop-k.k + 1),
  rows_longer (chosen_at c.args.register.now c.args.inside.now) c.loop-k.k,
  ap length (chosen_row c.args.register.now c.args.inside.now c.loop-k.k c.if-tick-ne0.true),
  c.entry_size-total.ensures,
  c.args.register.now.labelled.pairs.handed.few_pairs,
)

pub loop-k-preserved : goal.loop-k-preserved
loop-k-preserved c =
    let longer = rows_longer (chosen_at c.args.register.now c.args.inside.now) c.loop-k.k in
    elim c.if-tick-ne0.branch [
      | then-tick-ne0 w ↦ omega (
        arith,
        c.loop-k.invariant,
        w.total-is,
        w.entry_size-total.ensures,
        longer,
        ap length (chosen_row c.args.register.now c.args.inside.now c.loop-k.k w.if-tick-ne0.true),
      )
      | else-tick-ne0 w ↦ omega (
        arith,
        c.loop-k.invariant,
        w.total-is,
        longer,
        ap length (passed_row c.args.register.now c.args.inside.now c.loop-k.k w.if-tick-ne0.false),
      )
    ]

pub returns : goal.returns
returns c = omega (arith, ap length (chosen_all c.args.register.now c.args.inside.now c.loop-k.k (omega arith)))
