-- `put_verdict` goes by the label: its word and a tab, and then the length or `-`.
use native.Mathlib.Omega.{arith}
use Rattle.listing_row.proofs.Said.{said_falls, said_stands, said_open}
use Rattle.listing_row.proofs.put_verdict.Goals as goal

pub put_counted-requires : goal.put_counted-requires
put_counted-requires c = let p = rw (said_falls c.args.label c.args.turns c.in-2.is) at
    c.requires in omega arith

pub put_counted-requires-in-1 : goal.put_counted-requires-in-1
put_counted-requires-in-1 c = let p = rw (said_stands c.args.label c.args.turns c.in-1.is) at
    c.requires in omega arith

pub returns-in-2 : goal.returns-in-2
returns-in-2 c = rw (said_falls c.args.label c.args.turns c.in-2.is) c.put_counted.ensures

pub returns-in-1 : goal.returns-in-1
returns-in-1 c = rw (said_stands c.args.label c.args.turns c.in-1.is) c.put_counted-in-1.ensures

pub returns-in_default : goal.returns-in_default
returns-in_default c = rw (said_open c.args.label c.args.turns (λ e. omega arith) (λ e. omega arith)) c.put_word.ensures
