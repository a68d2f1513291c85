-- `verdict_size` goes by the label.
use mathlib.Core.Path.{refl}
use native.Mathlib.Omega.{arith}
use Rattle.listing_row.proofs.Said.{said_falls, said_stands, said_open}
use Rattle.listing_row.proofs.verdict_size.Goals as goal

pub returns-in-2 : goal.returns-in-2
returns-in-2 c = rw (said_falls c.args.label c.args.turns c.in-2.is) (omega arith)

pub returns-in-1 : goal.returns-in-1
returns-in-1 c = rw (said_stands c.args.label c.args.turns c.in-1.is) (omega arith)

pub returns-in_default : goal.returns-in_default
returns-in_default c = rw (said_open c.args.label c.args.turns (λ e. omega arith) (λ e. omega arith)) refl
