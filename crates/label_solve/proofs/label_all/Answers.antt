-- `label_all` prepares the chains, the counters and the queue, each in a room of its own.
use mathlib.Core.List.{List}
use mathlib.Core.Path.{◌≡◌, sym, subst₂}
use Prim.Native.Nat.{ℕ}
use native.Mathlib.Omega.{arith}
use lib.ListN.{get_or-replicate}
use Rattle.std.proofs.Common.{rules}
use Rattle.game.specs.Book.{Book}
use Rattle.pair_chain.proofs.ChainSteps.{all_zero}
use Rattle.label_solve.specs.Labelled.{Labelled}
use Rattle.label_solve.proofs.label_all.Goals as goal

pub chain-requires-clause-empty : goal.chain-requires-clause-empty
chain-requires-clause-empty c = λ x. all_zero 1024 x

pub count-requires-clause-none_counted : goal.count-requires-clause-none_counted
count-requires-clause-none_counted c =
    λ x h. get_or-replicate 1024 x 0 0 (omega (arith, c.args.pairs.now.handed.few_marks))

-- what came back is what was lent
come_back : (B : Book) (labels lengths p q : List ℕ) → p ≡ labels → q ≡ lengths → Labelled B labels lengths → Labelled B p q
come_back B labels lengths p q e f l = subst₂ (Labelled B) (sym e) (sym f) l

pub returns : goal.returns
returns c = come_back _ _ _ _ _ (search rules) (search rules) c.run.ensures.labelled
