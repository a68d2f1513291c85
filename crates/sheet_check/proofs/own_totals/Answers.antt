-- `own_totals` walks the totals beside the counts.
use mathlib.Core.Logic.{◌≢◌}
use mathlib.Core.Path.{◌≡◌}
use lib.ListN.{take}
use borrow.Author.Tests.{tests}
use Rattle.std.proofs.Common.{rules}
use Rattle.std.proofs.lemmas.Iterator.{cases_from_all, YieldsList-from_slice, YieldsList-from_zip}
use Rattle.sheet_check.proofs.SheetWalks.{own_decided}
use Rattle.sheet_check.proofs.own_totals.Goals as goal

pub returns : goal.returns
returns c = own_decided c.args.counts.now c.args.totals.now c.requires c.all.result
    (cases_from_all c.all.new.self _ _ (λ p. p.0 ≡ p.1) (λ p. p.0 ≢ p.1) c.all.ensures.ran
    (YieldsList-from_zip (YieldsList-from_slice (take 3 c.args.counts.now) cc) (YieldsList-from_slice c.args.totals.now cc))
    (λ x q k. search (rules, tests)) (λ x q k. search (rules, tests)))
