-- `spare_clear` walks the places from n on that lie on the sheet.
use mathlib.Core.Logic.{◌≢◌}
use mathlib.Core.Path.{refl, ◌≡◌}
use Prim.Native.Nat.{◌*◌}
use lib.ListN.{length}
use borrow.Author.Tests.{tests}
use Rattle.std.proofs.Common.{rules}
use Rattle.std.proofs.lemmas.Iterator.{cases_from_all, YieldsList-from_range}
use Rattle.sheet.specs.Sheet.{code_at}
use Rattle.sheet_check.proofs.SheetWalks.{spare_decided}
use Rattle.sheet_check.proofs.spare_clear.Goals as goal

pub returns : goal.returns
returns c = spare_decided c.args.n c.args.sheet.now c.all.result
    (cases_from_all _ _ _ (λ x. code_at c.args.sheet.now x ≡ 0) (λ x. code_at c.args.sheet.now x ≢ 0) c.all.ensures.ran
    (YieldsList-from_range c.args.n (4 * length c.args.sheet.now) _ refl refl) (λ x q k. search (rules, tests))
    (λ x q k. search (rules, tests)))
