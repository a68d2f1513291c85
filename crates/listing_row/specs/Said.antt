-- Not for callers of the product: the verdict that the numbers of a label and a length say, and what is told of it.
use Rattle.std.specs.Prelude.{Bool, true, false, ℕ, eqb}
use Rattle.game.specs.Label.{Verdict, falls, stands, is_open}
use Rattle.game.specs.Account.{Account, verdict_account}

-- the verdict that the numbers of a label and a length say
abbrev pub pick_verdict : Bool → Verdict → Verdict → Verdict
pick_verdict true v w = v
pick_verdict false v w = w

unfoldable pub said : (label length : ℕ) → Verdict
said label n = pick_verdict (eqb label 2) (falls n) (pick_verdict (eqb label 1) (stands n) is_open)

abbrev pub account_said : (label length : ℕ) → Account
account_said label n = verdict_account (said label n)
