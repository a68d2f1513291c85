-- From what the library promises of mending to what the program prints and reports.
use mathlib.Core.List.{List}
use mathlib.Core.Logic.{inl, inr}
use mathlib.Core.Path.{ap, ◌∙◌}
use Prim.Native.Nat.{ℕ, ◌*◌, ◌≤◌}
use native.Mathlib.Omega.{arith}
use lib.ListN.{length}
use Rattle.std.specs.Prelude.{Option, Some, None}
use Rattle.answer.specs.Refusals.{refusal_number, refusal_place}
use Rattle.answer.specs.declared.Refusal.{Refusal}
use Rattle.register.specs.Register.{written}
use Rattle.listing.specs.Rows.{refused_row}
use Rattle.answer.specs.Answer.{Short, RefusedOn}
use Rattle.std.specs.Prelude.{Ok, Err}
use Rattle.mend.specs.Mended.{mended, fates}
use Rattle.mend.proofs.Valid.{never_longer}
use Rattle.mend.specs.Report.{report_of}
use Rattle.promises.specs.MendCalls.{Lined, LinesRefused, MendedShort, Lent, TextMend}
use Rattle.mend.proofs.Reported.{report_short}
use Rattle.program_stream.specs.PutAnswer.{PutOf}
use Rattle.program_stream.proofs.PutAnswer.{begins}
use Rattle.promises.specs.Programs.{Mends}
use Rattle.program_mend.specs.Sizes.{Inside, outcome_in}

abbrev Settled : (text : List ℕ) → (printed : ℕ) → Option ℕ → (room report : List ℕ) → Type 0
Settled text printed reported room report =
    Inside printed reported room report × Mends text (outcome_in printed reported room report)

module _ (s room report : List ℕ) (found : ℕ) (long : 65535 ≤ length room) (report-long : 16 * 65535 ≤ length report) where
  -- neither room is ever too short
  too_long : (r : Refusal) → RefusedOn (Lined s) (LinesRefused s) (λ ls. Short (MendedShort ls (room, report, found))) r
      → LinesRefused s r
  too_long r (inl p) = p
  too_long r (inr (ls, (h, is), (inl short, e))) = absurd (omega (arith, long, short, h, never_longer s ls is))
  too_long r (inr (ls, (h, is), (inr short, e))) = absurd (omega (arith, report-long, short, report_short s ls h is))

  pub refused_put : (r : Refusal) (after : Lent) → TextMend s (room, report, found) (Err r) after → (n : ℕ) (put : List ℕ)
      → PutOf (Err r) after.0 n put → Settled s n None put after.1
  refused_put r after (p, same) n put w =
      let (over, is) = too_long r p in
      let (fits, starts) = begins (refused_row (refusal_number r) (refusal_place r)) after.0 n put w in
      (fits, (over, starts ∙ ap (λ t. refused_row (refusal_number t) (refusal_place t)) is))

  pub mended_put : (n : ℕ) (after : Lent) → TextMend s (room, report, found) (Ok n) after
      → Settled s n (Some after.2) after.0 after.1
  mended_put n after (ls, (h, is), (w, v)) =
      let (fits, starts) = begins (written (mended ls)) room n after.0 w in
      let (report-fits, report-starts) = begins (report_of (fates ls)) report after.2 after.1 v in
      ((fits, report-fits), (h, (ls, is, starts, report-starts)))
