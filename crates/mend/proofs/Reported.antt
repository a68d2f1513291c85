-- What the mended text and its report are worth: the report is empty exactly if the text is accepted, and then the text comes
-- back byte for byte; what is mended needs no mending; and a report is not long.
use mathlib.Core.Bool.{false}
use mathlib.Core.List.{List, []}
use mathlib.Core.Logic.{◌↔◌}
use mathlib.Core.Path.{subst, ◌≡◌}
use Prim.Native.Nat.{ℕ, ◌≤◌, ◌*◌}
use native.Mathlib.Omega.{arith}
use lib.ListN.{length}
use Rattle.register.specs.Register.{Register, written}
use Rattle.register.specs.Reads.{Accepts}
use Rattle.mend.specs.TextLines.{TextLine, LinesOf}
use Rattle.mend.specs.Mended.{fates, listed, mended}
use Rattle.mend.proofs.AllLines.{fates_counted}
use Rattle.mend.proofs.Valid.{mended_accepted}
use Rattle.mend.proofs.Accepted.{AllKept, kept_text, accepted_kept}
use Rattle.mend.specs.Report.{report_of}
use Rattle.mend.proofs.Report.{no_report, report_empty, report_small}
use Rattle.mend.proofs.TextLines.{few_lines}

module _ (ls : List TextLine) where
  counted : length (fates ls) ≡ length ls
  counted = fates_counted ls [] false (listed ls)

  none_reported : AllKept (fates ls) ls → report_of (fates ls) ≡ []
  none_reported f = no_report (fates ls) (λ k h. f k (omega (arith, counted)))

  all_kept : report_of (fates ls) ≡ [] → AllKept (fates ls) ls
  all_kept e k h = report_empty (fates ls) e k (omega (arith, counted))

module _ (s : List ℕ) (ls : List TextLine) (h : length s ≤ 65535) (p : LinesOf s ls) where
  -- "An accepted register comes back byte for byte with an empty report."
  pub byte_for_byte : (R : Register) → Accepts s R → written (mended ls) ≡ s
  byte_for_byte R a = kept_text s ls p (accepted_kept s R ls a p)

  pub report_exactly : (report_of (fates ls) ≡ []) ↔ ((R : Register) × Accepts s R)
  report_exactly = (
    λ e. (mended ls, subst (λ u. Accepts u (mended ls)) (kept_text s ls p (all_kept ls e)) (mended_accepted s ls h p)),
    λ w. none_reported ls (accepted_kept s w.0 ls w.1 p),
  )

  -- mending twice changes nothing
  pub mended_again : (ms : List TextLine) → LinesOf (written (mended ls)) ms
      → (written (mended ms) ≡ written (mended ls)) × (report_of (fates ms) ≡ [])
  mended_again ms q =
      let f : AllKept (fates ms) ms = accepted_kept (written (mended ls)) (mended ls) ms (mended_accepted s ls h p) q in
      (kept_text (written (mended ls)) ms q f, none_reported ms f)

-- "a report has at most 16 · 65,535 bytes"
pub report_short : (s : List ℕ) (ls : List TextLine) → length s ≤ 65535 → LinesOf s ls → length (report_of (fates ls)) ≤ 16 *
    65535
report_short s ls h p =
    let c : length (fates ls) ≡ length ls = fates_counted ls [] false (listed ls) in
    omega (
      arith,
      report_small (fates ls) (omega (arith, few_lines s ls p)),
      few_lines s ls p,
    )
