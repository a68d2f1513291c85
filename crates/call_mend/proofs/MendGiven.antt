-- From what the writers promise of lists to what is promised of a text's lines.
use mathlib.Core.Bool.{false}
use mathlib.Core.List.{List, [], ◌++◌}
use mathlib.Core.Logic.{inl, inr}
use mathlib.Core.Path.{ap, refl, ◌≡◌, ◌∙◌}
use Prim.Native.Nat.{ℕ, ◌*◌, ◌≤◌, ◌<◌}
use native.Mathlib.Omega.{arith}
use lib.ListN.{length, drop, length-map}
use Rattle.register.specs.Register.{written}
use Rattle.answer.specs.declared.Refusal.TheVariants.{Room}
use Rattle.answer.specs.Answer.{Short}
use Rattle.answer.proofs.Inputs.{on_promised}
use Rattle.answer.specs.Answer.{Answer}
use Rattle.std.specs.Prelude.{Ok, Err}
use Rattle.mend.specs.TextLines.{TextLine}
use Rattle.mend.specs.Mended.{mended, listed, fates}
use Rattle.mend.proofs.TextLines.{few_lines}
use Rattle.mend.proofs.AllLines.{fates_counted}
use Rattle.mend.proofs.Valid.{never_longer}
use Rattle.mend_line.specs.SettledRooms.{told}
use Rattle.mend_report.specs.NumberedReport.{numbered_report}
use Rattle.mend_report.proofs.NumberedReport.{report_is}
use Rattle.mend_text.specs.MendedAs.{MendedAs}
use Rattle.mend_text.specs.declared.mended_text.MendedText.{MendedText}
use Rattle.mend.specs.Report.{report_of}
use Rattle.mend.proofs.Report.{report_small}
use Rattle.register_write.specs.Copied.{copied, register_copied}
use Rattle.register_write.proofs.Copied.{copied_written, made_size}
use Rattle.promises.specs.MendCalls.{Lent, TextMend, MendedShort, MendedIn}
use Rattle.promises.proofs.UniqueMend.{lines_apart}
use Rattle.call_mend.specs.MendedLists.{MendedLists, MendWritten}

module _ (ls : List TextLine) (t : MendedText) (m : MendedLists ls t) (room report : List ℕ) (found : ℕ) where
  text_is : register_copied t.register ≡ written (mended ls)
  text_is = copied_written (mended ls) _ _ _ _ m.made

  report_text : numbered_report t.fates.now ≡ report_of (fates ls)
  report_text = ap numbered_report m.fates_are ∙ report_is 0 (fates ls)

  few : length (fates ls) ≤ 65535
  few = omega (arith, m.few, ap length m.fates_are, length-map (fates ls) told)

  module _ (size : ℕ)
      (is : (marks : List ℕ) → size ≡ length
      (copied t.register.numbers.now marks t.register.pairs.objectors.now t.register.pairs.targets.now)) where
    size_is : size ≡ length (written (mended ls))
    size_is = made_size (mended ls) _ _ _ _ m.made size is

    pub size_small : size ≤ 65535
    size_small = omega (arith, size_is, m.short)

    pub room_short : length room < size → MendWritten ls (room, report, found) (Err Room) (room, report, found)
    room_short h = ((inl (omega (arith, size_is)), refl), refl)

    module _ (report-size : ℕ) (report-length : report-size ≡ length (numbered_report t.fates.now)) where
      report_size_is : report-size ≡ length (report_of (fates ls))
      report_size_is = report-length ∙ ap length report_text

      pub report_size_small : report-size ≤ 16 * 65535
      report_size_small = omega (arith, report_size_is, report_small (fates ls) few, few)

      pub report_room_short : length report < report-size → MendWritten ls (room, report, found) (Err Room)
          (room, report, found)
      report_room_short h = ((inr (omega (arith, report_size_is)), refl), refl)

      pub both_written : size ≤ length room → report-size ≤ length report → (room' report' : List ℕ)
          → room' ≡ register_copied t.register ++ drop (length (register_copied t.register)) room
          → report' ≡ numbered_report t.fates.now ++ drop (length (numbered_report t.fates.now)) report
          → MendWritten ls (room, report, found) (Ok size) (room', report', report-size)
      both_written h l room' report' e f = (
        (size_is, omega (arith, size_is), e ∙ ap (λ u. u ++ drop (length u) room) text_is),
        (
          report_size_is,
          omega (arith, report_size_is),
          f ∙ ap (λ u. u ++ drop (length u) report) report_text,
        ),
      )

-- What settling a text answers is the mended register of the text's lines, with their fates.
module _ (s : List ℕ) (h : length s ≤ 65535) (t : MendedText) (q : MendedAs s t) where
  pub settled_mended : MendedLists q.ls t
  settled_mended = record {
    made = q.made;
    fates_are = q.fates_are;
    few =
        omega (
          arith,
          ap length q.fates_are,
          length-map (fates q.ls) told,
          fates_counted q.ls [] false (listed q.ls),
          few_lines s q.ls q.lines_of,
        );
    short = omega (arith, never_longer s q.ls q.lines_of);
  }

  pub mend_promised : (lent : Lent) (a : Answer) (after : Lent) → MendWritten q.ls lent a after → TextMend s lent a after
  mend_promised lent =
      on_promised (lines_apart s) (λ ls. Short (MendedShort ls lent)) (λ ls. MendedIn ls lent) q.ls (h, q.lines_of) lent
