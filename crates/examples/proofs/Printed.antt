-- What the programs print: tests of the rows, and that every row holds. The fault of a refused text is read from the row itself,
-- and the row is held against the printed line of that fault.
use mathlib.Core.List.{List}
use mathlib.Core.Logic.{inl, inr, ⊎_elim, ◌⊎◌}
use mathlib.Core.Path.{sym, subst}
use Prim.Native.Nat.{ℕ}
use Rattle.game.specs.Book.{any, all, book_of}
use Rattle.game.specs.Rules.{stands_within, falls_within}
use Rattle.game.proofs.Verdict.{verdict, verdict_by}
use Rattle.game.proofs.Reason.{reaching, belonging, counts}
use Rattle.register.specs.Texts.{decimal, decimal_in}
use Rattle.register.specs.Number.{number_bytes}
use Rattle.register.specs.Register.{Register, bytes, place_of, Issued}
use Rattle.register.specs.Reads.{Accepts}
use Rattle.register.specs.declared.TextFault.{TextFault}
use Rattle.register.proofs.Decimals.{spell}
use Rattle.register.proofs.Number.{number_test, spell_number}
use Rattle.register.proofs.Guess.{field, behind, guess_mark, guess_fields, guess_line, ahead, formed_test, begins_test}
use Rattle.register.proofs.Guess.{spoiled_test}
use Rattle.answer.specs.Refusals.{refusal_number, refusal_place}
use Rattle.answer.specs.declared.Refusal.{Refusal}
use Rattle.answer.specs.declared.Refusal.TheVariants.{Text, Asked}
use Rattle.listing.specs.Rows.{statement_row, numbers_row, objection_row, refused_row}
use Rattle.listing.specs.Listing.{objection_rows, IsListing, statement_rows}
use Rattle.reason.specs.Alone.{keep}
use Rattle.reason.specs.Reasons.{IsReason}
use Rattle.promises.specs.Programs.{Prints, PrintsRefusal, PrintsFault, PrintsReason, NoneNamed, ReasonNamed}
use Rattle.promises.specs.NumberCalls.{Names}
use Rattle.examples.specs.Table.{ascii, Every}
use Rattle.examples.specs.Printed.{PrintedRow, list, reason, Printing, printed}
use Rattle.examples.proofs.Rows.{pass, pass_is}
use Rattle.examples.proofs.Text.{behind_line, rest_from, guess_first, line_count, register_of, same, issued, numbered, differ}
use Rattle.examples.proofs.Text.{known, distinct, ordered, accepted, unended_test}
use Rattle.examples.proofs.Test.{Test, both_of, under, either_of, so, both_decided, decided, refuted, alike}
use Rattle.examples.proofs.Fault.{text_fault, fault_of, text_accepted, on_register, place_in, placed_there, counted}
use Rattle.examples.proofs.Named.{said, names, says}
use Rattle.examples.proofs.Told.{listing_of, listing_is, reason_of, reason_is, inside}

-- the line of a refusal
abbrev pub prints_refusal : (r : Refusal) (line : List ℕ) → Test (PrintsRefusal r line)
prints_refusal r line = decided (alike line (refused_row (refusal_number r) (refusal_place r)))

module _ (s line : List ℕ) where
  abbrev pub R : Register
  R = register_of s

  -- the fault that the line tells, by its number and place
  abbrev pub fault : TextFault
  fault = fault_of (spell 0 (field (behind line))) (spell 0 (field (behind (behind line))))

  abbrev pub prints_fault : Test (PrintsFault s line)
  prints_fault = so (λ (p, e). (fault, p, e)) (both_of (text_fault s fault) (prints_refusal (Text fault) line))

  -- what `list` prints
  abbrev pub prints_list : Test (Prints s line)
  prints_list =
      either_of (so (λ (a, e). (R, a, subst (IsListing R) (sym e) (listing_is R a.valid)))
      (both_of (text_accepted s) (decided (alike line (listing_of R))))) prints_fault

  -- what `reason` prints: the argument names the number that its bytes say, and no other
  module _ (argument : List ℕ) where
    abbrev pub asked : ℕ
    asked = said argument

    abbrev pub none_named : Test (NoneNamed R argument)
    none_named =
        so (λ no n named there. no (subst (λ m. Names argument m × Issued R m) (says argument n named) (named, there)))
        (refuted (both_decided (names argument) (on_register R asked)))

    abbrev pub place : ℕ
    place = place_in R asked

    abbrev pub reason_named : Test (Accepts s R → ReasonNamed R argument line)
    reason_named =
        so (λ (n, (p, e)) (a : Accepts s R). (
          asked,
          place,
          n,
          p,
          subst (IsReason R place) (sym e) (reason_is R a.valid place (counted R asked place p)),
        ))
        (both_of (decided (names argument)) (both_of (placed_there R asked) (decided (alike line (reason_of R place)))))

    abbrev pub reason_or_none : Test (Accepts s R → ReasonNamed R argument line ⊎
        (NoneNamed R argument × PrintsRefusal Asked line))
    reason_or_none =
        so (λ w a. ⊎_elim (λ f. inl (f a)) (λ g. inr g) w)
        (either_of reason_named (both_of none_named (prints_refusal Asked line)))

    abbrev pub prints_reason : Test (PrintsReason s argument line)
    prints_reason = either_of prints_fault (so (λ (a, p). (R, a, p)) (under (text_accepted s) reason_or_none))

-- The test of a row.
test_of : (r : PrintedRow) → Test (Printing r)
test_of (list text line) = prints_list (ascii text) (ascii line)
test_of (reason text argument line) = prints_reason (ascii text) (ascii line) (ascii argument)

-- Every row holds.
pub printed_holds : Every Printing printed
unfolding printed test_of pass ascii field behind guess_mark guess_fields guess_line spell
    spell_number ahead formed_test begins_test spoiled_test
    behind_line rest_from guess_first line_count register_of same issued numbered differ known distinct ordered accepted
    unended_test
    fault_of inside any all book_of stands_within falls_within verdict verdict_by
    number_test number_bytes decimal decimal_in bytes place_of numbers_row statement_row statement_rows objection_row
    objection_rows keep
    counts belonging reaching
printed_holds = pass_is Printing (λ r. (test_of r).passes) (λ r t. (test_of r).is t) printed tt
