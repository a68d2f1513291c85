-- The table of calls on register texts: tests of its rows, put together as the promises are, and that every row holds.
use mathlib.Core.Bool.{cond}
use mathlib.Core.List.{List, []}
use mathlib.Core.Logic.{inl}
use mathlib.Core.Path.{refl, sym, subst, ◌≡◌}
use Prim.Native.Nat.{ℕ, ◌*◌, ◌≤◌, ◌<◌}
use native.Mathlib.Decide.{dec_lt}
use native.Mathlib.Omega.{arith}
use lib.Dec.{eqb}
use lib.ListN.{length, get_or, take}
use Rattle.game.specs.Book.{any, all, count, book_of}
use Rattle.game.specs.Account.{Account, OfStatement, account_number, account_length}
use Rattle.game.specs.Rules.{stands_within, falls_within}
use Rattle.game.proofs.Verdict.{verdict, verdict_by}
use Rattle.game.proofs.Reason.{reaching, belonging, counts}
use Rattle.register.specs.Texts.{decimal, decimal_in}
use Rattle.register.specs.Number.{number_bytes}
use Rattle.register.specs.Register.{Register, book, bytes, place_of, Places, Issued, written}
use Rattle.register.specs.Reads.{Accepts}
use Rattle.register.proofs.Decimals.{spell}
use Rattle.register.proofs.Number.{number_test, spell_number}
use Rattle.register.proofs.Guess.{field, behind, guess_mark, guess_fields, guess_line, ahead, formed_test, begins_test}
use Rattle.register.proofs.Guess.{spoiled_test}
use Rattle.answer.specs.declared.Refusal.{Refusal}
use Rattle.answer.specs.declared.Refusal.TheVariants as refusal
use Rattle.answer.specs.Answer.{Answer}
use Rattle.answer.specs.Answer.{Short, Asks, Written}
use Rattle.listing.specs.Rows.{statement_row, numbers_row, objection_row}
use Rattle.listing.specs.Listing.{objection_rows, statement_rows}
use Rattle.reason.specs.Alone.{keep}
use Rattle.sheet.specs.Sheet.{code_at, codes, total, bytes_for, SoundSheet}
use Rattle.sheet.proofs.Codes.{code_beyond}
use Rattle.mend.specs.TextLines.{TextLine}
use Rattle.mend.specs.Mended.{mended, fates}
use Rattle.mend.specs.Report.{report_of}
use Rattle.mend.proofs.TextLines.{lines_exist}
use Rattle.mend.proofs.Reported.{byte_for_byte, report_exactly}
use Rattle.promises.specs.OnText.{TextRefused, OnText}
use Rattle.promises.specs.LabelCalls.{TextStatements, TextLabels, TextLengths, StatementsIn}
use Rattle.promises.specs.ListingCalls.{TextListing, ListingIn, ListingShort}
use Rattle.promises.specs.ArgumentCalls.{TextArgument, TextArgumentIn, TextArgumentRefused, by_number}
use Rattle.promises.specs.ExerciseCalls.{TextExercise, TextExerciseIn}
use Rattle.promises.specs.ReasonCalls.{TextReason, ReasonIn, ReasonRefused}
use Rattle.promises.specs.MendCalls.{TextMend, Lent, Lined, LinesRefused, MendedIn, MendedShort}
use Rattle.promises.specs.SheetCalls.{TextSheet, TextSheetUpdate, SheetIn, SheetShort, UpdateRefused, UpdatedIn, OldSheet}
use Rattle.examples.specs.Table.{ascii, Every}
use Rattle.examples.specs.TextTable.{TextRow, labels, lengths, listing, argument, exercise, reason, mend, sheet}
use Rattle.examples.specs.TextTable.{update, lent_as, OnTextSays, text_table}
use Rattle.examples.proofs.Rows.{pass, pass_is}
use Rattle.examples.proofs.Text.{behind_line, rest_from, guess_first, line_count, register_of, same, issued, numbered}
use Rattle.examples.proofs.Text.{differ, known, distinct, ordered, accepted, unended_test}
use Rattle.examples.proofs.Fault.{text_fault, fault_of, text_accepted, on_register, place_in, placed_there, counted}
use Rattle.examples.proofs.Told.{told, told_is, placed, listing_of, listing_is, reason_of, reason_is, inside, coded, packed}
use Rattle.examples.proofs.Told.{packed_is}
use Rattle.examples.proofs.Argument.{first_from, onward_test, same_verdict, next_of, next_test, line_of, line_test}
use Rattle.examples.proofs.Argument.{argument_of, argued, exercise_of, exercised}
use Rattle.examples.proofs.Test.{Test, Decision, both_of, either_of, so, both_decided, if_decided, each_decided, equally}
use Rattle.examples.proofs.Test.{never, decided, refuted, equals, at_most, below}
use Rattle.examples.proofs.Promise.{for_fault, on_input, in_numbers, unchanged, both_unchanged, no_room, begins, writes}
use Rattle.examples.proofs.Promise.{short, asks, is_sheet}

-- an old sheet of n statements is sound
module _ (n : ℕ) (sheet totals : List ℕ) where
  abbrev pub Spare : Type 0
  Spare = (x : ℕ) → n ≤ x → code_at sheet x ≡ 0

  pub beyond : ((x : ℕ) → x < 4 * length sheet → n ≤ x → code_at sheet x ≡ 0) → Spare
  beyond f x h = go (dec_lt x (4 * length sheet))
    where
      go : Dec (x < 4 * length sheet) → code_at sheet x ≡ 0
      go (yes l) = f x l h
      go (no l) = code_beyond sheet x (omega arith)

  abbrev pub spared : Decision Spare
  spared =
      equally beyond (λ f x l. f x) (each_decided (4 * length sheet) (λ x. if_decided (at_most n x) (equals (code_at sheet x) 0)))

  abbrev pub sound : Decision (SoundSheet n sheet totals)
  sound =
      equally (λ ((e, u), (s, o)). record { size = e; used = u; spare = s; own = o })
      (λ (s : SoundSheet n sheet totals). ((s.size, s.used), (s.spare, s.own)))
      (both_decided (both_decided (equals (length sheet) (bytes_for n)) (each_decided n (λ x. below (code_at sheet x) codes)))
      (both_decided spared (each_decided codes (λ c. if_decided (below c (length totals))
      (equals (get_or totals c 0) (total sheet n c))))))

module _ (s : List ℕ) where
  abbrev pub R : Register
  R = register_of s

  abbrev pub text_refused : (r : Refusal) → Test (TextRefused s r)
  text_refused = for_fault (text_fault s)

  abbrev pub on_text : {Rooms : Type 0} (later : Register → Refusal → Type 0) (gives : Register → ℕ → Rooms → Type 0)
      (rooms : Rooms) → ((r : Refusal) → Test (Accepts s R → later R r))
      → ((n : ℕ) (after : Rooms) → Test (Accepts s R → gives R n after)) → ((after : Rooms) → Test (after ≡ rooms)) → (a : Answer)
      (after : Rooms) → Test (OnText s later gives rooms a after)
  on_text later gives rooms = on_input (Accepts s) (TextRefused s) later gives rooms R (text_accepted s) text_refused

  -- labels or lengths
  abbrev pub statements : (number : Account → ℕ) (room : List ℕ) (a : Answer) (after : List ℕ)
      → Test (TextStatements s number room a after)
  statements number room =
      on_text (λ R. Short (length room < length R.statements)) (λ R. StatementsIn (book R) number (length R.statements) room)
      room (short (so (λ h l. h) (decided (below (length room) (length R.statements)))))
      (λ n after. so (λ (e, b) (t : Accepts s R). (
        e,
        b (λ k h. (
          told (book R) k,
          told_is (book R) k (placed R t.valid k (omega (arith, e, h))),
          refl,
        )),
      ))
      (both_of (decided (equals n (length R.statements))) (begins n room after
      (λ x e. (a : Account) × OfStatement (book R) x a × (e ≡ number a)) (λ k. number (told (book R) k)))))
      (unchanged room)

  -- the listing
  abbrev pub listed : (room : List ℕ) (a : Answer) (after : List ℕ) → Test (TextListing s room a after)
  listed room =
      on_text (λ R. Short (ListingShort room R)) (λ R. ListingIn R room) room
      (short (so (λ h (t : Accepts s R). (listing_of R, listing_is R t.valid, h))
      (decided (below (length room) (length (listing_of R))))))
      (λ n after. so (λ w (t : Accepts s R). (listing_of R, listing_is R t.valid, w)) (writes n room after (listing_of R)))
      (unchanged room)

  -- what is asked about the statement of a number
  module _ (number : ℕ) where
    abbrev pub there : Decision (Issued R number)
    there = on_register R number

    abbrev pub place : ℕ
    place = place_in R number

    abbrev pub here : Test (Places R number place)
    here = placed_there R number

    abbrev pub argument_by : (room : List ℕ) (a : Answer) (after : List ℕ) → Test (TextArgument s number room a after)
    argument_by room =
        on_text (λ R. TextArgumentRefused R number room) (λ R. TextArgumentIn R number room) room
        (asks there 0 (so (λ (p, (r, h)) (t : Accepts s R). (
          place,
          p,
          (argument_of (book R) place, r (placed R t.valid place (counted R number place p)), h),
        )) (both_of here (both_of (argued (book R) place) (decided (below (length room)
        (length (argument_of (book R) place))))))))
        (λ n after. so (λ (p, (r, w)) (t : Accepts s R). (
          place,
          p,
          (argument_of (book R) place, r (placed R t.valid place (counted R number place p)), w),
        )) (both_of here (both_of (argued (book R) place) (writes n room after (by_number R (argument_of (book R) place))))))
        (unchanged room)

    abbrev pub exercise_by : (turns : ℕ) (a : Answer) → Test (TextExercise s number turns a)
    exercise_by turns a =
        on_text (λ R. Asks (Issued R number) turns ⊥) (λ R. TextExerciseIn R number turns) tt (asks there turns never)
        (λ n after. so (λ (l, (p, e)) (t : Accepts s R). (l, (place, p, e)))
        (both_of (decided (at_most turns 6)) (both_of here (exercised (book R) place turns n))))
        no_room a tt

    abbrev pub reason_by : (room : List ℕ) (a : Answer) (after : List ℕ) → Test (TextReason s number room a after)
    reason_by room =
        on_text (λ R. ReasonRefused R number room) (λ R. ReasonIn R number room) room
        (asks there 0 (so (λ (p, h) (t : Accepts s R). (
          place,
          p,
          (reason_of R place, reason_is R t.valid place (counted R number place p), h),
        )) (both_of here (decided (below (length room) (length (reason_of R place)))))))
        (λ n after. so (λ (p, w) (t : Accepts s R). (
          place,
          p,
          (reason_of R place, reason_is R t.valid place (counted R number place p), w),
        )) (both_of here (writes n room after (reason_of R place))))
        (unchanged room)

  -- sheets: what is written is read from the rooms after it
  module _ (rooms : List ℕ × List ℕ) where
    abbrev pub size : ℕ
    size = (book R).size

    abbrev pub sheet_in : (n : ℕ) (after : List ℕ × List ℕ) → Test (SheetIn (book R) rooms n after)
    sheet_in n after =
        so (λ (p, (w, b)). (take n after.0, p, w, b (λ c h. refl)))
        (both_of (record { passes = packed R (take n after.0); is = packed_is R (take n after.0) })
        (both_of (writes n rooms.0 after.0 (take n after.0)) (begins codes rooms.1 after.1
        (λ c e. e ≡ total (take n after.0) size c) (total (take n after.0) size))))

    abbrev pub sheet_by : (a : Answer) (after : List ℕ × List ℕ) → Test (TextSheet s rooms a after)
    sheet_by =
        on_text (λ R. Short (SheetShort (book R) rooms)) (λ R. SheetIn (book R) rooms) rooms
        (short (so (λ h t. h) (either_of (decided (below (length rooms.0) (bytes_for size)))
        (decided (below (length rooms.1) codes)))))
        (λ n after. so (λ p t. p) (sheet_in n after)) (both_unchanged rooms)

    abbrev pub old : Decision (OldSheet (book R) rooms)
    old = sound size rooms.0 rooms.1

    abbrev pub update_by : (a : Answer) (after : List ℕ × List ℕ) → Test (TextSheetUpdate s rooms a after)
    update_by =
        on_text (λ R. UpdateRefused (book R) rooms) (λ R. UpdatedIn (book R) rooms) rooms
        (λ r. so (λ p t. p) (either_of (both_of (refuted old) (is_sheet r)) (both_of (decided old) (so (λ p. p tt)
        (short (so (λ h (u : Unit {0}). h) (decided (below (length rooms.1) codes))) r)))))
        (λ n after. so (λ p t. p) (both_of (decided old) (sheet_in n after))) (both_unchanged rooms)

  -- a register is mended to itself, and nothing is reported
  module _ (lent : Lent) where
    abbrev pub ls : List TextLine
    ls = (lines_exist s).0

    abbrev pub lined : Test (Lined s ls)
    lined = so (λ h. (h, (lines_exist s).1)) (decided (at_most (length s) 65535))

    pub mended_same : Accepts s R → written (mended ls) ≡ s
    mended_same t = byte_for_byte s ls t.fits (lines_exist s).1 R t

    pub unreported : Accepts s R → report_of (fates ls) ≡ []
    unreported t = (report_exactly s ls t.fits (lines_exist s).1).1 (R, t)

    abbrev pub mended_short : Test (Lined s ls → MendedShort ls lent)
    mended_short =
        so (λ (t, h) p. inl (subst (λ (u : List ℕ). length lent.0 < length u) (sym (mended_same t)) h))
        (both_of (text_accepted s) (decided (below (length lent.0) (length s))))

    abbrev pub mended_in : (n : ℕ) (after : Lent) → Test (Lined s ls → MendedIn ls lent n after)
    mended_in n after =
        so (λ (t, (w, v)) p. (
          subst (λ (u : List ℕ). Written u lent.0 n after.0) (sym (mended_same t)) w,
          subst (λ (u : List ℕ). Written u lent.1 after.2 after.1) (sym (unreported t)) v,
        ))
        (both_of (text_accepted s) (both_of (writes n lent.0 after.0 s) (writes after.2 lent.1 after.1 [])))

    abbrev pub all_unchanged : (after : Lent) → Test (after ≡ lent)
    all_unchanged after =
        so (λ (p, (q, r)) i. (p i, q i, r i)) (both_of (unchanged lent.0 after.0) (both_of
        (unchanged lent.1 after.1) (decided (equals after.2 lent.2))))

    abbrev pub mend_by : (a : Answer) (after : Lent) → Test (TextMend s lent a after)
    mend_by =
        on_input (Lined s) (LinesRefused s) (λ ls. Short (MendedShort ls lent)) (λ ls. MendedIn ls lent) lent ls lined
        (λ r. never)
        (short mended_short) mended_in all_unchanged

-- the refusal that the two numbers tell
unfoldable pub refusal_of : (number place : ℕ) → Refusal
refusal_of n k =
    cond (eqb n 10) refusal.Room (cond (eqb n 14) refusal.Asked (cond (eqb n 15) refusal.Turns (cond (eqb n 16) refusal.Sheet
    (refusal.Text (fault_of n k)))))

-- The test of a row.
test_of : (r : TextRow) → Test (OnTextSays r)
test_of (labels text room c after) =
    in_numbers (λ a. TextLabels (ascii text) room a after) refusal_of c (λ a. statements (ascii text) account_number room a after)
test_of (lengths text room c after) =
    in_numbers (λ a. TextLengths (ascii text) room a after) refusal_of c (λ a. statements (ascii text) account_length room a
    after)
test_of (listing text room c after) =
    in_numbers (λ a. TextListing (ascii text) (ascii room) a (ascii after)) refusal_of c
    (λ a. listed (ascii text) (ascii room) a (ascii after))
test_of (argument text number room c after) =
    in_numbers (λ a. TextArgument (ascii text) number room a after) refusal_of c
    (λ a. argument_by (ascii text) number room a after)
test_of (exercise text number turns c) =
    in_numbers (TextExercise (ascii text) number turns) refusal_of c (exercise_by (ascii text) number turns)
test_of (reason text number room c after) =
    in_numbers (λ a. TextReason (ascii text) number (ascii room) a (ascii after)) refusal_of c
    (λ a. reason_by (ascii text) number (ascii room) a (ascii after))
test_of (mend text lent c after) =
    in_numbers (λ a. TextMend (ascii text) (lent_as lent) a (lent_as after)) refusal_of c
    (λ a. mend_by (ascii text) (lent_as lent) a (lent_as after))
test_of (sheet text rooms c after) =
    in_numbers (λ a. TextSheet (ascii text) rooms a after) refusal_of c (λ a. sheet_by (ascii text) rooms a after)
test_of (update text rooms c after) =
    in_numbers (λ a. TextSheetUpdate (ascii text) rooms a after) refusal_of c (λ a. update_by (ascii text) rooms a after)

-- Every row holds.
pub text_table_holds : Every OnTextSays text_table
unfolding text_table test_of pass refusal_of fault_of
    ascii field behind guess_mark guess_fields guess_line spell spell_number ahead formed_test begins_test spoiled_test
    behind_line rest_from guess_first line_count register_of same issued numbered differ known distinct ordered accepted
    unended_test inside coded packed code_at total count
    first_from onward_test same_verdict next_of next_test line_of line_test exercise_of
    any all book_of stands_within falls_within verdict verdict_by
    number_test number_bytes decimal decimal_in bytes place_of numbers_row statement_row statement_rows objection_row
    objection_rows keep
    counts belonging reaching
text_table_holds = pass_is OnTextSays (λ r. (test_of r).passes) (λ r t. (test_of r).is t) text_table tt
