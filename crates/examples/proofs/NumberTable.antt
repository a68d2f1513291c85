-- The calls on one number: tests of the rows, and that every row holds.
use mathlib.Core.List.{List}
use mathlib.Core.Path.{ap, refl, subst, ◌≡◌}
use Prim.Native.Nat.{ℕ, ◌<◌}
use lib.ListN.{length}
use Rattle.register.specs.Texts.{decimal, decimal_in}
use Rattle.register.specs.Number.{number_bytes}
use Rattle.register.specs.declared.TextFault.{TextFault}
use Rattle.register.specs.declared.TextFault.TheVariants.{TooLong, Unended, Spoiled, Late, Statements, Issued, Objections}
use Rattle.register.specs.declared.TextFault.TheVariants.{Unknown, Repeated}
use Rattle.register.proofs.Decimals.{spell}
use Rattle.register.proofs.Number.{number_test, spell_number}
use Rattle.answer.specs.Answer.{Short, Written}
use Rattle.answer.specs.declared.Refusal.{Refusal}
use Rattle.answer.specs.declared.Refusal.TheVariants.{Text, Lists, Room, Asked, Turns, Sheet}
use Rattle.answer.specs.Answer.{Answer}
use Rattle.promises.specs.NumberCalls.{Names, NamesNone, IsNobodys, NumberCode, NumberText}
use Rattle.examples.specs.Table.{ascii, Every}
use Rattle.examples.specs.NumberTable.{NumberRow, code, text, OnNumberSays, number_table}
use Rattle.examples.proofs.Rows.{pass, pass_is}
use Rattle.examples.proofs.Text.{same}
use Rattle.examples.proofs.Test.{Test, both_of, so, never, decided, refuted, equals, below}
use Rattle.examples.proofs.Promise.{on_input, in_numbers, unchanged, no_room, writes, short}
use Rattle.examples.proofs.Fault.{fault_of}
use Rattle.examples.proofs.Named.{is_number, said, names, says}
use Rattle.examples.proofs.TextTable.{refusal_of}

-- the refusal of what is no number
abbrev pub spoiled_nowhere : (f : TextFault) → Test (f ≡ Spoiled 0)
spoiled_nowhere TooLong = never
spoiled_nowhere Unended = never
spoiled_nowhere (Spoiled line) = so (λ e. ap Spoiled e) (decided (equals line 0))
spoiled_nowhere (Late line) = never
spoiled_nowhere (Statements line) = never
spoiled_nowhere (Issued line) = never
spoiled_nowhere (Objections line) = never
spoiled_nowhere (Unknown line) = never
spoiled_nowhere (Repeated line) = never

abbrev pub is_spoiled : (r : Refusal) → Test (r ≡ Text (Spoiled 0))
is_spoiled (Text f) = so (λ e. ap Text e) (spoiled_nowhere f)
is_spoiled (Lists f) = never
is_spoiled Room = never
is_spoiled Asked = never
is_spoiled Turns = never
is_spoiled Sheet = never

abbrev pub code_by : (written : List ℕ) (a : Answer) → Test (NumberCode written a)
code_by written a =
    on_input {Rooms = Unit {0}} (Names written) (NamesNone written) (λ number r. ⊥) (λ number n after. n ≡ number) tt
    (said written) (decided (names written))
    (λ r. both_of (so (λ no n named. no (subst (Names written) (says written n named) named)) (refuted (names written)))
    (is_spoiled r)) (λ r. never) (λ n after. so (λ e h. e) (decided (equals n (said written)))) no_room a tt

abbrev pub text_by : (number : ℕ) (room : List ℕ) (a : Answer) (after : List ℕ) → Test (NumberText number room a after)
text_by number room =
    on_input (λ l. Names l number) (IsNobodys number) (λ l. Short (length room < length l)) (λ l. Written l room) room
    (number_bytes number) (so (λ h. (h, refl)) (decided (is_number number)))
    (λ r. both_of (refuted (is_number number)) (is_spoiled r))
    (short (so (λ h l. h) (decided (below (length room) (length (number_bytes number))))))
    (λ n after. so (λ w h. w) (writes n room after (number_bytes number))) (unchanged room)

-- The test of a row.
test_of : (r : NumberRow) → Test (OnNumberSays r)
test_of (code written c) = in_numbers (NumberCode (ascii written)) refusal_of c (code_by (ascii written))
test_of (text number room c after) =
    in_numbers (λ a. NumberText number (ascii room) a (ascii after)) refusal_of c
    (λ a. text_by number (ascii room) a (ascii after))

-- Every row holds.
pub number_table_holds : Every OnNumberSays number_table
unfolding number_table test_of pass refusal_of fault_of ascii same spell spell_number number_test number_bytes decimal decimal_in
number_table_holds = pass_is OnNumberSays (λ r. (test_of r).passes) (λ r t. (test_of r).is t) number_table tt
