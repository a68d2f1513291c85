-- The table of calls on handed lists: tests of its rows, put together as the promises are, and that every row holds.
use mathlib.Core.Bool.{cond}
use mathlib.Core.List.{List}
use mathlib.Core.Path.{refl, ◌≡◌}
use Prim.Native.Nat.{ℕ, ◌≤◌, ◌<◌}
use native.Mathlib.Omega.{arith}
use lib.Dec.{eqb}
use lib.ListN.{length, get_or}
use Rattle.game.specs.Book.{Book, Listed, book_of, any, all}
use Rattle.game.specs.Account.{Account, OfStatement, OfObjection, kind_account, account_number, account_length}
use Rattle.game.specs.Rules.{stands_within, falls_within}
use Rattle.game.proofs.HandedBook.{objects_entry}
use Rattle.game.proofs.Verdict.{verdict, verdict_by}
use Rattle.lists.specs.Refuses.{BadMark, BadPlace, Repeat, Lists, Refuses}
use Rattle.lists.specs.declared.ListsFault.{ListsFault}
use Rattle.lists.specs.declared.ListsFault.TheVariants.{Unequal, Statements, Objections, Mark, Place, Repeated}
use Rattle.lists.proofs.Refuses.{accepted}
use Rattle.answer.specs.declared.Refusal.{Refusal}
use Rattle.answer.specs.declared.Refusal.TheVariants as refusal
use Rattle.answer.specs.Answer.{Answer}
use Rattle.answer.specs.Answer.{Short, Asks}
use Rattle.promises.specs.OnLists.{ListsRefused, OnLists}
use Rattle.promises.specs.LabelCalls.{PairsStatements, PairsLabels, PairsLengths, MovesLabels, MovesLengths, StatementsIn}
use Rattle.promises.specs.KindCalls.{PairsKinds, KindsIn, KindsShort, Objections as Told}
use Rattle.promises.specs.ArgumentCalls.{PairsArgument, PairsArgumentIn, PairsArgumentShort}
use Rattle.promises.specs.ExerciseCalls.{PairsExercise, PairsExerciseIn}
use Rattle.examples.specs.Table.{Every}
use Rattle.examples.specs.ListsTable.{ListsRow, labels, lengths, labels_of_moves, lengths_of_moves, kinds, argument, exercise}
use Rattle.examples.specs.ListsTable.{OnListsSays, lists_table}
use Rattle.examples.proofs.Rows.{pass, pass_is}
use Rattle.examples.proofs.Text.{same}
use Rattle.examples.proofs.Told.{told, told_is, kind_at, kind_is}
use Rattle.examples.proofs.Test.{Test, Decision, both_of, either_of, so, both_decided, either_decided, never, decided}
use Rattle.examples.proofs.Test.{refuted, equals, at_most, below, some, none, first}
use Rattle.examples.proofs.Promise.{on_input, in_numbers, unchanged, both_unchanged, no_room, begins, writes, short, asks}
use Rattle.examples.proofs.Argument.{first_from, onward_test, same_verdict, next_of, next_test, line_of, line_test}
use Rattle.examples.proofs.Argument.{argument_of, argued, exercise_of, exercised}

module _ (marks objectors targets : List ℕ) where
  -- a bad mark, a bad place, a repeat
  abbrev pub bad_mark : (k : ℕ) → Decision (BadMark marks k)
  bad_mark k = both_decided (below k (length marks)) (below 1 (get_or marks k 0))

  abbrev pub bad_place : (k : ℕ) → Decision (BadPlace marks objectors targets k)
  bad_place k =
      both_decided (below k (length objectors)) (either_decided (at_most (length marks) (get_or objectors k 0))
      (at_most (length marks) (get_or targets k 0)))

  abbrev pub repeats : (k : ℕ) → Decision (Repeat objectors targets k)
  repeats k =
      both_decided (below k (length objectors)) (some k (λ j. both_decided (equals (get_or objectors j 0) (get_or objectors k 0))
      (equals (get_or targets j 0) (get_or targets k 0))))

  abbrev pub no_bad_mark : Test ((k : ℕ) → ¬ BadMark marks k)
  no_bad_mark = none bad_mark (length marks) (λ k p. p.0)

  abbrev pub no_bad_place : Test ((k : ℕ) → ¬ BadPlace marks objectors targets k)
  no_bad_place = none bad_place (length objectors) (λ k p. p.0)

  abbrev pub paired : Test (length targets ≡ length objectors)
  paired = decided (equals (length targets) (length objectors))

  abbrev pub limits : Test ((length targets ≡ length objectors) × ((length marks ≤ 1024) × (length objectors ≤ 4096)))
  limits = both_of paired (both_of (decided (at_most (length marks) 1024)) (decided (at_most (length objectors) 4096)))

  abbrev pub lists_accepted : Test (Lists marks objectors targets)
  lists_accepted =
      so (λ ((e, (m, n)), (p, (q, r))). accepted marks objectors targets e m n p q r)
      (both_of limits (both_of no_bad_mark (both_of no_bad_place (none repeats (length objectors) (λ k p. p.0)))))

  abbrev pub lists_fault : (f : ListsFault) → Test (Refuses marks objectors targets f)
  lists_fault Unequal = refuted (equals (length targets) (length objectors))
  lists_fault Statements = both_of paired (decided (below 1024 (length marks)))
  lists_fault Objections =
      so (λ (e, (h, l)). (e, h, l)) (both_of paired (both_of (decided (at_most (length marks) 1024))
      (decided (below 4096 (length objectors)))))
  lists_fault (Mark k) = so (λ ((e, (m, n)), f). (e, m, n, f)) (both_of limits (first bad_mark k))
  lists_fault (Place k) = so (λ ((e, (m, n)), (p, f)). (e, m, n, p, f)) (both_of limits (both_of no_bad_mark (first bad_place k)))
  lists_fault (Repeated k) =
      so (λ ((e, (m, n)), (p, (q, f))). (e, m, n, p, q, f))
      (both_of limits (both_of no_bad_mark (both_of no_bad_place (first repeats k))))

  abbrev pub lists_refused : (r : Refusal) → Test (ListsRefused marks objectors targets r)
  lists_refused (refusal.Text f) = never
  lists_refused (refusal.Lists f) = so (λ p. (f, p, refl)) (lists_fault f)
  lists_refused refusal.Room = never
  lists_refused refusal.Asked = never
  lists_refused refusal.Turns = never
  lists_refused refusal.Sheet = never

  abbrev pub on_lists : {Rooms : Type 0} (later : Refusal → Type 0) (gives : ℕ → Rooms → Type 0) (rooms : Rooms)
      → ((r : Refusal) → Test (Lists marks objectors targets → later r))
      → ((n : ℕ) (after : Rooms) → Test (Lists marks objectors targets → gives n after))
      → ((after : Rooms) → Test (after ≡ rooms)) → (a : Answer) (after : Rooms)
      → Test (OnLists marks objectors targets later gives rooms a after)
  on_lists later gives rooms =
      on_input (λ (m : Unit {0}). Lists marks objectors targets) (ListsRefused marks objectors targets) (λ m. later) (λ m. gives)
      rooms tt lists_accepted lists_refused

  -- the book of the lists
  abbrev pub made : Book
  made = book_of marks objectors targets

  pub listed : (x : ℕ) → x < length marks → Listed made x
  unfolding book_of
  listed x h = h

  pub objecting : Lists marks objectors targets → (k : ℕ) → k < length objectors
      → OfObjection made (get_or objectors k 0) (get_or targets k 0)
      (kind_account (kind_at made (get_or objectors k 0) (get_or targets k 0)))
  objecting l k h =
      kind_is made (get_or objectors k 0) (get_or targets k 0) (listed (get_or targets k 0) (l.order.target k h))
      ((objects_entry marks objectors targets (get_or objectors k 0) (get_or targets k 0)).1
      (l.order.objector k h, (k, (h, refl, refl))))

  -- labels or lengths
  abbrev pub statements : (number : Account → ℕ) (room : List ℕ) (a : Answer) (after : List ℕ)
      → Test (PairsStatements marks objectors targets number room a after)
  statements number room =
      on_lists (Short (length room < length marks)) (StatementsIn made number (length marks) room) room
      (short (so (λ h l. h) (decided (below (length room) (length marks)))))
      (λ n after. so (λ (e, b) l. (e, b (λ k h. (told made k, told_is made k (listed k (omega (arith, e, h))), refl))))
      (both_of (decided (equals n (length marks)))
      (begins n room after (λ x e. (a : Account) × OfStatement made x a × (e ≡ number a)) (λ k. number (told made k)))))
      (unchanged room)

  -- kinds and their lengths
  abbrev pub kind_numbers : (number : Account → ℕ) (n : ℕ) (room after : List ℕ)
      → Test (Lists marks objectors targets → n ≡ length objectors → Told marks objectors targets number n room after)
  kind_numbers number n room after =
      so (λ b l e. b (λ k h. (
        kind_account (kind_at made (get_or objectors k 0) (get_or targets k 0)),
        objecting l k (omega (arith, e, h)),
        refl,
      )))
      (begins n room after (λ k e. (a : Account) × OfObjection made (get_or objectors k 0) (get_or targets k 0) a ×
      (e ≡ number a))
      (λ k. number (kind_account (kind_at made (get_or objectors k 0) (get_or targets k 0)))))

  abbrev pub kinds_of : (rooms : List ℕ × List ℕ) (a : Answer) (after : List ℕ × List ℕ)
      → Test (PairsKinds marks objectors targets rooms a after)
  kinds_of rooms =
      on_lists (Short (KindsShort objectors rooms)) (KindsIn marks objectors targets rooms) rooms
      (short (so (λ h l. h) (either_of (decided (below (length rooms.0) (length objectors)))
      (decided (below (length rooms.1) (length objectors))))))
      (λ n after. so (λ (e, (p, q)) l. (e, p l e, q l e)) (both_of (decided (equals n (length objectors)))
      (both_of (kind_numbers account_number n rooms.0 after.0) (kind_numbers account_length n rooms.1 after.1))))
      (both_unchanged rooms)

  -- the line of argument of the statement at a place
  abbrev pub argument_at : (place : ℕ) (room : List ℕ) (a : Answer) (after : List ℕ)
      → Test (PairsArgument marks objectors targets place room a after)
  argument_at place room =
      on_lists (Asks (place < length marks) 0 (PairsArgumentShort marks objectors targets place room))
      (PairsArgumentIn marks objectors targets place room) room
      (asks (below place (length marks)) 0 (so (λ (h, (r, s)) l. (argument_of made place, r (listed place h), s))
      (both_of (decided (below place (length marks))) (both_of (argued made place)
      (decided (below (length room) (length (argument_of made place))))))))
      (λ n after. so (λ (h, (r, w)) l. (h, (argument_of made place, r (listed place h), w)))
      (both_of (decided (below place (length marks))) (both_of (argued made place)
      (writes n room after (argument_of made place)))))
      (unchanged room)

  -- the class exercise about it
  abbrev pub exercise_at : (place turns : ℕ) (a : Answer) → Test (PairsExercise marks objectors targets place turns a)
  exercise_at place turns a =
      on_lists (Asks (place < length marks) turns ⊥) (PairsExerciseIn marks objectors targets place turns) tt
      (asks (below place (length marks)) turns never)
      (λ n after. so (λ (h, (e, p)) l. (h, e, p)) (both_of (decided (below place (length marks)))
      (both_of (decided (at_most turns 6)) (exercised made place turns n))))
      no_room a tt

-- the refusal that the two numbers tell
unfoldable pub refusal_of : (number place : ℕ) → Refusal
refusal_of n k =
    cond (eqb n 11) (refusal.Lists Unequal) (cond (eqb n 6) (refusal.Lists Statements) (cond (eqb n 9) (refusal.Lists Objections)
    (cond (eqb n 12) (refusal.Lists (Mark k)) (cond (eqb n 13) (refusal.Lists (Place k)) (cond (eqb n 8)
    (refusal.Lists (Repeated k)) (cond (eqb n 14) refusal.Asked (cond (eqb n 15) refusal.Turns refusal.Room)))))))

-- The test of a row.
test_of : (r : ListsRow) → Test (OnListsSays r)
test_of (labels m o t room c after) =
    in_numbers (λ a. PairsLabels m o t room a after) refusal_of c (λ a. statements m o t account_number room a after)
test_of (lengths m o t room c after) =
    in_numbers (λ a. PairsLengths m o t room a after) refusal_of c (λ a. statements m o t account_length room a after)
test_of (labels_of_moves m f t room c after) =
    in_numbers (λ a. MovesLabels m f t room a after) refusal_of c (λ a. statements m t f account_number room a after)
test_of (lengths_of_moves m f t room c after) =
    in_numbers (λ a. MovesLengths m f t room a after) refusal_of c (λ a. statements m t f account_length room a after)
test_of (kinds m o t rooms c after) =
    in_numbers (λ a. PairsKinds m o t rooms a after) refusal_of c (λ a. kinds_of m o t rooms a after)
test_of (argument m o t place room c after) =
    in_numbers (λ a. PairsArgument m o t place room a after) refusal_of c (λ a. argument_at m o t place room a after)
test_of (exercise m o t place turns c) =
    in_numbers (PairsExercise m o t place turns) refusal_of c (exercise_at m o t place turns)

-- Every row holds.
pub lists_table_holds : Every OnListsSays lists_table
unfolding lists_table test_of pass refusal_of same first_from onward_test same_verdict next_of next_test line_of line_test
    exercise_of
    any all book_of stands_within falls_within verdict verdict_by
lists_table_holds = pass_is OnListsSays (λ r. (test_of r).passes) (λ r t. (test_of r).is t) lists_table tt
