-- Whatever it is asked, each public call has an answer, and rooms to go with it, that its promise allows: `CALL_there`. So no
-- promise is empty. That there is one only is shown in the files whose names begin with Unique.
use mathlib.Core.List.{List, ◌++◌}
use mathlib.Core.Logic.{inl, inr, ◌⊎◌}
use mathlib.Core.Path.{ap, refl, subst, sym, ◌≡◌, ◌∙◌}
use Prim.Native.Nat.{ℕ, ◌+◌, ◌-◌, ◌≤◌, ◌<◌}
use native.Mathlib.Decide.{dec_le, dec_lt}
use native.Mathlib.Omega.{arith}
use lib.ListN.{length, length-append, length-drop, length-map, get_or, drop, get_or-append}
use lib.Seq.{get_or-append-add, get_or-drop}
use Rattle.game.specs.Book.{Book, book_of}
use Rattle.game.specs.Account.{Account, OfStatement, OfObjection, account_number, account_length}
use Rattle.game.specs.Argument.{Argument}
use Rattle.game.proofs.Account.{statement_told}
use Rattle.game.proofs.Argument.{line}
use Rattle.game.proofs.Exercise.{answered_there}
use Rattle.game.proofs.HandedBook.{entry_told}
use Rattle.game.proofs.Search.{either?}
use Rattle.game.proofs.UpTo.{chosen}
use Rattle.game.proofs.Verdict.{verdict, verdict_means}
use Rattle.lists.specs.Refuses.{Lists}
use Rattle.register.specs.Register.{Register, Issued, Places, book, written}
use Rattle.register.specs.Reads.{Accepts}
use Rattle.register.proofs.Order.{numbers_counted}
use Rattle.register.proofs.Settled.{issued?}
use Rattle.listing.specs.Listing.{IsListing}
use Rattle.listing.proofs.Listing.{listing_there}
use Rattle.reason.specs.Reasons.{IsReason}
use Rattle.reason.proofs.Reasons.{reason_there}
use Rattle.sheet.specs.Sheet.{bytes_for, codes, total}
use Rattle.sheet.proofs.Sheets.{sheet_there, sound?}
use Rattle.catalogue.specs.Regrouped.{catalogued}
use Rattle.mend.specs.TextLines.{TextLine}
use Rattle.mend.specs.Mended.{mended, fates}
use Rattle.mend.specs.Report.{report_of}
use Rattle.mend.proofs.TextLines.{lines_exist}
use Rattle.register.specs.declared.TextFault.TheVariants.{TooLong}
use Rattle.answer.specs.declared.Refusal.{Refusal}
use Rattle.answer.specs.declared.Refusal.TheVariants.{Text, Room, Asked, Turns, Sheet}
use Rattle.answer.specs.Answer.{Answer}
use Rattle.std.specs.Prelude.{Ok, Err}
use Rattle.answer.specs.Answer.{OnInput, Begins, Written, Short, Asks}
use Rattle.answer.proofs.Inputs.{Apart}
use Rattle.promises.specs.OnText.{OnText}
use Rattle.promises.specs.LabelCalls.{StatementsIn, PairsStatements, TextStatements}
use Rattle.promises.specs.KindCalls.{PairsKinds, KindsIn, KindsShort}
use Rattle.promises.specs.ArgumentCalls.{PairsArgument, PairsArgumentIn, PairsArgumentShort, TextArgument, by_number}
use Rattle.promises.specs.ExerciseCalls.{PairsExercise, PairsExerciseIn, TextExercise, TextExerciseIn}
use Rattle.promises.specs.ListingCalls.{TextListing, ListingShort, ListingIn}
use Rattle.promises.specs.ReasonCalls.{TextReason}
use Rattle.promises.specs.SheetCalls.{SheetIn, SheetShort, OldSheet, UpdateRefused, UpdatedIn, TextSheet, TextSheetUpdate}
use Rattle.promises.specs.MendCalls.{Lent, Lined, LinesRefused, MendedIn, MendedShort, TextMend}
use Rattle.promises.proofs.CallsSay.{few}
use Rattle.promises.proofs.OnLists.{lists_settled}
use Rattle.promises.proofs.OnText.{text_apart, text_settled}
use Rattle.promises.specs.NumberCalls.{NumberCode, NumberText}
use Rattle.promises.proofs.OnNumber.{written_settled, code_apart, code_settled}
use Rattle.promises.specs.CatalogueCalls.{TextCatalogue, CatalogueText}
use Rattle.promises.proofs.OnCatalogue.{catalogue_apart, catalogue_settled}
use Rattle.promises.proofs.WrittenInput.{WrittenFor}

-- something is refused, or something is given
abbrev Outcome : {Rooms : Type 0} → (Refusal → Type 0) → (ℕ → Rooms → Type 0) → Type 0
Outcome {Rooms} refuses gives = ((r : Refusal) × refuses r) ⊎ ((n : ℕ) × (after : Rooms) × gives n after)

-- Where an input is accepted or refused, and each that is accepted has an outcome, there is an answer.
on_there : {Made Rooms : Type 0} {accepts : Made → Type 0} {refuses : Refusal → Type 0} (later : Made → Refusal → Type 0)
    (gives : Made → ℕ → Rooms → Type 0) (rooms : Rooms) → ((m : Made) × accepts m) ⊎ ((r : Refusal) × refuses r)
    → ((m : Made) → accepts m → Outcome (later m) (gives m))
    → (a : Answer) × (after : Rooms) × OnInput accepts refuses later gives rooms a after
on_there later gives rooms (inr (r, p)) f = (Err r, rooms, (inl p, refl))
on_there {Made} {Rooms} {accepts} {refuses} later gives rooms (inl (m, p)) f = at (f m p)
  where
    at : Outcome (later m) (gives m) → (a : Answer) × (after : Rooms) × OnInput accepts refuses later gives rooms a after
    at (inl (r, q)) = (Err r, rooms, (inr (m, p, q), refl))
    at (inr (n, after, g)) = (Ok n, after, (m, p, g))

-- A room that is long enough has place for a list, and for entries that are there.
written_there : (l room : List ℕ) → length l ≤ length room → (n : ℕ) × (after : List ℕ) × Written l room n after
written_there l room h = (length l, l ++ drop (length l) room, (refl, h, refl))

-- one list for what an input makes, in a room that may be too short
written_for_there : {Made : Type 0} {accepts : Made → Type 0} {refuses : Refusal → Type 0} (apart : Apart accepts refuses)
    (told : Made → List ℕ) (room : List ℕ) → ((m : Made) × accepts m) ⊎ ((r : Refusal) × refuses r)
    → (a : Answer) × (after : List ℕ) × WrittenFor apart told room a after
written_for_there apart told room either =
    on_there (λ m. Short (length room < length (told m))) (λ m. Written (told m) room) room either
    (λ m p. go (told m) (dec_lt (length room) (length (told m))))
  where
    go : (l : List ℕ) → Dec (length room < length l) → Outcome (Short (length room < length l)) (Written l room)
    go l (yes h) = inl (Room, (h, refl))
    go l (no h) = inr (written_there l room (omega arith))

begins_there : (n : ℕ) (entry : ℕ → ℕ → Type 0) (room : List ℕ) → n ≤ length room → ((k : ℕ) → k < n → (e : ℕ) × entry k e)
    → (after : List ℕ) × Begins n entry room after
begins_there n entry room h f = go (chosen 0 entry n f)
  where
    go : (l : List ℕ) × (length l ≡ n) × ((k : ℕ) → k < n → entry k (get_or l k 0)) → (after : List ℕ) × Begins n entry room after
    go (l, e, each) = (
      l ++ drop n room,
      record {
        fits = h;
        same = length-append l (drop n room) ∙ omega (arith, e, length-drop n room);
        each = λ k i. subst (entry k) (sym (get_or-append l (drop n room) 0 k (omega (arith, e)))) (each k i);
        rest = λ k i.
            let j : length l + (k - n) ≡ k = omega (arith, e) in
            let i : n + (k - n) ≡ k = omega arith in
            ap (λ u. get_or (l ++ drop n room) u 0) (sym j) ∙ get_or-append-add l (drop n room) (k - n) 0
            ∙ get_or-drop n room (k - n) 0 ∙ ap (λ u. get_or room u 0) i;
      },
    )

-- a number of what is told of each statement
statements_there : (B : Book) (number : Account → ℕ) (statements : ℕ) → statements ≤ B.size → (room : List ℕ)
    → Outcome (Short (length room < statements)) (StatementsIn B number statements room)
statements_there B number statements few room = go (dec_lt (length room) statements)
  where
    go : Dec (length room < statements) → Outcome (Short (length room < statements)) (StatementsIn B number statements room)
    go (yes h) = inl (Room, (h, refl))
    go (no h) =
        let (after, b) = begins_there statements (λ x e. (a : Account) × OfStatement B x a × (e ≡ number a)) room (omega arith)
        (λ x i. let (a, of) = statement_told B x (omega arith) in (number a, (a, of, refl))) in
        inr (statements, after, (refl, b))

-- a list, in a room that may be too short: `Is l` says that it is the one asked for, and `told` how it is written
list_there : (Is : List ℕ → Type 0) (told : List ℕ → List ℕ) → ((l : List ℕ) → length (told l) ≡ length l) → (l : List ℕ) → Is l
    → (room : List ℕ) → ((l : List ℕ) × Is l × (length room < length l))
    ⊎ ((n : ℕ) × (after : List ℕ) × ((l : List ℕ) × Is l × Written (told l) room n after))
list_there Is told as_long l is room = go (dec_lt (length room) (length l))
  where
    go : Dec (length room < length l) → ((l : List ℕ) × Is l × (length room < length l))
        ⊎ ((n : ℕ) × (after : List ℕ) × ((l : List ℕ) × Is l × Written (told l) room n after))
    go (yes h) = inl (l, is, h)
    go (no h) = let (n, after, w) = written_there (told l) room (omega (arith, as_long l)) in inr (n, after, (l, is, w))

-- every listed statement has its line of argument
line_there : (B : Book) (x : ℕ) → x < B.size → (l : List ℕ) × Argument B x l
line_there B x h = let (l, is, e) = line B x (verdict B x) h (verdict_means B x h) in (l, is)

-- what is asked about a statement: "then 14, 15, 10"
asked_there : {Rooms : Type 0} (there : Type 0) (turns : ℕ) (short : Type 0) (gives : ℕ → Rooms → Type 0) → there ⊎ (¬ there)
    → (there → turns ≤ 6 → short ⊎ ((n : ℕ) × (after : Rooms) × gives n after)) → Outcome (Asks there turns short) gives
asked_there there turns short gives (inr n) f = inl (Asked, inl (n, refl))
asked_there {Rooms} there turns short gives (inl t) f = go (dec_le turns 6)
  where
    at : turns ≤ 6 → short ⊎ ((n : ℕ) × (after : Rooms) × gives n after) → Outcome (Asks there turns short) gives
    at h (inl s) = inl (Room, inr (inr (t, h, (s, refl))))
    at h (inr g) = inr g

    go : Dec (turns ≤ 6) → Outcome (Asks there turns short) gives
    go (no h) = inl (Turns, inr (inl (t, omega arith, refl)))
    go (yes h) = at h (f t h)

module _ (marks objectors targets : List ℕ) where
  pub pairs_statements_there : (number : Account → ℕ) (room : List ℕ) → (a : Answer) × (after : List ℕ)
      × PairsStatements marks objectors targets number room a after
  unfolding book_of
  pairs_statements_there number room =
      let B = book_of marks objectors targets in
      on_there (λ m. Short (length room < length marks)) (λ m. StatementsIn B number (length marks) room) room
      (lists_settled marks objectors targets).either (λ m l. statements_there B number (length marks) (omega arith) room)

  pub pairs_kinds_there : (rooms : List ℕ × List ℕ) → (a : Answer) × (after : List ℕ × List ℕ)
      × PairsKinds marks objectors targets rooms a after
  pairs_kinds_there rooms =
      on_there (λ m. Short (KindsShort objectors rooms)) (λ m. KindsIn marks objectors targets rooms) rooms
      (lists_settled marks objectors targets).either
      (λ m l. go l (dec_lt (length rooms.0) (length objectors)) (dec_lt (length rooms.1) (length objectors)))
    where
      told : Lists marks objectors targets → (number : Account → ℕ) (room : List ℕ) → length objectors ≤ length room
          → (after : List ℕ) × Begins (length objectors) (λ k e. (a : Account)
          × OfObjection (book_of marks objectors targets) (get_or objectors k 0) (get_or targets k 0) a × (e ≡ number a)) room
          after
      told l number room h =
          begins_there (length objectors) (λ k e. (a : Account)
          × OfObjection (book_of marks objectors targets) (get_or objectors k 0) (get_or targets k 0) a × (e ≡ number a)) room h
          (λ k i. let (a, of) = entry_told marks objectors targets l.order k i in (number a, (a, of, refl)))

      go : Lists marks objectors targets → Dec (length rooms.0 < length objectors) → Dec (length rooms.1 < length objectors)
          → Outcome (Short (KindsShort objectors rooms)) (KindsIn marks objectors targets rooms)
      go l (yes h) d = inl (Room, (inl h, refl))
      go l (no h) (yes k) = inl (Room, (inr k, refl))
      go l (no h) (no k) =
          let (kinds, b) = told l account_number rooms.0 (omega arith) in
          let (lengths, c) = told l account_length rooms.1 (omega arith) in
          inr (length objectors, (kinds, lengths), (refl, b, c))

  pub pairs_line_there : (place : ℕ) (room : List ℕ) → (a : Answer) × (after : List ℕ)
      × PairsArgument marks objectors targets place room a after
  unfolding book_of
  pairs_line_there place room =
      on_there (λ m. Asks (place < length marks) 0 (PairsArgumentShort marks objectors targets place room))
      (λ m. PairsArgumentIn marks objectors targets place room) room (lists_settled marks objectors targets).either
      (λ m l. asked_there (place < length marks) 0 (PairsArgumentShort marks objectors targets place room)
      (PairsArgumentIn marks objectors targets place room) (either? (dec_lt place (length marks))) (λ h t. go h))
    where
      B : Book
      B = book_of marks objectors targets

      go : place < length marks → PairsArgumentShort marks objectors targets place room
          ⊎ ((n : ℕ) × (after : List ℕ) × PairsArgumentIn marks objectors targets place room n after)
      go h = let (l, is) = line_there B place h in at (list_there (Argument B place) (λ l. l) (λ l. refl) l is room)
        where
          at : ((l : List ℕ) × Argument B place l × (length room < length l))
              ⊎ ((n : ℕ) × (after : List ℕ) × ((l : List ℕ) × Argument B place l × Written l room n after))
              → PairsArgumentShort marks objectors targets place room
              ⊎ ((n : ℕ) × (after : List ℕ) × PairsArgumentIn marks objectors targets place room n after)
          at (inl s) = inl s
          at (inr (n, after, g)) = inr (n, after, (h, g))

  pub pairs_exercise_there : (place turns : ℕ) → (a : Answer) × (after : Unit {0})
      × PairsExercise marks objectors targets place turns a
  pairs_exercise_there place turns =
      on_there {Made = Unit {0}} {Rooms = Unit {0}} (λ m. Asks (place < length marks) turns ⊥)
      (λ m. PairsExerciseIn marks objectors targets place turns) tt (lists_settled marks objectors targets).either
      (λ m l. asked_there (place < length marks) turns ⊥ (PairsExerciseIn marks objectors targets place turns)
      (either? (dec_lt place (length marks)))
      (λ h t. let (n, is) = answered_there (book_of marks objectors targets) place turns in inr (n, tt, (h, t, is))))

module _ (s : List ℕ) where
  pub text_statements_there : (number : Account → ℕ) (room : List ℕ) → (a : Answer) × (after : List ℕ)
      × TextStatements s number room a after
  text_statements_there number room =
      on_there (λ R. Short (length room < length R.statements))
      (λ R. StatementsIn (book R) number (length R.statements) room) room (text_settled s).either
      (λ R a. statements_there (book R) number (length R.statements) (few s R a) room)

  pub text_listing_there : (room : List ℕ) → (a : Answer) × (after : List ℕ) × TextListing s room a after
  text_listing_there room =
      on_there (λ R. Short (ListingShort room R)) (λ R. ListingIn R room) room (text_settled s).either
      (λ R a. let (l, is) = listing_there R a.valid in at R (list_there (IsListing R) (λ l. l) (λ l. refl) l is room))
    where
      at : (R : Register) → ListingShort room R ⊎ ((n : ℕ) × (after : List ℕ) × ListingIn R room n after)
          → Outcome (Short (ListingShort room R)) (ListingIn R room)
      at R (inl s) = inl (Room, (s, refl))
      at R (inr g) = inr g

  -- what is asked about the statement of a number, where `Is R x l` says that l is the answer about the place x
  module _ (number : ℕ) (Is : Register → ℕ → List ℕ → Type 0)
      (there : (R : Register) → Accepts s R → (x : ℕ) → x < length R.statements → (l : List ℕ) × Is R x l)
      (told : Register → List ℕ → List ℕ) (as_long : (R : Register) (l : List ℕ) → length (told R l) ≡ length l)
      (room : List ℕ) where
    abbrev short : Register → Type 0
    short R = (x : ℕ) × Places R number x × ((l : List ℕ) × Is R x l × (length room < length l))

    abbrev gives : Register → ℕ → List ℕ → Type 0
    gives R n after = (x : ℕ) × Places R number x × ((l : List ℕ) × Is R x l × Written (told R l) room n after)

    about_there : (a : Answer) × (after : List ℕ) × OnText s (λ R. Asks (Issued R number) 0 (short R)) gives room a after
    about_there =
        on_there (λ R. Asks (Issued R number) 0 (short R)) gives room (text_settled s).either
        (λ R a. asked_there (Issued R number) 0 (short R) (gives R) (issued? R number) (λ i t. go R a i))
      where
        go : (R : Register) → Accepts s R → Issued R number → short R ⊎ ((n : ℕ) × (after : List ℕ) × gives R n after)
        go R a (x, h, e) =
            let (l, is) = there R a x (omega (arith, numbers_counted R)) in
            at (list_there (Is R x) (told R) (as_long R) l is room)
          where
            at : ((l : List ℕ) × Is R x l × (length room < length l))
                ⊎ ((n : ℕ) × (after : List ℕ) × ((l : List ℕ) × Is R x l × Written (told R l) room n after))
                → short R ⊎ ((n : ℕ) × (after : List ℕ) × gives R n after)
            at (inl q) = inl (x, (h, e), q)
            at (inr (n, after, g)) = inr (n, after, (x, (h, e), g))

  pub text_line_there : (number : ℕ) (room : List ℕ) → (a : Answer) × (after : List ℕ) × TextArgument s number room a after
  text_line_there number room =
      about_there number (λ R x l. Argument (book R) x l) (λ R a x h. line_there (book R) x (omega (arith, few s R a))) by_number
      (λ R l. length-map l _) room

  pub text_reason_there : (number : ℕ) (room : List ℕ) → (a : Answer) × (after : List ℕ) × TextReason s number room a after
  text_reason_there number room =
      about_there number IsReason (λ R a x h. reason_there R x a.valid h) (λ R l. l) (λ R l. refl) room

  pub text_exercise_there : (number turns : ℕ) → (a : Answer) × (after : Unit {0}) × TextExercise s number turns a
  text_exercise_there number turns =
      on_there {Rooms = Unit {0}} (λ R. Asks (Issued R number) turns ⊥) (λ R. TextExerciseIn R number turns) tt
      (text_settled s).either (λ R a. asked_there (Issued R number) turns ⊥ (TextExerciseIn R number turns) (issued? R number)
      (λ (x, h, e) t. let (n, is) = answered_there (book R) x turns in inr (n, tt, (t, (x, (h, e), is)))))

  -- a book's sheet and totals, in rooms that are long enough
  sheet_in_there : (B : Book) (rooms : List ℕ × List ℕ) → bytes_for B.size ≤ length rooms.0 → codes ≤ length rooms.1
      → (n : ℕ) × (after : List ℕ × List ℕ) × SheetIn B rooms n after
  sheet_in_there B rooms h k =
      let (sheet, is) = sheet_there B in
      let (n, after, w) = written_there sheet rooms.0 (omega (arith, is.size)) in
      let (totals, b) = begins_there codes (λ c e. e ≡ total sheet B.size c) rooms.1 k
      (λ c i. (total sheet B.size c, refl)) in
      (n, (after, totals), (sheet, is, w, b))

  pub text_sheet_there : (rooms : List ℕ × List ℕ) → (a : Answer) × (after : List ℕ × List ℕ) × TextSheet s rooms a after
  text_sheet_there rooms =
      on_there (λ R. Short (SheetShort (book R) rooms)) (λ R. SheetIn (book R) rooms) rooms (text_settled s).either
      (λ R a. go (book R) (dec_lt (length rooms.0) (bytes_for (book R).size)) (dec_lt (length rooms.1) codes))
    where
      go : (B : Book) → Dec (length rooms.0 < bytes_for B.size) → Dec (length rooms.1 < codes)
          → Outcome (Short (SheetShort B rooms)) (SheetIn B rooms)
      go B (yes h) d = inl (Room, (inl h, refl))
      go B (no h) (yes k) = inl (Room, (inr k, refl))
      go B (no h) (no k) = inr (sheet_in_there B rooms (omega arith) (omega arith))

  pub text_sheet_update_there : (rooms : List ℕ × List ℕ) → (a : Answer) × (after : List ℕ × List ℕ)
      × TextSheetUpdate s rooms a after
  text_sheet_update_there rooms =
      on_there (λ R. UpdateRefused (book R) rooms) (λ R. UpdatedIn (book R) rooms) rooms (text_settled s).either
      (λ R a. go (book R) (sound? (book R).size rooms.0 rooms.1) (dec_lt (length rooms.1) codes))
    where
      go : (B : Book) → OldSheet B rooms ⊎ (¬ OldSheet B rooms) → Dec (length rooms.1 < codes)
          → Outcome (UpdateRefused B rooms) (UpdatedIn B rooms)
      go B (inr n) d = inl (Sheet, inl (n, refl))
      go B (inl old) (yes k) = inl (Room, inr (old, (k, refl)))
      go B (inl old) (no k) =
          let (n, after, g) = sheet_in_there B rooms (omega (arith, old.size)) (omega arith) in
          inr (n, after, (old, g))

  pub text_mend_there : (lent : Lent) → (a : Answer) × (after : Lent) × TextMend s lent a after
  text_mend_there lent =
      on_there (λ ls. Short (MendedShort ls lent)) (λ ls. MendedIn ls lent) lent (settled (dec_le (length s) 65535))
      (λ ls p. go ls (dec_lt (length lent.0) (length (written (mended ls))))
      (dec_lt (length lent.1) (length (report_of (fates ls)))))
    where
      settled : Dec (length s ≤ 65535) → ((ls : List TextLine) × Lined s ls) ⊎ ((r : Refusal) × LinesRefused s r)
      settled (yes h) = let (ls, p) = lines_exist s in inl (ls, (h, p))
      settled (no h) = inr (Text TooLong, (omega arith, refl))

      go : (ls : List TextLine) → Dec (length lent.0 < length (written (mended ls)))
          → Dec (length lent.1 < length (report_of (fates ls))) → Outcome (Short (MendedShort ls lent)) (MendedIn ls lent)
      go ls (yes h) d = inl (Room, (inl h, refl))
      go ls (no h) (yes k) = inl (Room, (inr k, refl))
      go ls (no h) (no k) =
          let (n, text, w) = written_there (written (mended ls)) lent.0 (omega arith) in
          let (m, report, v) = written_there (report_of (fates ls)) lent.1 (omega arith) in
          inr (n, (text, report, m), (w, v))

-- the calls on one number
pub number_code_there : (written : List ℕ) → (a : Answer) × (after : Unit {0}) × NumberCode written a
number_code_there written =
    on_there {Rooms = Unit {0}} (λ number r. ⊥) (λ number n after. n ≡ number) tt (written_settled written).either
    (λ number p. inr (number, tt, refl))

pub number_text_there : (number : ℕ) (room : List ℕ) → (a : Answer) × (after : List ℕ) × NumberText number room a after
number_text_there number room = written_for_there (code_apart number) (λ l. l) room (code_settled number).either

-- the calls between the two forms
pub text_catalogue_there : (s room : List ℕ) → (a : Answer) × (after : List ℕ) × TextCatalogue s room a after
text_catalogue_there s room = written_for_there (text_apart s) catalogued room (text_settled s).either

pub catalogue_text_there : (catalogue room : List ℕ) → (a : Answer) × (after : List ℕ) × CatalogueText catalogue room a after
catalogue_text_there catalogue room =
    written_for_there (catalogue_apart catalogue) written room (catalogue_settled catalogue).either
