-- Demands 2 and 3 of each public call, from its promise: what the room then says. `CALL_say` where each entry is a number, and
-- `listing_says`, `reason_says`, `sheet_says`, `sheet_update_says` of the bytes that are written.
use mathlib.Core.Bool.{Bool, true, false}
use mathlib.Core.List.{List, [], ◌++◌}
use mathlib.Core.Logic.{inl, inr, ◌⊎◌}
use mathlib.Core.Path.{ap, ap₂, subst, subst₂, sym, refl, ◌≡◌, ◌∙◌}
use Prim.Native.Nat.{ℕ, ◌≤◌, ◌<◌}
use native.Mathlib.Omega.{arith}
use lib.Dec.{T}
use lib.ListN.{length, get_or, take, drop}
use lib.Seq.{take-append_seam, ext_get_or}
use Rattle.game.specs.Book.{Book, Listed, book_of}
use Rattle.game.specs.Account.{Account, OfStatement, OfObjection, account_number, account_length, untold}
use Rattle.game.specs.Reason.{InReason}
use Rattle.game.proofs.Account.{objection_once}
use Rattle.game.proofs.UpTo.{up_to, length_up_to, get_or_up_to}
use Rattle.register.specs.Register.{Register, book, numbers, objector_numbers, target_numbers, objectors_of, targets_of, Places}
use Rattle.register.specs.Reads.{Accepts}
use Rattle.register.proofs.Order.{marks_counted, numbers_counted}
use Rattle.listing.specs.Rows.{header, statement_row, objection_row}
use Rattle.listing.specs.Listing.{IsListing, statement_rows, objection_rows}
use Rattle.listing.proofs.ListingRows.{statement_rows_lem, objection_rows_lem}
use Rattle.reason.specs.Alone.{keep}
use Rattle.reason.specs.Reasons.{IsReason}
use Rattle.reason.proofs.KeepRows.{row_if, keep_rows}
use Rattle.sheet.specs.Sheet.{total}
use Rattle.answer.specs.Answer.{Written}
use Rattle.std.specs.Prelude.{Ok}
use Rattle.promises.specs.LabelCalls.{StatementsIn, PairsLabels, PairsLengths, MovesLabels, MovesLengths, TextLabels}
use Rattle.promises.specs.LabelCalls.{TextLengths}
use Rattle.promises.specs.KindCalls.{PairsKinds}
use Rattle.promises.specs.ListingCalls.{TextListing}
use Rattle.promises.specs.ReasonCalls.{TextReason}
use Rattle.promises.specs.SheetCalls.{SheetIn, TextSheet, TextSheetUpdate}
use Rattle.promises.specs.Demands.{LabelSays, LengthSays, KindSays, LabelsSay, LengthsSay, KindsSay, OfText}
use Rattle.promises.specs.WrittenDemands.{StatementRowSays, ObjectionRowSays, ListingSays, ReasonSays, SheetSays}
use Rattle.promises.proofs.Says.{label_says, length_says, kind_says}

-- Numbers of what is told of each statement: what holds of every such number holds of each entry.
statements_say : (B : Book) (number : Account → ℕ) (Says : ℕ → ℕ → Type 0)
    → ((x : ℕ) → Listed B x → (a : Account) → OfStatement B x a → Says x (number a)) → (statements : ℕ) → statements ≤ B.size
    → (room : List ℕ) (n : ℕ) (after : List ℕ) → StatementsIn B number statements room n after → (x : ℕ) → x < statements
    → Says x (get_or after x 0)
statements_say B number Says says statements few room n after (e, b) x h =
    let (a, of, p) = b.each x (omega (arith, e)) in subst (Says x) (sym p) (says x (omega arith) a of)

module _ (marks objectors targets : List ℕ) where
  pub pairs_labels_say : (room : List ℕ) (n : ℕ) (after : List ℕ) → PairsLabels marks objectors targets room (Ok n) after
      → LabelsSay (book_of marks objectors targets) (length marks) after
  unfolding book_of
  pairs_labels_say room n after (m, l, g) =
      let B = book_of marks objectors targets in
      statements_say B account_number (LabelSays B) (label_says B) (length marks) (omega arith) room n after g

  pub pairs_lengths_say : (room : List ℕ) (n : ℕ) (after : List ℕ) → PairsLengths marks objectors targets room (Ok n) after
      → LengthsSay (book_of marks objectors targets) (length marks) after
  unfolding book_of
  pairs_lengths_say room n after (m, l, g) =
      let B = book_of marks objectors targets in
      statements_say B account_length (LengthSays B) (length_says B) (length marks) (omega arith) room n after g

  pub pairs_kinds_say : (rooms : List ℕ × List ℕ) (n : ℕ) (after : List ℕ × List ℕ)
      → PairsKinds marks objectors targets rooms (Ok n) after
      → KindsSay (book_of marks objectors targets) (length objectors) objectors targets after.0 after.1
  pairs_kinds_say rooms n after (m, l, (e, b, c)) k h =
      let (a, of, p) = b.each k (omega (arith, e)) in
      let (a', of', q) = c.each k (omega (arith, e)) in
      let B = book_of marks objectors targets in
      let y = get_or objectors k 0 in
      let x = get_or targets k 0 in
      subst₂ (KindSays B y x) (sym p) (ap account_length (objection_once B y x a a' of of') ∙ sym q) (kind_says B y x a of)

-- and so of moves
pub moves_labels_say : (marks from to room : List ℕ) (n : ℕ) (after : List ℕ) → MovesLabels marks from to room (Ok n) after
    → LabelsSay (book_of marks to from) (length marks) after
moves_labels_say marks from to = pairs_labels_say marks to from

pub moves_lengths_say : (marks from to room : List ℕ) (n : ℕ) (after : List ℕ) → MovesLengths marks from to room (Ok n) after
    → LengthsSay (book_of marks to from) (length marks) after
moves_lengths_say marks from to = pairs_lengths_say marks to from

-- as many statements as the register has are in its book
pub few : (s : List ℕ) (R : Register) → Accepts s R → length R.statements ≤ (book R).size
unfolding book_of
few s R a = omega (arith, marks_counted R a.valid)

-- what a room begins with
pub room_begins : (l room : List ℕ) (n : ℕ) (after : List ℕ) → Written l room n after → take n after ≡ l
room_begins l room n after (c, f, e) =
    ap₂ (λ k (r : List ℕ). take k r) c e ∙ take-append_seam l (drop (length l) room)

-- a list by its entries
entries : (told : List Account) (n : ℕ) → length told ≡ n → told ≡ up_to n (λ k. get_or told k untold)
entries told n e =
    ext_get_or untold told (up_to n (λ k. get_or told k untold)) (e ∙ sym (length_up_to n (λ k. get_or told k untold)))
    (λ k h. sym (get_or_up_to n (λ k. get_or told k untold) untold k (omega arith)))

module _ (s : List ℕ) (R : Register) (a : Accepts s R) where
  -- the row of what is told of a statement, and of an objection
  statement_row_says : (x : ℕ) → x < length R.statements → (told : Account) → OfStatement (book R) x told
      → StatementRowSays R x (statement_row (get_or (numbers R) x 0) told)
  statement_row_says x h told (v, m, e) =
      let g : Listed (book R) x = omega (arith, few s R a) in
      record {
        verdict = v;
        is = ap (statement_row (get_or (numbers R) x 0)) e;
        label_says = subst (λ u. LabelSays (book R) x (account_number u)) e (label_says (book R) x g told (v, m, e));
        length_says = subst (λ u. LengthSays (book R) x (account_length u)) e (length_says (book R) x g told (v, m, e));
      }

  objection_row_says : (k : ℕ) (told : Account) → OfObjection (book R) (get_or (objectors_of R) k 0) (get_or (targets_of R) k 0)
      told
      → ObjectionRowSays R k (objection_row (get_or (objector_numbers R) k 0) (get_or (target_numbers R) k 0) told)
  objection_row_says k told (κ, o, e) =
      let y = get_or (objectors_of R) k 0 in
      let x = get_or (targets_of R) k 0 in
      record {
        kind = κ;
        is = ap (objection_row (get_or (objector_numbers R) k 0) (get_or (target_numbers R) k 0)) e;
        kind_says =
            subst (λ u. KindSays (book R) y x (account_number u) (account_length u)) e (kind_says (book R) y x told (κ, o, e));
      }

  listing_of_lem : (l : List ℕ) → IsListing R l → ListingSays R l
  listing_of_lem l i = record {
    statements = λ x. statement_row (get_or (numbers R) x 0) (get_or i.statements x untold);
    objections =
        λ k. objection_row (get_or (objector_numbers R) k 0) (get_or (target_numbers R) k 0) (get_or i.objections k untold);
    is =
        i.is ∙ ap₂ (λ u v. header (length R.statements) (length R.objections) ++ (u ++ v))
        (ap (statement_rows R.statements) (entries i.statements (length R.statements) i.statement_each)
        ∙ statement_rows_lem R.statements (λ x. get_or i.statements x untold))
        (ap (objection_rows R.objections) (entries i.objections (length R.objections) i.of_objections_lem.each)
        ∙ objection_rows_lem R.objections (λ k. get_or i.objections k untold));
    statement_says = λ x h. statement_row_says x h (get_or i.statements x untold) (i.of_statement_lem x h);
    objection_says = λ k h. objection_row_says k (get_or i.objections k untold) (i.of_objections_lem.is k h);
  }

  reason_of_lem : (x : ℕ) → x < length R.statements → (l : List ℕ) → IsReason R x l → ReasonSays R x l
  reason_of_lem x h l i = record {
    statement = statement_row (get_or (numbers R) x 0) i.statement;
    objections = row_if i.inside R.objections (λ k. get_or i.objections k untold);
    is =
        i.is ∙ ap (λ u. statement_row (get_or (numbers R) x 0) i.statement ++ u)
        (ap (λ u. objection_rows (keep i.inside R.objections) (keep i.inside u))
        (entries i.objections (length R.objections) i.of_objections_lem.each)
        ∙ keep_rows i.inside R.objections (λ k. get_or i.objections k untold));
    statement_says = statement_row_says x h i.statement i.of_statement_lem;
    exactly = λ k g. chosen k g (i.inside k) refl;
  }
    where
      Inside : ℕ → Type 0
      Inside k = InReason (book R) x (get_or (objectors_of R) k 0) (get_or (targets_of R) k 0)

      chosen : (k : ℕ) → k < length R.objections → (b : Bool) → i.inside k ≡ b
          → (Inside k × ObjectionRowSays R k (row_if i.inside R.objections (λ k. get_or i.objections k untold) k))
          ⊎ ((¬ Inside k) × (row_if i.inside R.objections (λ k. get_or i.objections k untold) k ≡ []))
      chosen k g true e =
          inl (
            (i.exactly k g).0 (subst T (sym e) tt),
            rw e (objection_row_says k (get_or i.objections k untold)
                (i.of_objections_lem.is k g)),
          )
      chosen k g false e = inr (λ w. subst T e ((i.exactly k g).1 w), rw e refl)

  sheet_of : (rooms : List ℕ × List ℕ) (n : ℕ) (after : List ℕ × List ℕ) → SheetIn (book R) rooms n after
      → SheetSays R (take n after.0) after.1
  unfolding book_of
  sheet_of rooms n after (l, is, w, t) =
      rw (room_begins l rooms.0 n after.0 w) record {
        label_says = λ x h.
            let g : Listed (book R) x = omega (arith, few s R a) in
            let (told, of, e) = is.each x g in
            subst (LabelSays (book R) x) (sym e) (label_says (book R) x g told of);
        counts = λ c h. t.each c h ∙ ap (λ k. total l k c) (marks_counted R a.valid);
      }

module _ (s : List ℕ) where
  pub text_labels_say : (room : List ℕ) (n : ℕ) (after : List ℕ) → TextLabels s room (Ok n) after
      → OfText s (λ R. LabelsSay (book R) (length R.statements) after)
  text_labels_say room n after (R, a, g) = (
    R,
    a,
    statements_say (book R) account_number (LabelSays (book R)) (label_says (book R)) (length R.statements) (few s R a) room n
        after g,
  )

  pub text_lengths_say : (room : List ℕ) (n : ℕ) (after : List ℕ) → TextLengths s room (Ok n) after
      → OfText s (λ R. LengthsSay (book R) (length R.statements) after)
  text_lengths_say room n after (R, a, g) = (
    R,
    a,
    statements_say (book R) account_length (LengthSays (book R)) (length_says (book R)) (length R.statements) (few s R a) room
        n after g,
  )

  pub listing_says : (room : List ℕ) (n : ℕ) (after : List ℕ) → TextListing s room (Ok n) after
      → OfText s (λ R. ListingSays R (take n after))
  listing_says room n after (R, a, (l, is, w)) =
      (R, a, subst (ListingSays R) (sym (room_begins l room n after w)) (listing_of_lem s R a l is))

  pub reason_says : (number : ℕ) (room : List ℕ) (n : ℕ) (after : List ℕ) → TextReason s number room (Ok n) after
      → OfText s (λ R. (x : ℕ) × Places R number x × ReasonSays R x (take n after))
  reason_says number room n after (R, a, (x, q, (l, is, w))) = (
    R,
    a,
    (
      x,
      q,
      subst (ReasonSays R x) (sym (room_begins l room n after w))
          (reason_of_lem s R a x (omega (arith, q.0, numbers_counted R)) l is),
    ),
  )

  pub sheet_says : (rooms : List ℕ × List ℕ) (n : ℕ) (after : List ℕ × List ℕ) → TextSheet s rooms (Ok n) after
      → OfText s (λ R. SheetSays R (take n after.0) after.1)
  sheet_says rooms n after (R, a, g) = (R, a, sheet_of s R a rooms n after g)

  pub sheet_update_says : (rooms : List ℕ × List ℕ) (n : ℕ) (after : List ℕ × List ℕ) → TextSheetUpdate s rooms (Ok n) after
      → OfText s (λ R. SheetSays R (take n after.0) after.1)
  sheet_update_says rooms n after (R, a, (old, g)) = (R, a, sheet_of s R a rooms n after g)
