-- What is told of the statements and objections of a book, computed, and why it is what the meanings say. So are the listing, the
-- reasons and the sheet of a register, the line of argument and the answer of the class exercise.
use mathlib.Core.Bool.{Bool, ◌&&◌, ◌||◌}
use mathlib.Core.List.{List, ◌++◌}
use mathlib.Core.Logic.{⊎_elim}
use mathlib.Core.Option.{Option, none, some}
use mathlib.Core.Path.{refl, ◌≡◌}
use Prim.Native.Nat.{ℕ, ◌*◌, ◌≤◌, ◌<◌}
use native.Mathlib.Decide.{dec_lt}
use native.Mathlib.Omega.{arith}
use lib.Dec.{eqb, T, eqb→eq, ltb, ltb→lt}
use lib.ListN.{get_or, length, get_or-eq_default}
use Rattle.game.specs.Book.{all, Listed, book_of, Objects, Book}
use Rattle.game.specs.Label.{Means}
use Rattle.game.specs.Account.{Account, OfStatement, OfObjection, verdict_account, kind_account, account_number, untold}
use Rattle.game.specs.Objection.{kind_of}
use Rattle.game.proofs.Objection.{or_idle}
use Rattle.game.specs.declared.Kind.{Kind}
use Rattle.game.proofs.Search.{both, all_at, or_cases}
use Rattle.game.proofs.HandedBook.{objects_entry}
use Rattle.game.proofs.Verdict.{verdict, verdict_means}
use Rattle.game.proofs.Objection.{never_occurs}
use Rattle.game.proofs.Reason.{reaching, belonging, within_exactly}
use Rattle.game.proofs.UpTo.{up_to, length_up_to, get_or_up_to}
use Rattle.register.specs.Register.{Register, numbers, Valid, book, targets_of, objectors_of, marks_of}
use Rattle.register.proofs.Order.{marks_counted, objectors_counted, register_in_order}
use Rattle.listing.specs.Rows.{statement_row}
use Rattle.listing.specs.Listing.{listing, objection_rows, IsListing, ObjectionsTold}
use Rattle.reason.specs.Alone.{keep}
use Rattle.reason.specs.Reasons.{IsReason}
use Rattle.sheet.specs.Sheet.{code_at, bytes_for, IsSheet}
use Rattle.sheet.proofs.Codes.{code_beyond}

some_is : (o : Option Kind) → (o ≡ none → ⊥) → o ≡ some (or_idle o)
some_is none n = absurd (n refl)
some_is (some κ) n = refl

-- what is told of the statement x, and of the objection of y against x
module _ (B : Book) where
  abbrev pub told : ℕ → Account
  told x = verdict_account (verdict B x)

  abbrev pub kind_at : (y x : ℕ) → Kind
  kind_at y x = or_idle (kind_of (verdict B x) (verdict B y))

  pub told_is : (x : ℕ) → Listed B x → OfStatement B x (told x)
  told_is x h = (verdict B x, verdict_means B x h, refl)

  pub kind_is : (y x : ℕ) → Listed B x → Objects B y x → OfObjection B y x (kind_account (kind_at y x))
  kind_is y x h o =
      let p : Means B x (verdict B x) = verdict_means B x h in
      let q : Means B y (verdict B y) = verdict_means B y o.0 in (
        kind_at y x,
        record {
          target = verdict B x;
          objector = verdict B y;
          objects = o;
          target_means = p;
          objector_means = q;
          is = some_is (kind_of (verdict B x) (verdict B y)) (never_occurs B y x (verdict B x) (verdict B y) o p q);
        },
        refl,
      )

-- The listing of a register, and the reason of the statement at a place.
module _ (R : Register) where
  abbrev pub statements_told : List Account
  statements_told = up_to (length R.statements) (told (book R))

  abbrev pub objection_told : ℕ → Account
  objection_told k = kind_account (kind_at (book R) (get_or (objectors_of R) k 0) (get_or (targets_of R) k 0))

  abbrev pub objections_told : List Account
  objections_told = up_to (length R.objections) objection_told

  abbrev pub listing_of : List ℕ
  listing_of = listing R statements_told objections_told

  unfoldable pub inside : ℕ → ℕ → Bool
  inside x k =
      reaching (book R) x (book R).size (get_or (targets_of R) k 0)
      && belonging (book R) (get_or (objectors_of R) k 0) (get_or (targets_of R) k 0)

  abbrev pub reason_of : ℕ → List ℕ
  reason_of x =
      statement_row (get_or (numbers R) x 0) (told (book R) x) ++ objection_rows (keep (inside x) R.objections)
      (keep (inside x) objections_told)

  module _ (valid : Valid R) where
    pub placed : (x : ℕ) → x < length R.statements → Listed (book R) x
    unfolding book_of
    placed x h = omega (arith, marks_counted R valid)

    objection_is : (k : ℕ) → k < length R.objections
        → OfObjection (book R) (get_or (objectors_of R) k 0) (get_or (targets_of R) k 0) (objection_told k)
    unfolding book_of
    objection_is k h =
        let y : ℕ = get_or (objectors_of R) k 0 in
        let x : ℕ = get_or (targets_of R) k 0 in
        let l : k < length (objectors_of R) = omega (arith, objectors_counted R valid) in
        kind_is (book R) y x ((register_in_order R valid).target k l)
        ((objects_entry (marks_of R) (objectors_of R) (targets_of R) y x).1
        ((register_in_order R valid).objector k l, (k, (l, refl, refl))))

    objections_are : ObjectionsTold R objections_told
    objections_are = record {
      each = length_up_to (length R.objections) objection_told;
      is = λ k h. rw (get_or_up_to (length R.objections) objection_told untold k h) (objection_is k h);
    }

    pub listing_is : IsListing R listing_of
    listing_is = record {
      statements = statements_told;
      objections = objections_told;
      statement_each = length_up_to (length R.statements) (told (book R));
      of_statement_lem =
          λ x h. rw (get_or_up_to (length R.statements) (told (book R)) untold x h) (told_is (book R) x (placed x h));
      of_objections_lem = objections_are;
      is = refl;
    }

    pub reason_is : (x : ℕ) → x < length R.statements → IsReason R x (reason_of x)
    unfolding inside
    reason_is x h = record {
      statement = told (book R) x;
      objections = objections_told;
      of_statement_lem = told_is (book R) x (placed x h);
      of_objections_lem = objections_are;
      inside = inside x;
      exactly = λ k i. within_exactly (book R) x (placed x h) (get_or (objectors_of R) k 0) (get_or (targets_of R) k 0);
      is = refl;
    }

-- A sheet has the codes of the computed verdicts, and nothing else is on it.
module _ (R : Register) (sheet : List ℕ) where
  unfoldable pub coded : ℕ → Bool
  coded x = eqb (code_at sheet x) (account_number (told (book R) x))

  unfoldable pub packed : Bool
  packed =
      (eqb (length sheet) (bytes_for (book R).size) && all (length sheet) (λ k. ltb (get_or sheet k 0) 256))
      && (all (book R).size coded && all (4 * length sheet) (λ x. ltb x (book R).size || eqb (code_at sheet x) 0))

  pub packed_is : T packed → IsSheet (book R) sheet
  unfolding packed coded
  packed_is t =
      let (p, q) = both (eqb (length sheet) (bytes_for (book R).size) && all (length sheet) (λ k. ltb (get_or sheet k 0) 256))
      (all (book R).size coded && all (4 * length sheet) (λ x. ltb x (book R).size || eqb (code_at sheet x) 0)) t in
      let (size, bytes) = both (eqb (length sheet) (bytes_for (book R).size))
      (all (length sheet) (λ k. ltb (get_or sheet k 0) 256)) p in
      let (each, spare) = both (all (book R).size coded)
      (all (4 * length sheet) (λ x. ltb x (book R).size || eqb (code_at sheet x) 0)) q in
      record {
        bytes = λ k. byte bytes k (dec_lt k (length sheet));
        size = eqb→eq (length sheet) (bytes_for (book R).size) size;
        each = λ x h. (
          told (book R) x,
          (verdict (book R) x, verdict_means (book R) x h, refl),
          eqb→eq (code_at sheet x) (account_number (told (book R) x)) (all_at (book R).size coded each x h),
        );
        spare = λ x h. beyond spare x h (dec_lt x (4 * length sheet));
      }
    where
      byte : T (all (length sheet) (λ k. ltb (get_or sheet k 0) 256)) → (k : ℕ) → Dec (k < length sheet) → get_or sheet k 0 < 256
      byte t k (yes h) = ltb→lt (get_or sheet k 0) 256 (all_at (length sheet) (λ k. ltb (get_or sheet k 0) 256) t k h)
      byte t k (no h) = omega (arith, get_or-eq_default sheet 0 {n = k} (omega arith))

      beyond : T (all (4 * length sheet) (λ x. ltb x (book R).size || eqb (code_at sheet x) 0)) → (x : ℕ) → (book R).size ≤ x
          → Dec (x < 4 * length sheet) → code_at sheet x ≡ 0
      beyond t x h (yes l) =
          ⊎_elim (λ u. absurd (omega (arith, ltb→lt x (book R).size u))) (λ u. eqb→eq (code_at sheet x) 0 u)
          (or_cases (ltb x (book R).size) (eqb (code_at sheet x) 0)
          (all_at (4 * length sheet) (λ x. ltb x (book R).size || eqb (code_at sheet x) 0) t x l))
      beyond t x h (no l) = code_beyond sheet x (omega arith)
