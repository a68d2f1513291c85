-- What settling one line gives, case by case: a statement line is a second one, past the limit or new; an objection line is from
-- or against an unknown number, a repeat, past the limit or new.
use mathlib.Core.Bool.{Bool, true, false, ◌&&◌}
use mathlib.Core.List.{List, map, [], ◌∷◌, ◌++◌}
use mathlib.Core.Logic.{inl, inr, ◌⊎◌, ◌↔◌}
use mathlib.Core.Path.{subst, sym, refl, ◌≡◌}
use Prim.Native.Nat.{ℕ, ◌≤◌, ◌<◌}
use native.Mathlib.Decide.{dec_le}
use native.Mathlib.Omega.{arith}
use lib.Dec.{T, eqb, eqb→eq}
use lib.ListN.{length, get_or}
use borrow.Author.Tests.{eq-eqb, le-leb, lt-leb}
use Rattle.game.proofs.Search.{as_true, as_false, refute, any_at, any_of, and_of, both}
use Rattle.register.specs.declared.StatementLine.{StatementLine}
use Rattle.register.specs.declared.ObjectionLine.{ObjectionLine}
use Rattle.register.specs.Register.{Register, Issued, numbers, Has, objector_numbers, target_numbers, bare}
use Rattle.register.proofs.OneMore.{with_objection_lem}
use Rattle.register.proofs.Settled.{issued?, has?}
use Rattle.mend.specs.Fate.{kept, dropped, second_statement, statement_limit, unknown_number, repeat, objection_limit}
use Rattle.mend.specs.Mended.{issued, has, settle_statement, unread_if, settle_objection, unread}

-- a test that says whether something is so
module _ (P : Type 0) (b : Bool) (is : T b ↔ P) where
  so : P → b ≡ true
  so p = as_true b (is.1 p)

  not_so : (¬ P) → b ≡ false
  not_so n = as_false b (refute b (λ t. n (is.0 t)))

equal : (a b : ℕ) → a ≡ b → T (eqb a b)
equal a b e = subst T (sym (eq-eqb a b e)) tt

-- What is on the register.
module _ (R : Register) where
  issued_is : (n : ℕ) → T (issued R n) ↔ Issued R n
  issued_is n = (
    λ t. let (i, l, e) = any_at (length (numbers R)) test t in (i, l, eqb→eq (get_or (numbers R) i 0) n e),
    λ w. any_of (length (numbers R)) test w.0 w.1 (equal (get_or (numbers R) w.0 0) n w.2),
  )
    where
      test : ℕ → Bool
      test i = eqb (get_or (numbers R) i 0) n

  has_is : (o : ObjectionLine) → T (has R o) ↔ Has R o.objector o.target
  has_is o = (
    there,
    λ w. any_of (length R.objections) test w.0 w.1 (and_of (from w.0) (against w.0)
        (equal (get_or (objector_numbers R) w.0 0) o.objector w.2)
        (equal (get_or (target_numbers R) w.0 0) o.target w.3)),
  )
    where
      from : ℕ → Bool
      from k = eqb (get_or (objector_numbers R) k 0) o.objector

      against : ℕ → Bool
      against k = eqb (get_or (target_numbers R) k 0) o.target

      test : ℕ → Bool
      test k = from k && against k

      there : T (has R o) → Has R o.objector o.target
      there t =
          let (k, l, e) = any_at (length R.objections) test t in
          let (a, b) = both (from k) (against k) e in
          (k, l, eqb→eq (get_or (objector_numbers R) k 0) o.objector a, eqb→eq (get_or (target_numbers R) k 0) o.target b)

  pub is_issued : (n : ℕ) → Issued R n → issued R n ≡ true
  is_issued n = so (Issued R n) (issued R n) (issued_is n)

  pub is_unknown : (n : ℕ) → (¬ Issued R n) → issued R n ≡ false
  is_unknown n = not_so (Issued R n) (issued R n) (issued_is n)

  pub is_repeat : (o : ObjectionLine) → Has R o.objector o.target → has R o ≡ true
  is_repeat o = so (Has R o.objector o.target) (has R o) (has_is o)

  pub no_repeat : (o : ObjectionLine) → (¬ Has R o.objector o.target) → has R o ≡ false
  no_repeat o = not_so (Has R o.objector o.target) (has R o) (has_is o)

module _ (S : List StatementLine) (st : StatementLine) where
  pub settles_second : Issued (bare S) st.number
      → settle_statement S st ≡ (dropped second_statement, map (unread_if st.number) S)
  unfolding settle_statement
  settles_second i = rw (is_issued (bare S) st.number i) refl

  pub settles_beyond : (¬ Issued (bare S) st.number) → 1024 ≤ length S → settle_statement S st ≡ (dropped statement_limit, S)
  unfolding settle_statement
  settles_beyond n l = rw (is_unknown (bare S) st.number n, le-leb 1024 (length S) l) refl

  pub settles_new : (¬ Issued (bare S) st.number) → length S < 1024 → settle_statement S st ≡ (kept, S ++ (st ∷ []))
  unfolding settle_statement
  settles_new n l = rw (is_unknown (bare S) st.number n, lt-leb 1024 (length S) l) refl

pub data StatementCase (S : List StatementLine) (st : StatementLine) : Type 0 where
  second : Issued (bare S) st.number → settle_statement S st ≡ (dropped second_statement, map (unread_if st.number) S)
      → StatementCase S st
  beyond : (¬ Issued (bare S) st.number) → 1024 ≤ length S → settle_statement S st ≡ (dropped statement_limit, S)
      → StatementCase S st
  new : (¬ Issued (bare S) st.number) → length S < 1024 → settle_statement S st ≡ (kept, S ++ (st ∷ [])) → StatementCase S st

pub statement_case : (S : List StatementLine) (st : StatementLine) → StatementCase S st
statement_case S st = go (issued? (bare S) st.number) (dec_le 1024 (length S))
  where
    go : Issued (bare S) st.number ⊎ (¬ Issued (bare S) st.number) → Dec (1024 ≤ length S) → StatementCase S st
    go (inl i) d = second i (settles_second S st i)
    go (inr n) (yes l) = beyond n l (settles_beyond S st n l)
    go (inr n) (no l) = new n (omega arith) (settles_new S st n (omega arith))

module _ (R : Register) (o : ObjectionLine) where
  abbrev Known : Type 0
  Known = Issued R o.objector × Issued R o.target

  pub settles_unknown : (¬ Known) → settle_objection R o ≡ (dropped unknown_number, unread o.target R)
  unfolding settle_objection
  settles_unknown n = go (issued? R o.objector) (issued? R o.target)
    where
      go : Issued R o.objector ⊎ (¬ Issued R o.objector) → Issued R o.target ⊎ (¬ Issued R o.target)
          → settle_objection R o ≡ (dropped unknown_number, unread o.target R)
      go (inl y) (inl x) = absurd (n (y, x))
      go (inl y) (inr x) = rw (is_issued R o.objector y, is_unknown R o.target x) refl
      go (inr y) q = rw (is_unknown R o.objector y) refl

  pub settles_repeat : Known → Has R o.objector o.target → settle_objection R o ≡ (dropped repeat, R)
  unfolding settle_objection
  settles_repeat (y, x) h = rw (is_issued R o.objector y, is_issued R o.target x, is_repeat R o h) refl

  pub settles_past : Known → (¬ Has R o.objector o.target) → 4096 ≤ length R.objections
      → settle_objection R o ≡ (dropped objection_limit, unread o.target R)
  unfolding settle_objection
  settles_past (y, x) h l =
      rw (is_issued R o.objector y, is_issued R o.target x, no_repeat R o h, le-leb 4096 (length R.objections) l) refl

  pub settles_kept : Known → (¬ Has R o.objector o.target) → length R.objections < 4096
      → settle_objection R o ≡ (kept, with_objection_lem R o)
  unfolding settle_objection
  settles_kept (y, x) h l =
      rw (is_issued R o.objector y, is_issued R o.target x, no_repeat R o h, lt-leb 4096 (length R.objections) l) refl

pub data ObjectionCase (R : Register) (o : ObjectionLine) : Type 0 where
  unknown : (¬ (Issued R o.objector × Issued R o.target))
      → settle_objection R o ≡ (dropped unknown_number, unread o.target R) → ObjectionCase R o
  again : Issued R o.objector × Issued R o.target → Has R o.objector o.target
      → settle_objection R o ≡ (dropped repeat, R) → ObjectionCase R o
  past : Issued R o.objector × Issued R o.target → (¬ Has R o.objector o.target) → 4096 ≤ length R.objections
      → settle_objection R o ≡ (dropped objection_limit, unread o.target R) → ObjectionCase R o
  entered : Issued R o.objector × Issued R o.target → (¬ Has R o.objector o.target) → length R.objections < 4096
      → settle_objection R o ≡ (kept, with_objection_lem R o) → ObjectionCase R o

pub objection_case : (R : Register) (o : ObjectionLine) → ObjectionCase R o
objection_case R o =
    go (issued? R o.objector) (issued? R o.target) (has? R o.objector o.target) (dec_le 4096 (length R.objections))
  where
    go : Issued R o.objector ⊎ (¬ Issued R o.objector) → Issued R o.target ⊎ (¬ Issued R o.target)
        → Has R o.objector o.target ⊎ (¬ Has R o.objector o.target) → Dec (4096 ≤ length R.objections)
        → ObjectionCase R o
    go (inr y) x h d = unknown (λ k. y k.0) (settles_unknown R o (λ k. y k.0))
    go (inl y) (inr x) h d = unknown (λ k. x k.1) (settles_unknown R o (λ k. x k.1))
    go (inl y) (inl x) (inl h) d = again (y, x) h (settles_repeat R o (y, x) h)
    go (inl y) (inl x) (inr h) (yes l) = past (y, x) h l (settles_past R o (y, x) h l)
    go (inl y) (inl x) (inr h) (no l) = entered (y, x) h (omega arith) (settles_kept R o (y, x) h (omega arith))
