-- A register within the limits has one listing, and that of a text that is accepted has at most 131,072 bytes.
use mathlib.Core.List.{List, map, [], ◌∷◌, ◌++◌}
use mathlib.Core.Option.{Option, none, some}
use mathlib.Core.Path.{ap₂, refl, sym, subst, ap, ◌≡◌, ◌∙◌}
use Prim.Native.Nat.{ℕ, suc, ◌+◌, ◌-◌, ◌*◌, ◌≤◌, ◌<◌}
use native.Mathlib.Omega.{arith}
use lib.ListN.{get_or, length, length-append}
use lib.Seq.{ext_get_or}
use Rattle.game.specs.Book.{Listed, book_of}
use Rattle.game.specs.Label.{is_open, Verdict, stands, falls, Means}
use Rattle.game.specs.Objection.{kind_of}
use Rattle.game.specs.Account.{Account, OfStatement, OfObjection, verdict_account, kind_account, untold}
use Rattle.game.specs.declared.Kind.{Kind}
use Rattle.game.proofs.Verdict.{Within, length_bound}
use Rattle.game.proofs.Account.{statement_once, statement_told, objection_once}
use Rattle.game.proofs.HandedBook.{entry_told}
use Rattle.game.proofs.UpTo.{chosen}
use Rattle.register.specs.Number.{number_bytes}
use Rattle.register.specs.Lines.{line_bytes, mark_byte}
use Rattle.register.specs.declared.StatementLine.{StatementLine}
use Rattle.register.specs.declared.ObjectionLine.{ObjectionLine}
use Rattle.register.specs.declared.Line.{Line}
use Rattle.register.specs.declared.Line.TheVariants.{Statement, Objection}
use Rattle.register.specs.Register.{Register, Valid, book, objectors_of, targets_of, bytes, marks_of}
use Rattle.register.proofs.Order.{marks_counted, objectors_counted, register_in_order}
use Rattle.listing.specs.Rows.{account_fields, statement_row, objection_row, header}
use Rattle.listing.specs.Listing.{IsListing, ObjectionsTold, listing, statement_rows, objection_rows}
use Rattle.register.proofs.Digits.{four_digits}
use Rattle.listing.proofs.Rows.{statement_length, objection_length, header_length}
use Rattle.register.specs.Reads.{Accepts}

-- What a register's listing is, is not up to the program.
pub objections_once : (R : Register) (told told' : List Account) → ObjectionsTold R told → ObjectionsTold R told' → told ≡ told'
objections_once R told told' a b =
    ext_get_or untold told told' (a.each ∙ sym b.each)
    (λ k h. objection_once (book R) (get_or (objectors_of R) k 0) (get_or (targets_of R) k 0) (get_or told k untold)
    (get_or told' k untold)
    (a.is k (omega (arith, a.each))) (b.is k (omega (arith, a.each))))

pub listing_once : (R : Register) (l l' : List ℕ) → IsListing R l → IsListing R l' → l ≡ l'
listing_once R l l' a b =
    a.is ∙ ap₂ (listing R) same (objections_once R a.objections b.objections a.of_objections_lem b.of_objections_lem)
    ∙ sym b.is
  where
    same : a.statements ≡ b.statements
    same =
        ext_get_or untold a.statements b.statements (a.statement_each ∙ sym b.statement_each)
        (λ x h. statement_once (book R) x (get_or a.statements x untold) (get_or b.statements x untold)
        (a.of_statement_lem x (omega (arith, a.statement_each))) (b.of_statement_lem x (omega (arith, a.statement_each))))

-- And it has one.
module _ (R : Register) (valid : Valid R) where
  pub objections_there : (told : List Account) × ObjectionsTold R told
  objections_there =
      let (told, e, each) = chosen untold (λ k. OfObjection (book R) (get_or (objectors_of R) k 0) (get_or (targets_of R) k 0))
      (length R.objections) (λ k h. entry_told (marks_of R) (objectors_of R) (targets_of R) (register_in_order R valid) k
      (omega (arith, objectors_counted R valid))) in
      (told, record { each = e; is = each })

  pub listing_there : (l : List ℕ) × IsListing R l
  unfolding book_of
  listing_there =
      let (statements, e, each) = chosen untold (OfStatement (book R)) (length R.statements)
      (λ x h. statement_told (book R) x (omega (arith, marks_counted R valid))) in
      let (objections, told) = objections_there in (
        listing R statements objections,
        record {
          statements = statements;
          objections = objections;
          statement_each = e;
          of_statement_lem = each;
          of_objections_lem = told;
          is = refl;
        },
      )

-- With a length up to 1,023, and one more than that, the fields are short.
verdict_short : (v : Verdict) → Within 1023 v → length (account_fields (verdict_account v)) ≤ 11
verdict_short is_open h = omega arith
verdict_short (stands n) h = omega (arith, four_digits n (omega arith))
verdict_short (falls n) h = omega (arith, four_digits n (omega arith))

shown : Option Kind → List ℕ
shown none = []
shown (some κ) = account_fields (kind_account κ)

kind_short : (v w : Verdict) → Within 1023 w → length (shown (kind_of v w)) ≤ 13
unfolding shown
kind_short (falls a) (stands m) h = omega (arith, four_digits (suc m) (omega arith))
kind_short (falls a) (falls m) h = omega arith
kind_short (falls a) is_open h = omega arith
kind_short (stands a) (stands m) h = omega arith
kind_short (stands a) (falls m) h = omega (arith, four_digits (suc m) (omega arith))
kind_short (stands a) is_open h = omega arith
kind_short is_open (stands m) h = omega arith
kind_short is_open (falls m) h = omega arith
kind_short is_open is_open h = omega arith

-- a row is a little longer than its line
statement_longer : (st : StatementLine) (a : Account) → length (account_fields a) ≤ 11
    → length (statement_row st.number a) ≤ length (line_bytes (Statement st)) + 8
statement_longer st a h =
    omega (
      arith,
      statement_length st.number a,
      length-append (number_bytes st.number) (9 ∷ mark_byte st.mark ∷ 10 ∷ []),
    )

objection_longer : (o : ObjectionLine) (a : Account) → length (account_fields a) ≤ 13
    → length (objection_row o.objector o.target a) ≤ length (line_bytes (Objection o)) + 12
objection_longer o a h =
    omega (
      arith,
      objection_length o.objector o.target a,
      length-append (number_bytes o.objector) (9 ∷ (number_bytes o.target ++ (10 ∷ []))),
      length-append (number_bytes o.target) (10 ∷ []),
    )

statements_short : (S : List StatementLine) (told : List Account)
    → ((i : ℕ) → i < length S → length (account_fields (get_or told i untold)) ≤ 11)
    → length (statement_rows S told) ≤ length (bytes (map Statement S)) + 8 * length S
unfolding statement_rows bytes
statements_short [] told h = omega arith
statements_short (st ∷ S) [] h = omega arith
statements_short (st ∷ S) (a ∷ told) h =
    omega (
      arith,
      length-append (statement_row st.number a) (statement_rows S told),
      length-append (line_bytes (Statement st)) (bytes (map Statement S)),
      statement_longer st a (h 0 (omega arith)),
      statements_short S told (λ i l. h (suc i) (omega arith)),
    )

objections_short : (O : List ObjectionLine) (told : List Account)
    → ((k : ℕ) → k < length O → length (account_fields (get_or told k untold)) ≤ 13)
    → length (objection_rows O told) ≤ length (bytes (map Objection O)) + 12 * length O
unfolding objection_rows bytes
objections_short [] told h = omega arith
objections_short (o ∷ O) [] h = omega arith
objections_short (o ∷ O) (a ∷ told) h =
    omega (
      arith,
      length-append (objection_row o.objector o.target a) (objection_rows O told),
      length-append (line_bytes (Objection o)) (bytes (map Objection O)),
      objection_longer o a (h 0 (omega arith)),
      objections_short O told (λ k l. h (suc k) (omega arith)),
    )

bytes_length : (ls ms : List Line) → length (bytes (ls ++ ms)) ≡ length (bytes ls) + length (bytes ms)
unfolding bytes
bytes_length [] ms = omega arith
bytes_length (l ∷ ls) ms =
    omega (arith, length-append (line_bytes l) (bytes (ls ++ ms)), length-append (line_bytes l) (bytes ls), bytes_length ls ms)

-- In a register that is accepted the fields of lengths are short.
module _ (s : List ℕ) (R : Register) (accepted : Accepts s R) where
  within : (x : ℕ) → Listed (book R) x → (v : Verdict) → Means (book R) x v → Within 1023 v
  unfolding book_of
  within x h v p = go v (length_bound (book R) x h v p)
    where
      go : (v : Verdict) → Within (length (marks_of R) - 1) v → Within 1023 v
      go is_open w = tt
      go (stands k) w = omega (arith, marks_counted R accepted.valid, accepted.valid.few_statements)
      go (falls k) w = omega (arith, marks_counted R accepted.valid, accepted.valid.few_statements)

  statement_told_short : (x : ℕ) (a : Account) → x < length R.statements → OfStatement (book R) x a
      → length (account_fields a) ≤ 11
  unfolding book_of
  statement_told_short x a h (v, m, e) =
      rw e (verdict_short v (within x (omega (arith, marks_counted R accepted.valid)) v m))

  objection_told_short : (y x : ℕ) (a : Account) → OfObjection (book R) y x a → length (account_fields a) ≤ 13
  unfolding shown
  objection_told_short y x a (κ, o, e) =
      rw e (subst (λ u. length (shown u) ≤ 13) o.is (kind_short o.target o.objector
      (within y o.objects.0 o.objector o.objector_means)))

  -- the rows of the objections are not much longer than their lines
  pub rows_bounded : (told : List Account) → ObjectionsTold R told
      → length (objection_rows R.objections told) ≤ length (bytes (map Objection R.objections)) + 12 * length R.objections
  rows_bounded told each =
      objections_short R.objections told
      (λ k h. objection_told_short (get_or (objectors_of R) k 0) (get_or (targets_of R) k 0) (get_or told k untold) (each.is k h))

  pub text_length : length s ≡ length (bytes (map Statement R.statements)) + length (bytes (map Objection R.objections))
  text_length = ap length accepted.is_written ∙ bytes_length (map Statement R.statements) (map Objection R.objections)

pub listing_short : (s : List ℕ) (R : Register) (l : List ℕ) → Accepts s R → IsListing R l → length l ≤ 131072
listing_short s R l a b =
    omega (
      arith,
      ap length b.is,
      length-append (header n m)
          (statement_rows R.statements b.statements ++ objection_rows R.objections b.objections),
      length-append (statement_rows R.statements b.statements) (objection_rows R.objections b.objections),
      header_length n m,
      four_digits n (omega arith),
      four_digits m (omega arith),
      statements_short R.statements b.statements
          (λ x h. statement_told_short s R a x (get_or b.statements x untold) h (b.of_statement_lem x h)),
      rows_bounded s R a b.objections b.of_objections_lem,
      text_length s R a,
      a.fits,
      a.valid.few_statements,
      a.valid.few_objections,
    )
  where
    n : ℕ
    n = length R.statements

    m : ℕ
    m = length R.objections
