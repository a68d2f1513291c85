-- The limits hold: the register of many statements and objections is in order, by arithmetic, and its text is as it was typed by
-- rule. What is beyond a limit is refused there.
use mathlib.Core.List.{List, map, append-nil, [], ◌∷◌, ◌++◌}
use mathlib.Core.Logic.{inl, inr}
use mathlib.Core.Path.{refl, ap, ap₂, sym, subst, ◌≡◌, ◌∙◌}
use Prim.Native.Nat.{ℕ, zero, suc, ◌+◌, ◌-◌, ◌*◌, ◌/◌, ◌%◌, ◌≤◌, ◌<◌}
use native.Mathlib.Omega.{arith}
use lib.Dec.{lit≤}
use lib.ListN.{length, get_or, replicate, length-replicate, get_or-replicate, length-map, length-append, get_or-map}
use Rattle.game.proofs.UpTo.{up_to, length_up_to, get_or_up_to}
use Rattle.register.specs.Texts.{decimal, decimal_in, rows_to}
use Rattle.register.specs.Number.{number_bytes}
use Rattle.register.specs.Lines.{line_bytes, mark_byte, WellFormed, BeginsWith}
use Rattle.register.specs.Register.{Register, Valid, Issued as OnRegister, numbers, objector_numbers, target_numbers, lines}
use Rattle.register.specs.Register.{bytes}
use Rattle.register.specs.Register.{written, bare}
use Rattle.register.specs.Reads.{Accepts, Refuses, FaultAt, NotEnded}
use Rattle.register.specs.declared.Mark.TheVariants.{Read}
use Rattle.register.specs.declared.StatementLine.{StatementLine}
use Rattle.register.specs.declared.ObjectionLine.{ObjectionLine}
use Rattle.register.specs.declared.Line.{Line}
use Rattle.register.specs.declared.Line.TheVariants.{Statement, Objection}
use Rattle.register.specs.declared.TextFault.TheVariants.{TooLong, Spoiled, Statements, Objections}
use Rattle.register.proofs.Number.{number_small, number_short, plain_number, plain_bytes}
use Rattle.register.proofs.Digits.{few_digits}
use Rattle.register.proofs.TextRows.{row_first, rows_within}
use Rattle.register.proofs.OneMore.{bytes_append, empty_valid}
use Rattle.register.proofs.Unique.{lines_ended}
use Rattle.answer.specs.declared.Refusal.TheVariants.{Text}
use Rattle.std.specs.Prelude.{Err}
use Rattle.listing.specs.Rows.{numbers_row}
use Rattle.examples.specs.Table.{ascii}
use Rattle.examples.specs.Limits.{Limits, statement_at, objection_at, text_of}

-- rows of lines are the bytes of the lines
pub rows_bytes : (n : ℕ) (line : ℕ → Line) → rows_to n (λ i. line_bytes (line i)) ≡ bytes (up_to n line)
unfolding rows_to bytes
rows_bytes zero line = refl
rows_bytes (suc n) line =
    row_first (λ i. line_bytes (line i)) n ∙ ap (λ u. line_bytes (line 0) ++ u) (rows_bytes n (λ i. line (suc i)))

pub map_up_to : {A B : Type 0} (f : A → B) (n : ℕ) (g : ℕ → A) → map f (up_to n g) ≡ up_to n (λ i. f (g i))
map_up_to f zero g = refl
map_up_to f (suc n) g = ap (λ l. f (g 0) ∷ l) (map_up_to f n (λ i. g (suc i)))

-- The register of n statements and m objections, where the objectors and targets are among them.
module _ (n m : ℕ) where
  unfoldable pub R : Register
  R = record { statements = up_to n statement_at; objections = up_to m objection_at }

  pub text_written : text_of n m ≡ written R
  unfolding R
  text_written =
      ap₂ (λ u v. u ++ v) (rows_bytes n (λ i. Statement (statement_at i)) ∙ ap bytes (sym (map_up_to Statement n statement_at)))
      (rows_bytes m (λ i. Objection (objection_at i)) ∙ ap bytes (sym (map_up_to Objection m objection_at)))
      ∙ sym (bytes_append (map Statement (up_to n statement_at)) (map Objection (up_to m objection_at)))

  pub count_statements : length R.statements ≡ n
  unfolding R
  count_statements = length_up_to n statement_at

  pub count_objections : length R.objections ≡ m
  unfolding R
  count_objections = length_up_to m objection_at

  pub number_at : (i : ℕ) → i < n → get_or (numbers R) i 0 ≡ suc i
  unfolding R
  number_at i h =
      get_or-map (λ (st : StatementLine). st.number) (up_to n statement_at) i (record { number = 0; mark = Read })
      ∙ ap (λ (st : StatementLine). st.number) (get_or_up_to n statement_at (record { number = 0; mark = Read }) i h)

  nobody : ObjectionLine
  nobody = record { objector = 0; target = 0 }

  pub objector_at : (i : ℕ) → i < m → get_or (objector_numbers R) i 0 ≡ suc (i / 65)
  unfolding R nobody
  objector_at i h =
      get_or-map (λ (o : ObjectionLine). o.objector) (up_to m objection_at) i nobody
      ∙ ap (λ (o : ObjectionLine). o.objector) (get_or_up_to m objection_at nobody i h)

  pub target_at : (i : ℕ) → i < m → get_or (target_numbers R) i 0 ≡ suc (i % 65)
  unfolding R nobody
  target_at i h =
      get_or-map (λ (o : ObjectionLine). o.target) (up_to m objection_at) i nobody
      ∙ ap (λ (o : ObjectionLine). o.target) (get_or_up_to m objection_at nobody i h)

  pub count_numbers : length (numbers R) ≡ n
  count_numbers = length-map R.statements (λ (st : StatementLine). st.number) ∙ count_statements

  pub on_register_lem : (i : ℕ) → i < n → OnRegister R (suc i)
  on_register_lem i h = (i, omega (arith, h, count_numbers), number_at i h)

  module _ (few : n ≤ 1024) (few-more : m ≤ 4096) (among : (i : ℕ) → i < m → (i / 65 < n) × (i % 65 < n)) where
    pub register_valid : Valid R
    register_valid = record {
      few_statements = omega (arith, count_statements);
      few_objections = omega (arith, count_objections);
      numbered =
          λ i h. let e : get_or (numbers R) i 0 ≡ suc i = number_at i (omega (arith, h, count_numbers)) in
          plain_number (get_or (numbers R) i 0) (omega (arith, e)) (omega (arith, e, h, count_numbers));
      once =
          λ i j h l e. let p : get_or (numbers R) i 0 ≡ suc i = number_at i (omega (arith, h, l, count_numbers)) in
          let q : get_or (numbers R) j 0 ≡ suc j = number_at j (omega (arith, l, count_numbers)) in
          omega (arith, e, p, q, h);
      known =
          λ k h. let l : k < m = omega (arith, h, count_objections) in (
            subst (OnRegister R) (sym (objector_at k l)) (on_register_lem (k / 65) (among k l).0),
            subst (OnRegister R) (sym (target_at k l)) (on_register_lem (k % 65) (among k l).1),
          );
      distinct =
          λ j k h l e f. let q : k < m = omega (arith, l, count_objections) in
          let p : j < m = omega (arith, h, q) in
          let y : suc (j / 65) ≡ suc (k / 65) = sym (objector_at j p) ∙ e ∙ objector_at k q in
          let x : suc (j % 65) ≡ suc (k % 65) = sym (target_at j p) ∙ f ∙ target_at k q in
          omega (arith, y, x, h);
    }

    -- how long the text is
    statement_short : (i : ℕ) → length (line_bytes (Statement (statement_at i))) ≤ 20
    statement_short i = omega (arith, length-append (number_bytes (suc i)) (9 ∷ 82 ∷ 10 ∷ []), number_small (suc i))

    objection_short : (i : ℕ) → i < m → length (line_bytes (Objection (objection_at i))) ≤ 8
    objection_short i h =
        let y : suc (i / 65) < 100 = omega (arith, h, few-more) in
        let x : suc (i % 65) < 100 = omega arith in
        omega (
          arith,
          length-append (number_bytes (suc (i / 65))) (9 ∷ (number_bytes (suc (i % 65)) ++ (10 ∷ []))),
          length-append (number_bytes (suc (i % 65))) (10 ∷ []),
          ap length (plain_bytes (suc (i / 65)) (omega arith) (omega arith)),
          ap length (plain_bytes (suc (i % 65)) (omega arith) (omega arith)),
          few_digits 1 (suc (i / 65)) (omega arith) y,
          few_digits 1 (suc (i % 65)) (omega arith) x,
        )

    text_short : length (text_of n m) ≤ 20 * n + 8 * m
    text_short =
        omega (
          arith,
          length-append (rows_to n (λ i. line_bytes (Statement (statement_at i))))
              (rows_to m (λ i. line_bytes (Objection (objection_at i)))),
          rows_within (λ i. line_bytes (Statement (statement_at i))) 20 n (λ i h. statement_short i),
          rows_within (λ i. line_bytes (Objection (objection_at i))) 8 m objection_short,
        )

    text_accepted_lem : Accepts (text_of n m) R
    text_accepted_lem = record {
      fits = omega (arith, text_short, few, few-more);
      valid = register_valid;
      is_written =
          text_written;
    }

    -- there is space for one line more
    pub more_fits : (l : Line) → length (line_bytes l) ≤ 32 → length (text_of n m ++ line_bytes l) ≤ 65535
    more_fits l short = omega (arith, length-append (text_of n m) (line_bytes l), text_short, few, few-more, short)

    -- one line more is reached, and is the next
    module _ (l : Line) (short : length (line_bytes l) ≤ 32) (Fault : Register → List ℕ → Type 0)
        (fault : Fault R (line_bytes l)) where
      reached : FaultAt (text_of n m ++ line_bytes l) (suc (n + m)) Fault
      unfolding bytes
      reached = record {
        fits = more_fits l short;
        ended = λ e. lines_ended (lines R ++ (l ∷ [])) (subst NotEnded whole e);
        before = R;
        rest = line_bytes l;
        valid = register_valid;
        is_written = ap (λ u. u ++ line_bytes l) text_written;
        line = omega (arith, count_statements, count_objections);
        fault = fault;
      }
        where
          whole : text_of n m ++ line_bytes l ≡ bytes (lines R ++ (l ∷ []))
          whole =
              ap₂ (λ u v. u ++ v) text_written (sym (append-nil (line_bytes l))) ∙ sym (bytes_append (lines R) (l ∷ []))

pub line_short : (l : Line) → WellFormed l → length (line_bytes l) ≤ 32
line_short (Statement st) w =
    omega (arith, length-append (number_bytes st.number) (9 ∷ mark_byte st.mark ∷ 10 ∷ []), number_short st.number w)
line_short (Objection o) w =
    omega (
      arith,
      length-append (number_bytes o.objector) (9 ∷ (number_bytes o.target ++ (10 ∷ []))),
      length-append (number_bytes o.target) (10 ∷ []),
      number_short o.objector w.0,
      number_short o.target w.1,
    )

next : (l : Line) → WellFormed l → BeginsWith l (line_bytes l)
next l w = (w, ([], sym (append-nil (line_bytes l))))

-- a text of line ends alone
module _ (n : ℕ) (fits : suc n ≤ 65535) where
  abbrev ends : List ℕ
  ends = replicate (suc n) 10

  no_line : (l : Line) → ¬ BeginsWith l ends
  no_line (Statement st) (w, (r, e)) = let z : ◌≡◌ {A = ℕ} 10 83 = cc in omega arith
  no_line (Objection o) (w, (r, e)) = let z : ◌≡◌ {A = ℕ} 10 79 = cc in omega arith

  blank : Refuses ends (Spoiled 1)
  unfolding bytes
  blank = record {
    fits = omega (arith, length-replicate {A = ℕ} (suc n) 10);
    ended = λ (h, e). e (ended h);
    before = bare [];
    rest = ends;
    valid = empty_valid;
    is_written = refl;
    line = refl;
    fault = (omega (arith, length-replicate {A = ℕ} (suc n) 10), no_line);
  }
    where
      ended : 0 < length ends → get_or ends (length ends - 1) 0 ≡ 10
      ended h = get_or-replicate (suc n) (length ends - 1) 10 0 (omega (arith, length-replicate {A = ℕ} (suc n) 10))

none : (i : ℕ) → i < 0 → (i / 65 < 1024) × (i % 65 < 1024)
none i h = absurd (omega arith)

pub among : (i : ℕ) → i < 4096 → (i / 65 < 65) × (i % 65 < 65)
among i h = (omega arith, omega arith)

pub limits_hold : Limits
unfolding ascii numbers_row decimal decimal_in bytes
limits_hold = record {
  long = λ s h. inr (TooLong, h, refl);
  long_answered = λ s room h. (Err (Text TooLong), (inl (TooLong, h, refl), refl), refl);
  long_mended = λ s h. (h, refl);
  long_mend_answered = λ s lent h. (Err (Text TooLong), (inl (h, refl), refl), refl);
  not_long = inr (Spoiled 1, blank 65534 (lit≤ tt), refl);
  statements = (R 1024 0, text_accepted_lem 1024 0 (lit≤ tt) (lit≤ tt) none);
  statement_more = λ st w. inr (
    Statements 1025,
    reached 1024 0 (lit≤ tt) (lit≤ tt) none (Statement st)
        (line_short (Statement st) w) _ (
          st,
          next (Statement st) w,
          (count_objections 1024 0, omega (arith, count_statements 1024 0)),
        ),
    refl,
  );
  objections = (R 65 4096, text_accepted_lem 65 4096 (lit≤ tt) (lit≤ tt) among);
  objection_more = λ o w. inr (
    Objections 4162,
    reached 65 4096 (lit≤ tt) (lit≤ tt) among (Objection o)
        (line_short (Objection o) w) _ (o, next (Objection o) w, omega (arith, count_objections 65 4096)),
    refl,
  );
}
