-- Laws of number fields: bytes put together from fields have the numbers of these fields and no others. What a row of a listing
-- or a line of a register text has for fields is said here too; what is written by which call is left to `IssuedNumbers`.
use mathlib.Core.Bool.{Bool, true, false, ◌&&◌}
use mathlib.Core.List.{List, map, append_assoc, append-nil, [], ◌∷◌, ◌++◌}
use mathlib.Core.Logic.{inl, inr, ◌⊎◌}
use mathlib.Core.Option.{Option, none, some}
use mathlib.Core.Path.{ap, refl, subst, sym, ◌≡◌, ◌∙◌}
use Prim.Native.Nat.{ℕ, zero, suc, ◌≤◌, ◌<◌}
use native.Mathlib.Nat.{not-suc-le-zero}
use native.Mathlib.Decide.{dec_lt}
use native.Mathlib.Omega.{arith}
use lib.Dec.{T, ltb, ltb→lt}
use lib.ListN.{length, length-append, get_or}
use Rattle.game.specs.Account.{Account, verdict_account, kind_account}
use Rattle.game.specs.Label.{Verdict, is_open, stands, falls}
use Rattle.game.specs.declared.Kind.{Kind}
use Rattle.game.specs.declared.Kind.TheVariants.{Idle, Felling, Delaying, Standoff}
use Rattle.game.proofs.Search.{both}
use Rattle.register.specs.Texts.{rows_to}
use Rattle.register.specs.Number.{IsNumber, number_bytes}
use Rattle.register.specs.Lines.{line_bytes, mark_byte}
use Rattle.register.specs.Register.{bytes}
use Rattle.register.specs.declared.Mark.{Mark}
use Rattle.register.specs.declared.Mark.TheVariants.{Read, Unread}
use Rattle.register.specs.declared.StatementLine.{StatementLine}
use Rattle.register.specs.declared.ObjectionLine.{ObjectionLine}
use Rattle.register.specs.declared.Line.{Line}
use Rattle.register.specs.declared.Line.TheVariants.{Statement, Objection}
use Rattle.register.proofs.Number.{Unbroken, split_once, number_unbroken, number_injective, decimal_unbroken}
use Rattle.register.proofs.Number.{DigitFirst, number_leads}
use Rattle.listing.specs.Rows.{statement_row, objection_row, length_field, account_fields}
use Rattle.promises.specs.IssuedNumbers.{EndsField, WholeFields, Field}

low : (b : ℕ) → EndsField b → b ≤ 10
low b (inl e) = omega arith
low b (inr e) = omega arith

-- What has a number for a field. A number in front is one, and whole fields may stand before it.
pub number_first : (n end : ℕ) (rest : List ℕ) → IsNumber n → Field (number_bytes n ++ (end ∷ rest)) n end
number_first n end rest h = record { before = []; behind = rest; begins = inl refl; number = h; is = refl }

pub whole_append : (l k : List ℕ) → WholeFields l → WholeFields k → WholeFields (l ++ k)
whole_append l k p (inl e) = subst WholeFields (sym (ap (λ u. l ++ u) e ∙ append-nil l)) p
whole_append l k p (inr (w, b, h, e)) = inr (l ++ w, b, h, ap (λ u. l ++ u) e ∙ sym (append_assoc l w (b ∷ [])))

pub field_behind : (l rest : List ℕ) (n end : ℕ) → WholeFields l → Field rest n end → Field (l ++ rest) n end
field_behind l rest n end p f = record {
  before = l ++ f.before;
  behind = f.behind;
  begins = whole_append l f.before p f.begins;
  number = f.number;
  is = ap (λ u. l ++ u) f.is ∙ sym (append_assoc l f.before (number_bytes n ++ (end ∷ f.behind)));
}

pub whole_rows : (n : ℕ) (row : ℕ → List ℕ) → ((k : ℕ) → k < n → WholeFields (row k)) → WholeFields (rows_to n row)
unfolding rows_to
whole_rows zero row p = inl refl
whole_rows (suc n) row p =
    whole_append (rows_to n row) (row n) (whole_rows n row (λ k h. p k (omega arith))) (p n (omega arith))

pub row_has : (n : ℕ) (row : ℕ → List ℕ) → ((k : ℕ) → k < n → WholeFields (row k)) → (x m end : ℕ) → x < n
    → ((rest : List ℕ) → Field (row x ++ rest) m end) → (rest : List ℕ) → Field (rows_to n row ++ rest) m end
unfolding rows_to
row_has zero row p x m end h f rest = absurd (not-suc-le-zero h)
row_has (suc n) row p x m end h f rest =
    go (dec_lt x n) (λ l. row_has n row (λ k h. p k (omega arith)) x m end l f (row n ++ rest))
  where
    go : Dec (x < n) → (x < n → Field (rows_to n row ++ (row n ++ rest)) m end) → Field ((rows_to n row ++ row n) ++ rest) m end
    go (yes l) ih = rw (append_assoc (rows_to n row) (row n) rest) (ih l)
    go (no l) ih =
        let e : x ≡ n = omega arith in
        rw (append_assoc (rows_to n row) (row n) rest) (field_behind (rows_to n row) (row n ++ rest) m end
        (whole_rows n row (λ k h. p k (omega arith))) (subst (λ k. Field (row k ++ rest) m end) e (f rest)))

-- The other way round: a field of bytes that begin with one is that one, or a field of what follows.
later : (f w rest more : List ℕ) (b c : ℕ) → Unbroken f → c ≤ 10 → f ++ (b ∷ rest) ≡ w ++ (c ∷ more)
    → (rest ≡ more) ⊎ ((v : List ℕ) × (rest ≡ v ++ (c ∷ more)))
later [] [] rest more b c u h e = inl cc
later [] (y ∷ w) rest more b c u h e = inr (w, cc)
later (x ∷ f) [] rest more b c (l, u) h e = let q : x ≡ c = cc in absurd (omega arith)
later (x ∷ f) (y ∷ w) rest more b c (l, u) h e = later f w rest more b c u h cc

cut : (f rest : List ℕ) (b n end : ℕ) → Unbroken f → EndsField b → EndsField end → Field (f ++ (b ∷ rest)) n end
    → ((f ≡ number_bytes n) × (b ≡ end)) ⊎ Field rest n end
cut f rest b n end u h k p = go p.begins
  where
    go : WholeFields p.before → ((f ≡ number_bytes n) × (b ≡ end)) ⊎ Field rest n end
    go (inl e) =
        let q : f ++ (b ∷ rest) ≡ number_bytes n ++ (end ∷ p.behind) = p.is
        ∙ ap (λ v. v ++ (number_bytes n ++ (end ∷ p.behind))) e in
        let (i, j, g) = split_once f (number_bytes n) b end rest p.behind u (number_unbroken n p.number) (low b h)
        (low end k) q in
        inl (i, j)
    go (inr (w, c, l, e)) =
        at (later f w rest (number_bytes n ++ (end ∷ p.behind)) b c u (low c l) (p.is
        ∙ ap (λ v. v ++ (number_bytes n ++ (end ∷ p.behind))) e
        ∙ append_assoc w (c ∷ []) (number_bytes n ++ (end ∷ p.behind))))
      where
        at : (rest ≡ number_bytes n ++ (end ∷ p.behind))
            ⊎ ((v : List ℕ) × (rest ≡ v ++ (c ∷ (number_bytes n ++ (end ∷ p.behind)))))
            → ((f ≡ number_bytes n) × (b ≡ end)) ⊎ Field rest n end
        at (inl q) = inr record { before = []; behind = p.behind; begins = inl refl; number = p.number; is = q }
        at (inr (v, q)) =
            inr record {
              before = v ++ (c ∷ []);
              behind = p.behind;
              begins = inr (v, c, l, refl);
              number = p.number;
              is = q ∙ sym (append_assoc v (c ∷ []) (number_bytes n ++ (end ∷ p.behind)));
            }

-- Words, by a test: every byte is above 10, and the first is a letter's, so that no number is written so.
above : List ℕ → Bool
above [] = true
above (b ∷ bs) = ltb 10 b && above bs

above_unbroken : (l : List ℕ) → T (above l) → Unbroken l
unfolding above
above_unbroken [] t = tt
above_unbroken (b ∷ bs) t = let (p, q) = both (ltb 10 b) (above bs) t in (ltb→lt 10 b p, above_unbroken bs q)

pub lettered : List ℕ → Bool
lettered [] = false
lettered (b ∷ bs) = ltb 57 b && above bs

lettered_unbroken : (w : List ℕ) → T (lettered w) → Unbroken w
unfolding lettered
lettered_unbroken [] t = absurd t
lettered_unbroken (b ∷ bs) t =
    let (p, q) = both (ltb 57 b) (above bs) t in (omega (arith, ltb→lt 57 b p), above_unbroken bs q)

no_number : (w : List ℕ) → T (lettered w) → (n : ℕ) → IsNumber n → w ≡ number_bytes n → ⊥
unfolding lettered
no_number [] t n h e = t
no_number (b ∷ bs) t n h e =
    let (p, q) = both (ltb 57 b) (above bs) t in
    let d : DigitFirst (b ∷ bs) = subst DigitFirst (sym e) (number_leads n h) in
    omega (arith, d.1, ltb→lt 57 b p)

pub verdict_word : (v : Verdict) → T (lettered (verdict_account v).word)
unfolding lettered above
verdict_word is_open = tt
verdict_word (stands n) = tt
verdict_word (falls n) = tt

pub kind_word : (κ : Kind) → T (lettered (kind_account κ).word)
unfolding lettered above
kind_word Idle = tt
kind_word (Felling n) = tt
kind_word (Delaying n) = tt
kind_word Standoff = tt

pub statement_word : T (lettered (83 ∷ []))
unfolding lettered above
statement_word = tt

pub mark_word : (m : Mark) → T (lettered (mark_byte m ∷ []))
unfolding lettered above
mark_word Read = tt
mark_word Unread = tt

-- a length, or `-`
length_unbroken : (turns : Option ℕ) → Unbroken (length_field turns)
length_unbroken none = (omega arith, tt)
length_unbroken (some n) = decimal_unbroken n

-- Rows and lines as their fields, with what follows them.
pub statement_fields : (n : ℕ) (a : Account) (rest : List ℕ)
    → number_bytes n ++ (9 ∷ (a.word ++ (9 ∷ (length_field a.turns ++ (10 ∷ rest))))) ≡ statement_row n a ++ rest
unfolding statement_row
statement_fields n a rest = simp append_assoc

pub objection_fields : (y x : ℕ) (a : Account) (rest : List ℕ)
    → number_bytes y ++ (9 ∷ (number_bytes x ++ (9 ∷ (a.word ++ (9 ∷ (length_field a.turns ++ (10 ∷ rest))))))) ≡ objection_row y
    x a
    ++ rest
unfolding objection_row
objection_fields y x a rest = simp append_assoc

statement_line : (st : StatementLine) (rest : List ℕ)
    → 83 ∷ (9 ∷ (number_bytes st.number ++ (9 ∷ (mark_byte st.mark ∷ (10 ∷ rest))))) ≡ line_bytes (Statement st) ++ rest
statement_line st rest = simp append_assoc

objection_line : (o : ObjectionLine) (rest : List ℕ)
    → 79 ∷ (9 ∷ (number_bytes o.objector ++ (9 ∷ (number_bytes o.target ++ (10 ∷ rest))))) ≡ line_bytes (Objection o) ++ rest
objection_line o rest = simp append_assoc

pub statement_whole : (n : ℕ) (a : Account) → WholeFields (statement_row n a)
unfolding statement_row
statement_whole n a = inr (number_bytes n ++ (9 ∷ account_fields a), 10, inr refl, simp append_assoc)

-- Which numbers stand in bytes, among the fields with certain ends: only such as P has.
module _ (P : ℕ → Type 0) (ends : ℕ → Type 0) (low-ends : (e : ℕ) → ends e → EndsField e) where
  pub Only : List ℕ → Type 0
  Only l = (m end : ℕ) → ends end → Field l m end → P m

  pub only_of : (l : List ℕ) → Only l → (m end : ℕ) → ends end → Field l m end → P m
  unfolding Only
  only_of l o = o

  pub only_none : Only []
  unfolding Only
  only_none m end h f =
      absurd (omega (
        arith,
        ap length f.is,
        length-append f.before (number_bytes m ++ (end ∷ f.behind)),
        length-append (number_bytes m) (end ∷ f.behind),
      ))

  pub only_number : (n b : ℕ) (rest : List ℕ) → IsNumber n → P n → EndsField b → Only rest → Only (number_bytes n ++ (b ∷ rest))
  unfolding Only
  only_number n b rest h p k o m end e f =
      go (cut (number_bytes n) rest b m end (number_unbroken n h) k (low-ends end e) f)
    where
      go : ((number_bytes n ≡ number_bytes m) × (b ≡ end)) ⊎ Field rest m end → P m
      go (inl (q, i)) = subst P (number_injective n m h f.number q) p
      go (inr g) = o m end e g

  pub only_word : (w rest : List ℕ) (b : ℕ) → T (lettered w) → EndsField b → Only rest → Only (w ++ (b ∷ rest))
  unfolding Only
  only_word w rest b l k o m end e f = go (cut w rest b m end (lettered_unbroken w l) k (low-ends end e) f)
    where
      go : ((w ≡ number_bytes m) × (b ≡ end)) ⊎ Field rest m end → P m
      go (inl (q, i)) = absurd (no_number w l m f.number q)
      go (inr g) = o m end e g

  -- a field whose end is none of those
  only_last : (w rest : List ℕ) (b : ℕ) → Unbroken w → EndsField b → ¬ ends b → Only rest → Only (w ++ (b ∷ rest))
  unfolding Only
  only_last w rest b u k n o m end e f = go (cut w rest b m end u k (low-ends end e) f)
    where
      go : ((w ≡ number_bytes m) × (b ≡ end)) ⊎ Field rest m end → P m
      go (inl (q, i)) = absurd (n (subst ends (sym i) e))
      go (inr g) = o m end e g

  pub only_rows : (n : ℕ) (row : ℕ → List ℕ) → ((k : ℕ) → k < n → (rest : List ℕ) → Only rest → Only (row k ++ rest))
      → (rest : List ℕ) → Only rest → Only (rows_to n row ++ rest)
  unfolding rows_to
  only_rows zero row p rest o = o
  only_rows (suc n) row p rest o =
      rw (append_assoc (rows_to n row) (row n) rest) (only_rows n row (λ k h. p k (omega arith)) (row n ++ rest)
      (p n (omega arith) rest o))

  -- the rows of a listing, whose last field is no number of a statement
  module _ (no_lengths : ¬ ends 10) where
    pub only_statement : (n : ℕ) (a : Account) → T (lettered a.word) → IsNumber n → P n → (rest : List ℕ) → Only rest
        → Only (statement_row n a ++ rest)
    only_statement n a l h p rest o =
        subst Only (statement_fields n a rest) (only_number n 9 (a.word ++ (9 ∷ (length_field a.turns ++ (10 ∷ rest)))) h p
        (inl refl) (only_word a.word (length_field a.turns ++ (10 ∷ rest)) 9 l (inl refl)
        (only_last (length_field a.turns) rest 10 (length_unbroken a.turns) (inr refl) no_lengths o)))

    pub only_objection : (y x : ℕ) (a : Account) → T (lettered a.word) → IsNumber y → P y → IsNumber x → P x → (rest : List ℕ)
        → Only rest → Only (objection_row y x a ++ rest)
    only_objection y x a l h p k q rest o =
        subst Only (objection_fields y x a rest) (only_number y 9 (number_bytes x ++ (9 ∷ (a.word ++ (9 ∷
        (length_field a.turns ++ (10 ∷ rest)))))) h p (inl refl) (only_number x 9 (a.word ++ (9 ∷ (length_field a.turns ++
        (10 ∷ rest)))) k q (inl refl) (only_word a.word (length_field a.turns ++ (10 ∷ rest)) 9 l (inl refl)
        (only_last (length_field a.turns) rest 10 (length_unbroken a.turns) (inr refl) no_lengths o))))

  -- the lines of a register text
  pub only_statement_lines : (S : List StatementLine) → ((i : ℕ) → i < length (map (λ (st : StatementLine). st.number) S)
      → IsNumber (get_or (map (λ (st : StatementLine). st.number) S) i 0)
      × P (get_or (map (λ (st : StatementLine). st.number) S) i 0)) → (more : List Line) → Only (bytes more)
      → Only (bytes (map Statement S ++ more))
  unfolding bytes lettered above
  only_statement_lines [] p more o = o
  only_statement_lines (st ∷ S) p more o =
      let rest = bytes (map Statement S ++ more) in
      subst Only (statement_line st rest) (only_word (83 ∷ []) (number_bytes st.number ++ (9 ∷ (mark_byte st.mark ∷ (10 ∷
      rest)))) 9 tt (inl refl) (only_number st.number 9 (mark_byte st.mark ∷ (10 ∷ rest))
      (p 0 (omega arith)).0 (p 0 (omega arith)).1 (inl refl)
      (only_word (mark_byte st.mark ∷ []) rest 10 (mark_word st.mark)
      (inr refl) (only_statement_lines S (λ i h. p (suc i) (omega arith)) more o))))

  pub only_objection_lines : (O : List ObjectionLine) → ((k : ℕ) → k < length O
      → (IsNumber (get_or (map (λ (o : ObjectionLine). o.objector) O) k 0) × P
      (get_or (map (λ (o : ObjectionLine). o.objector) O) k
      0)) × (IsNumber (get_or (map (λ (o : ObjectionLine). o.target) O) k 0) × P
      (get_or (map (λ (o : ObjectionLine). o.target) O) k
      0))) → Only (bytes (map Objection O))
  unfolding bytes lettered above
  only_objection_lines [] p = only_none
  only_objection_lines (o ∷ O) p =
      let rest = bytes (map Objection O) in
      let (a, b) = p 0 (omega arith) in
      subst Only (objection_line o rest) (only_word (79 ∷ []) (number_bytes o.objector ++ (9 ∷ (number_bytes o.target ++ (10 ∷
      rest)))) 9 tt (inl refl) (only_number o.objector 9 (number_bytes o.target ++ (10 ∷ rest)) a.0 a.1
      (inl refl) (only_number o.target 10 rest b.0 b.1 (inr refl) (only_objection_lines O (λ k h. p (suc k)
      (omega arith))))))
