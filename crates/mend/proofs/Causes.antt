-- When a line has which fate, said by the lines of the text alone: `fate_exactly`. "The cause is the first that holds of 2, 3, 5,
-- 6 for a statement, of 2, 3, 7, 8, 9 for an objection; a line moved and kept has 4."
use mathlib.Core.Bool.{Bool, true, false, cond}
use mathlib.Core.List.{List, map, map-append, [], ◌∷◌, ◌++◌}
use mathlib.Core.Logic.{inl, inr, ◌⊎◌, ◌↔◌}
use mathlib.Core.Path.{refl, ap, sym, subst, ◌≡◌, ◌∙◌}
use Prim.Native.Nat.{ℕ, suc, zero, ◌+◌, ◌≤◌, ◌<◌}
use native.Mathlib.Nat.{not-suc-le-zero, le_of_suc-le-suc}
use native.Mathlib.Omega.{arith}
use lib.Dec.{T}
use lib.ListN.{length, get_or, take, length-map, length-append}
use lib.Seq.{get_or-take, take-length, length-take-le, get_or-append-add}
use Rattle.game.proofs.Search.{as_true, as_false, refute}
use Rattle.register.specs.declared.StatementLine.{StatementLine}
use Rattle.register.specs.declared.ObjectionLine.{ObjectionLine}
use Rattle.register.specs.declared.Line.TheVariants.{Statement, Objection}
use Rattle.register.specs.Register.{Register, Issued, Has, numbers, bare}
use Rattle.register.proofs.OneMore.{with_objection_lem}
use Rattle.mend.specs.TextLines.{TextLine, good, spoiled, unended, StatementAt, ObjectionAt}
use Rattle.mend.specs.Fate.{Fate, kept, moved, dropped, unended_line, spoiled_line, second_statement, statement_limit}
use Rattle.mend.specs.Fate.{unknown_number, repeat, objection_limit, stays}
use Rattle.mend.specs.Mended.{with_statement, with_statements, with_objection, with_objections, listed, late_after, fate_of}
use Rattle.mend.specs.Mended.{fates_from, fates, moved_if, settle_statement, settle_objection, unread_if, unread}
use Rattle.mend.specs.Staying.{statement_in, statements_staying, objections_staying}
use Rattle.mend.specs.Due.{NumberBefore, IsKnown, SameBefore, ObjectionBefore, statements_before, objections_before}
use Rattle.mend.specs.Due.{NewStatement, Due}
use Rattle.mend.proofs.Settling.{settles_second, settles_beyond, settles_new, settles_unknown, settles_repeat}
use Rattle.mend.proofs.Settling.{settles_past, settles_kept, statement_case, StatementCase, second, beyond, new}
use Rattle.mend.proofs.Settling.{objection_case, ObjectionCase, unknown, again, past, entered}
use Rattle.mend.proofs.Staying.{statements_from, objections_from, numbers_settled}
use Rattle.mend.proofs.AllLines.{fates_counted}
use Rattle.mend.proofs.KeptObjections.{kept_from, from_kept}
use Rattle.mend.proofs.Marks.{issued_same}
use Rattle.mend.proofs.Restored.{staying_line}

-- The lines before line k leave a state, and its fate is that of settling it there.
unfoldable pub late_in : Bool → List TextLine → Bool
late_in late [] = late
late_in late (l ∷ ls) = late_in (late_after late l) ls

settled_there : (ls : List TextLine) (S : List StatementLine) (late : Bool) (R : Register) (k : ℕ) → k < length ls
    → get_or (fates_from S late R ls) k kept
    ≡ fate_of (with_statements S (take k ls)) (late_in late (take k ls)) (with_objections R (take k ls)) (get_or ls k spoiled)
unfolding fates_from with_statements with_objections late_in
settled_there [] S late R k h = absurd (not-suc-le-zero h)
settled_there (l ∷ ls) S late R zero h = refl
settled_there (l ∷ ls) S late R (suc k) h =
    settled_there ls (with_statement S l) (late_after late l) (with_objection R l) k (le_of_suc-le-suc h)

-- the fates of the first lines are the first fates
first_fates_lem : (ls : List TextLine) (S : List StatementLine) (late : Bool) (R : Register) (k : ℕ)
    → fates_from S late R (take k ls) ≡ take k (fates_from S late R ls)
unfolding fates_from
first_fates_lem [] S late R zero = refl
first_fates_lem [] S late R (suc k) = refl
first_fates_lem (l ∷ ls) S late R zero = refl
first_fates_lem (l ∷ ls) S late R (suc k) =
    ap (λ fs. fate_of S late R l ∷ fs) (first_fates_lem ls (with_statement S l) (late_after late l) (with_objection R l) k)

-- A statement line that stays has its number among those that stay.
abbrev numbers_of : List StatementLine → List ℕ
numbers_of S = map (λ (st : StatementLine). st.number) S

line_staying : (ls : List TextLine) (fs : List Fate) (j : ℕ) (st : StatementLine) → StatementAt ls j st → j < length fs
    → T (stays (get_or fs j kept)) → Issued (bare (statements_staying ls fs)) st.number
unfolding statements_staying
line_staying [] fs j st (h, e) l t = absurd (not-suc-le-zero h)
line_staying (a ∷ ls) [] j st (h, e) l t = absurd (not-suc-le-zero l)
line_staying (a ∷ ls) (f ∷ fs) zero st (h, e) l t = rw (e, as_true (stays f) t) (0, omega arith, refl)
line_staying (a ∷ ls) (f ∷ fs) (suc j) st (h, e) l t =
    later (cond (stays f) (statement_in a) []) (statements_staying ls fs)
    (line_staying ls fs j st (le_of_suc-le-suc h, e) (le_of_suc-le-suc l) t)
  where
    later : (A B : List StatementLine) → Issued (bare B) st.number → Issued (bare (A ++ B)) st.number
    later A B (i, m, q) =
        let names : numbers_of (A ++ B) ≡ numbers_of A ++ numbers_of B = map-append (λ (t : StatementLine). t.number) A B in (
          length (numbers_of A) + i,
          omega (arith, ap length names, length-append (numbers_of A) (numbers_of B)),
          ap (λ u. get_or u (length (numbers_of A) + i) 0) names ∙ get_or-append-add (numbers_of A) (numbers_of B) i 0 ∙ q,
        )

-- A line is late behind an objection line.
late_by : (ls : List TextLine) (late : Bool) → T (late_in late ls)
    → T late ⊎ ((j : ℕ) × (o : ObjectionLine) × ObjectionAt ls j o)
unfolding late_in
late_by [] late t = inl t
late_by (l ∷ ls) late t = go l refl (late_by ls (late_after late l) t)
  where
    go : (l' : TextLine) → l ≡ l' → T (late_after late l') ⊎ ((j : ℕ) × (o : ObjectionLine) × ObjectionAt ls j o)
        → T late ⊎ ((j : ℕ) × (o : ObjectionLine) × ObjectionAt (l ∷ ls) j o)
    go l' e (inr (j, o, (m, q))) = inr (suc j, o, (omega arith, q))
    go (good (Statement st)) e (inl t) = inl t
    go (good (Objection o)) e (inl t) = inr (0, o, (omega arith, e))
    go spoiled e (inl t) = inl t
    go unended e (inl t) = inl t

late_on : (ls : List TextLine) (late : Bool) → T late → T (late_in late ls)
unfolding late_in
late_on [] late t = t
late_on (good (Statement st) ∷ ls) late t = late_on ls late t
late_on (good (Objection o) ∷ ls) late t = late_on ls true tt
late_on (spoiled ∷ ls) late t = late_on ls late t
late_on (unended ∷ ls) late t = late_on ls late t

by_late : (ls : List TextLine) (late : Bool) (j : ℕ) (o : ObjectionLine) → ObjectionAt ls j o → T (late_in late ls)
unfolding late_in
by_late [] late j o (m, q) = absurd (not-suc-le-zero m)
by_late (l ∷ ls) late zero o (m, q) = late_on ls (late_after late l) (subst (λ a. T (late_after late a)) (sym q) tt)
by_late (l ∷ ls) late (suc j) o (m, q) = by_late ls (late_after late l) j o (le_of_suc-le-suc m, q)

-- the state after the lines before line k, for a line of the text or the end
module _ (ls : List TextLine) (k : ℕ) (h : k ≤ length ls) where
  fates_before : fates_from [] false (listed ls) (take k ls) ≡ take k (fates ls)
  fates_before = first_fates_lem ls [] false (listed ls) k

  fates_there : length (take k (fates ls)) ≡ k
  fates_there = length-take-le k (fates ls) (omega (arith, fates_counted ls [] false (listed ls)))

  numbers_before : numbers_of (with_statements [] (take k ls)) ≡ numbers_of (statements_staying (take k ls) (take k (fates ls)))
  numbers_before =
      statements_from (take k ls) [] false (listed ls)
      ∙ ap (λ fs. numbers_of (statements_staying (take k ls) fs)) fates_before

  statements_counted : length (with_statements [] (take k ls)) ≡ statements_before ls k
  statements_counted =
      sym (length-map (with_statements [] (take k ls)) (λ (t : StatementLine). t.number)) ∙ ap length numbers_before
      ∙ length-map (statements_staying (take k ls) (take k (fates ls))) (λ (t : StatementLine). t.number)

  objections_counted : length (with_objections (listed ls) (take k ls)).objections ≡ objections_before ls k
  objections_counted =
      ap length (objections_from (take k ls) [] false (listed ls))
      ∙ ap (λ fs. length (objections_staying (take k ls) fs)) fates_before

  -- a line before line k, and its fate
  line_before : (j : ℕ) → j < length (take k ls) → (j < k) × (get_or (take k ls) j spoiled ≡ get_or ls j spoiled)
  line_before j l = let m : j < k = omega (arith, length-take-le k ls h) in (m, get_or-take k ls j spoiled m)

  number_before : (n : ℕ) → Issued (bare (with_statements [] (take k ls))) n ↔ NumberBefore ls k n
  number_before n = (to, from)
    where
      same : (i m : ℕ) → get_or (numbers_of (statements_staying (take k ls) (take k (fates ls)))) i 0 ≡ m
          → get_or (numbers_of (with_statements [] (take k ls))) i 0 ≡ n → m ≡ n
      same i m a e = sym a ∙ sym (ap (λ ns. get_or ns i 0) numbers_before) ∙ e

      to : Issued (bare (with_statements [] (take k ls))) n → NumberBefore ls k n
      to (i, l, e) =
          let l' : i < length (statements_staying (take k ls) (take k (fates ls))) = omega (
            arith,
            ap length numbers_before,
            length-map (statements_staying (take k ls) (take k (fates ls))) (λ (t : StatementLine). t.number),
          ) in
          let (j, st, (m, q), t, a, b) = staying_line (take k ls) (take k (fates ls)) i l' in
          let (o, p) = line_before j m in (
            j,
            st,
            o,
            (omega (arith, o, h), sym p ∙ q),
            same i st.number a e,
            subst (λ f. T (stays f)) (get_or-take k (fates ls) j kept o) t,
          )

      from : NumberBefore ls k n → Issued (bare (with_statements [] (take k ls))) n
      from (j, st, m, (l, q), e, t) =
          issued_same (bare (statements_staying (take k ls) (take k (fates ls)))) (bare (with_statements [] (take k ls)))
          (sym numbers_before) n (subst (Issued (bare (statements_staying (take k ls) (take k (fates ls))))) e
          (line_staying (take k ls) (take k (fates ls)) j st
          (omega (arith, length-take-le k ls h), get_or-take k ls j spoiled m ∙ q) (omega (arith, fates_there))
          (subst (λ f. T (stays f)) (sym (get_or-take k (fates ls) j kept m)) t)))

  fate_before : (j : ℕ) → j < k → get_or (fates_from [] false (listed ls) (take k ls)) j kept ≡ get_or (fates ls) j kept
  fate_before j m = ap (λ fs. get_or fs j kept) fates_before ∙ get_or-take k (fates ls) j kept m

  same_before : (o : ObjectionLine) → Has (with_objections (listed ls) (take k ls)) o.objector o.target ↔ SameBefore ls k o
  same_before o = (to, from)
    where
      to : Has (with_objections (listed ls) (take k ls)) o.objector o.target → SameBefore ls k o
      to w =
          let (j, p, (m, q), a, b, f) = kept_from (take k ls) [] false (with_statements [] ls) o.objector o.target w in
          let (l, e) = line_before j m in
          (j, p, l, (omega (arith, l, h), sym e ∙ q), a, b, sym (fate_before j l) ∙ f)

      from : SameBefore ls k o → Has (with_objections (listed ls) (take k ls)) o.objector o.target
      from (j, p, m, (l, q), a, b, f) =
          subst (λ y. Has (with_objections (listed ls) (take k ls)) y o.target) a
          (subst (λ x. Has (with_objections (listed ls) (take k ls)) p.objector x) b
          (from_kept (take k ls) [] false (with_statements [] ls) j p
          (omega (arith, length-take-le k ls h), get_or-take k ls j spoiled m ∙ q) (fate_before j m ∙ f)))

  late_before : T (late_in false (take k ls)) ↔ ObjectionBefore ls k
  late_before = (λ t. to (late_by (take k ls) false t), from)
    where
      to : ⊥ ⊎ ((j : ℕ) × (o : ObjectionLine) × ObjectionAt (take k ls) j o) → ObjectionBefore ls k
      to (inl t) = absurd t
      to (inr (j, o, (m, q))) = let (l, e) = line_before j m in (j, o, l, (omega (arith, l, h), sym e ∙ q))

      from : ObjectionBefore ls k → T (late_in false (take k ls))
      from (j, o, m, (l, q)) =
          by_late (take k ls) false j o (omega (arith, length-take-le k ls h), get_or-take k ls j spoiled m ∙ q)

-- settling objections leaves the numbers, so a number is known from the first
known_before : (ls : List TextLine) (k n : ℕ) → Issued (with_objections (listed ls) (take k ls)) n ↔ IsKnown ls n
known_before ls k n = (
  λ i. (number_before ls (length ls) (omega arith) n).0 (issued_same (with_objections (listed ls) (take k ls)) all
      (numbers_settled (take k ls) (listed ls) ∙ whole) n i),
  λ w. issued_same all (with_objections (listed ls) (take k ls)) (sym (numbers_settled (take k ls) (listed ls) ∙ whole)) n
      ((number_before ls (length ls) (omega arith) n).1 w),
)
  where
    all : Register
    all = bare (with_statements [] (take (length ls) ls))

    whole : numbers (listed ls) ≡ numbers all
    whole = ap (λ l. numbers (bare (with_statements [] l))) (sym (take-length ls))

module _ (ls : List TextLine) (k : ℕ) (h : k < length ls) where
  abbrev S : List StatementLine
  S = with_statements [] (take k ls)

  abbrev late : Bool
  late = late_in false (take k ls)

  abbrev R : Register
  R = with_objections (listed ls) (take k ls)

  abbrev here : Fate
  here = get_or (fates ls) k kept

  within : k ≤ length ls
  within = omega arith

  settled : (l : TextLine) → get_or ls k spoiled ≡ l → here ≡ fate_of S late R l
  settled l e = settled_there ls [] false (listed ls) k h ∙ ap (fate_of S late R) e

  by_statement : (st : StatementLine) (f : Fate) (T' : List StatementLine) → StatementAt ls k st → settle_statement S st ≡ (f, T')
      → here ≡ moved_if late f
  by_statement st f T' (l, e) q = settled (good (Statement st)) e ∙ ap (λ u. moved_if late u.0) q

  by_objection : (o : ObjectionLine) (f : Fate) (Q : Register) → ObjectionAt ls k o → settle_objection R o ≡ (f, Q) → here ≡ f
  by_objection o f Q (l, e) q = settled (good (Objection o)) e ∙ ap (λ u. u.0) q

  new_settled : (st : StatementLine) → StatementAt ls k st → (¬ NumberBefore ls k st.number) → statements_before ls k < 1024
      → here ≡ moved_if late kept
  new_settled st at n l =
      by_statement st kept (S ++ (st ∷ [])) at
      (settles_new S st (λ i. n ((number_before ls k within st.number).0 i)) (omega (arith, statements_counted ls k within)))

  both_known : (o : ObjectionLine) → IsKnown ls o.objector × IsKnown ls o.target
      → Issued R o.objector × Issued R o.target
  both_known o (y, x) = ((known_before ls k o.objector).1 y, (known_before ls k o.target).1 x)

  known_both : (o : ObjectionLine) → Issued R o.objector × Issued R o.target
      → IsKnown ls o.objector × IsKnown ls o.target
  known_both o (y, x) = ((known_before ls k o.objector).0 y, (known_before ls k o.target).0 x)

  -- what is due comes about
  given : (f : Fate) → Due ls k f → here ≡ f
  given kept (inl ((st, at, n, l), none)) =
      new_settled st at n l ∙ ap (λ b. moved_if b kept) (as_false late (refute late (λ t. none ((late_before ls k within).0 t))))
  given kept (inr (o, at, y, (n, l))) =
      by_objection o kept (with_objection_lem R o) at
      (settles_kept R o (both_known o y) (λ w. n ((same_before ls k within o).0 w))
      (omega (arith, objections_counted ls k within)))
  given moved ((st, at, n, l), w) =
      new_settled st at n l ∙ ap (λ b. moved_if b kept) (as_true late ((late_before ls k within).1 w))
  given (dropped unended_line) e = settled unended e
  given (dropped spoiled_line) e = settled spoiled e
  given (dropped second_statement) (st, at, w) =
      by_statement st (dropped second_statement) (map (unread_if st.number) S) at
      (settles_second S st ((number_before ls k within st.number).1 w))
  given (dropped statement_limit) (st, at, n, l) =
      by_statement st (dropped statement_limit) S at
      (settles_beyond S st (λ i. n ((number_before ls k within st.number).0 i)) (omega (arith, statements_counted ls k within)))
  given (dropped unknown_number) (o, at, n) =
      by_objection o (dropped unknown_number) (unread o.target R) at (settles_unknown R o (λ y. n (known_both o y)))
  given (dropped repeat) (o, at, y, w) =
      by_objection o (dropped repeat) R at (settles_repeat R o (both_known o y) ((same_before ls k within o).1 w))
  given (dropped objection_limit) (o, at, y, (n, l)) =
      by_objection o (dropped objection_limit) (unread o.target R) at
      (settles_past R o (both_known o y) (λ w. n ((same_before ls k within o).0 w))
      (omega (arith, objections_counted ls k within)))

  -- something is due
  due : (f : Fate) × Due ls k f
  due = go (get_or ls k spoiled) refl
    where
      new_due : NewStatement ls k → (b : Bool) → late ≡ b → (f : Fate) × Due ls k f
      new_due n true e = (moved, (n, (late_before ls k within).0 (subst T (sym e) tt)))
      new_due n false e = (kept, inl (n, λ w. subst T e ((late_before ls k within).1 w)))

      of_statement_lem : (st : StatementLine) → StatementAt ls k st → StatementCase S st → (f : Fate) × Due ls k f
      of_statement_lem st at (second i e) = (dropped second_statement, (st, at, (number_before ls k within st.number).0 i))
      of_statement_lem st at (beyond n l e) = (
        dropped statement_limit,
        (
          st,
          at,
          (λ w. n ((number_before ls k within st.number).1 w)),
          omega (arith, statements_counted ls k within),
        ),
      )
      of_statement_lem st at (new n l e) =
          new_due (
            st,
            at,
            (λ w. n ((number_before ls k within st.number).1 w)),
            omega (arith, statements_counted ls k within),
          ) late refl

      of_objection_lem : (o : ObjectionLine) → ObjectionAt ls k o → ObjectionCase R o → (f : Fate) × Due ls k f
      of_objection_lem o at (unknown n e) = (dropped unknown_number, (o, at, λ y. n (both_known o y)))
      of_objection_lem o at (again y w e) = (dropped repeat, (o, at, known_both o y, (same_before ls k within o).0 w))
      of_objection_lem o at (past y n l e) = (
        dropped objection_limit,
        (
          o,
          at,
          known_both o y,
          (
            (λ w. n ((same_before ls k within o).1 w)),
            omega (arith, objections_counted ls k within),
          ),
        ),
      )
      of_objection_lem o at (entered y n l e) = (
        kept,
        inr (
          o,
          at,
          known_both o y,
          (
            (λ w. n ((same_before ls k within o).1 w)),
            omega (arith, objections_counted ls k within),
          ),
        ),
      )

      go : (l : TextLine) → get_or ls k spoiled ≡ l → (f : Fate) × Due ls k f
      go (good (Statement st)) e = of_statement_lem st (h, e) (statement_case S st)
      go (good (Objection o)) e = of_objection_lem o (h, e) (objection_case R o)
      go spoiled e = (dropped spoiled_line, e)
      go unended e = (dropped unended_line, e)

  -- each fate is given exactly when it is due
  pub fate_exactly : (f : Fate) → (get_or (fates ls) k kept ≡ f) ↔ Due ls k f
  fate_exactly f = (λ e. let (g, w) = due in subst (Due ls k) (sym (given g w) ∙ e) w, given f)
