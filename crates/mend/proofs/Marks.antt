-- Which marks change: those of kept statements whose number is issued again, and of targets whose objection went for an unknown
-- objector or for the limit.
use mathlib.Core.Bool.{Bool, true, false}
use mathlib.Core.List.{List, map, [], ◌∷◌, ◌++◌}
use mathlib.Core.Logic.{inl, inr, ◌⊎◌, ◌↔◌}
use mathlib.Core.Path.{refl, ap, sym, subst, ◌≡◌, ◌∙◌}
use Prim.Native.Nat.{ℕ, suc, zero, ◌<◌}
use native.Mathlib.Nat.{not-suc-le-zero, le_of_suc-le-suc}
use native.Mathlib.Decide.{ℕ_discrete, dec_lt}
use native.Mathlib.Omega.{arith}
use lib.Dec.{T}
use lib.ListN.{length, get_or}
use borrow.Author.Tests.{eq-eqb, ne_eqb}
use Rattle.register.specs.Lines.{mark_number}
use Rattle.register.specs.declared.Mark.{Mark}
use Rattle.register.specs.declared.Mark.TheVariants.{Unread, Read}
use Rattle.register.specs.declared.StatementLine.{StatementLine}
use Rattle.register.specs.declared.ObjectionLine.{ObjectionLine}
use Rattle.register.specs.declared.Line.TheVariants.{Statement, Objection}
use Rattle.register.specs.Register.{Issued, bare, Register, numbers, marks_of}
use Rattle.mend.specs.TextLines.{TextLine, good, spoiled, unended, ObjectionAt, LinesOf}
use Rattle.mend.specs.Fate.{Fate, kept, dropped, second_statement, statement_limit, unknown_number, repeat}
use Rattle.mend.specs.Fate.{objection_limit, stays, fate_number}
use Rattle.mend.specs.Mended.{unread_if, moved_if, settle_statement, settle_objection, with_statement, fate_of, with_objection}
use Rattle.mend.specs.Mended.{with_statements, fates_from, with_objections, fates, mended, listed}
use Rattle.mend.specs.Staying.{UnreadBy}
use Rattle.mend.proofs.Settling.{statement_case, StatementCase, second, beyond, new, objection_case, ObjectionCase}
use Rattle.mend.proofs.Settling.{unknown, again, past, entered}
use Rattle.mend.proofs.Valid.{mended_valid}
use Rattle.mend.proofs.Staying.{kept_stays, numbers_after, numbers_settled}
use Rattle.mend.proofs.AllLines.{Some, comes_by, comes, each, some_at, remains, some_by}
use Rattle.register.proofs.Order.{numbers_counted}

-- a statement of this number is marked unread
Marked : List StatementLine → ℕ → Type 0
Marked [] v = ⊥
Marked (st ∷ S) v = ((st.number ≡ v) × (st.mark ≡ Unread)) ⊎ Marked S v

pub unread_number : (m : Mark) → mark_number m ≡ 1 → m ≡ Unread
unread_number Read e = absurd (omega arith)
unread_number Unread e = refl

-- it stands at some place; and what stands so at a place is marked
marked_at_lem : (S : List StatementLine) (v : ℕ) → Marked S v → (i : ℕ) × (i < length S)
    × (get_or (map (λ (st : StatementLine). st.number) S) i 0 ≡ v)
    × (get_or (map (λ (st : StatementLine). mark_number st.mark) S) i 0 ≡ 1)
unfolding Marked
marked_at_lem [] v w = absurd w
marked_at_lem (st ∷ S) v (inl (e, u)) = (0, omega arith, e, ap mark_number u)
marked_at_lem (st ∷ S) v (inr w) = let (i, h, e, u) = marked_at_lem S v w in (suc i, omega arith, e, u)

at_marked : (S : List StatementLine) (v i : ℕ) → get_or (map (λ (st : StatementLine). st.number) S) i 0 ≡ v
    → get_or (map (λ (st : StatementLine). mark_number st.mark) S) i 0 ≡ 1 → Marked S v
unfolding Marked
at_marked [] v i e u = absurd (omega arith)
at_marked (st ∷ S) v zero e u = inl (e, unread_number st.mark u)
at_marked (st ∷ S) v (suc i) e u = inr (at_marked S v i e u)

-- One number marked unread.
module _ (n v : ℕ) where
  unread_old : (S : List StatementLine) → Marked S v → Marked (map (unread_if n) S) v
  unfolding Marked
  unread_old [] w = w
  unread_old (st ∷ S) (inr w) = inr (unread_old S w)
  unread_old (st ∷ S) (inl (p, u)) = inl (go (ℕ_discrete st.number n))
    where
      go : Dec (st.number ≡ n) → ((unread_if n st).number ≡ v) × ((unread_if n st).mark ≡ Unread)
      go (yes e) = rw (eq-eqb st.number n e) (p, refl)
      go (no e) = rw (ne_eqb st.number n e) (p, u)

  unread_cases : (S : List StatementLine) → Marked (map (unread_if n) S) v → Marked S v ⊎ (n ≡ v)
  unfolding Marked
  unread_cases [] w = inl w
  unread_cases (st ∷ S) (inr w) = later (unread_cases S w)
    where
      later : Marked S v ⊎ (n ≡ v) → Marked (st ∷ S) v ⊎ (n ≡ v)
      later (inl w) = inl (inr w)
      later (inr e) = inr e
  unread_cases (st ∷ S) (inl w) = go (ℕ_discrete st.number n) w
    where
      go : Dec (st.number ≡ n) → ((unread_if n st).number ≡ v) × ((unread_if n st).mark ≡ Unread) → Marked (st ∷ S) v ⊎ (n ≡ v)
      go (yes e) = rw (eq-eqb st.number n e) (λ w. inr (sym e ∙ w.0))
      go (no e) = rw (ne_eqb st.number n e) (λ w. inl (inl w))

unread_listed : (n : ℕ) (S : List StatementLine) → Issued (bare S) n → Marked (map (unread_if n) S) n
unfolding Marked
unread_listed n [] (i, l, e) = absurd (not-suc-le-zero l)
unread_listed n (st ∷ S) (zero, l, e) = rw (eq-eqb st.number n e) (inl (e, refl))
unread_listed n (st ∷ S) (suc i, l, e) = inr (unread_listed n S (i, le_of_suc-le-suc l, e))

-- one statement more
more_old : (S : List StatementLine) (st : StatementLine) (v : ℕ) → Marked S v → Marked (S ++ (st ∷ [])) v
unfolding Marked
more_old [] st v w = absurd w
more_old (t ∷ S) st v (inl w) = inl w
more_old (t ∷ S) st v (inr w) = inr (more_old S st v w)

more_new : (S : List StatementLine) (st : StatementLine) (v : ℕ) → st.number ≡ v → st.mark ≡ Unread → Marked (S ++ (st ∷ [])) v
unfolding Marked
more_new [] st v e u = inl (e, u)
more_new (t ∷ S) st v e u = inr (more_new S st v e u)

more_cases : (S : List StatementLine) (st : StatementLine) (v : ℕ) → Marked (S ++ (st ∷ [])) v
    → Marked S v ⊎ ((st.number ≡ v) × (st.mark ≡ Unread))
unfolding Marked
more_cases [] st v (inl w) = inr w
more_cases [] st v (inr w) = absurd w
more_cases (t ∷ S) st v (inl w) = inl (inl w)
more_cases (t ∷ S) st v (inr w) = go (more_cases S st v w)
  where
    go : Marked S v ⊎ ((st.number ≡ v) × (st.mark ≡ Unread)) → Marked (t ∷ S) v ⊎ ((st.number ≡ v) × (st.mark ≡ Unread))
    go (inl w) = inl (inr w)
    go (inr w) = inr w

-- an objection with this fate marks its target unread
abbrev TargetMarked : Fate → Type 0
TargetMarked f = (f ≡ dropped unknown_number) ⊎ (f ≡ dropped objection_limit)

-- a line with this fate marks v unread
abbrev StatementMarks : ℕ → TextLine → Fate → Type 0
StatementMarks v (good (Statement st)) f =
    (st.number ≡ v) × ((T (stays f) × (st.mark ≡ Unread)) ⊎ (f ≡ dropped second_statement))
StatementMarks v (good (Objection o)) f = ⊥
StatementMarks v spoiled f = ⊥
StatementMarks v unended f = ⊥

abbrev ObjectionMarks : ℕ → TextLine → Fate → Type 0
ObjectionMarks v (good (Statement st)) f = ⊥
ObjectionMarks v (good (Objection o)) f = (o.target ≡ v) × TargetMarked f
ObjectionMarks v spoiled f = ⊥
ObjectionMarks v unended f = ⊥

kept_not_second : (late : Bool) → moved_if late kept ≡ dropped second_statement → ⊥
kept_not_second true e = omega (arith, ap (fate_number 0) e)
kept_not_second false e = omega (arith, ap (fate_number 0) e)

-- One statement line.
module _ (S : List StatementLine) (st : StatementLine) (late : Bool) (v : ℕ) where
  abbrev Marks : Fate → Type 0
  Marks f = (st.number ≡ v) × ((T (stays f) × (st.mark ≡ Unread)) ⊎ (f ≡ dropped second_statement))

  settled_marked : Marked (settle_statement S st).1 v → Marked S v ⊎ Marks (moved_if late (settle_statement S st).0)
  settled_marked = go (statement_case S st)
    where
      go : StatementCase S st → Marked (settle_statement S st).1 v → Marked S v ⊎ Marks (moved_if late (settle_statement S st).0)
      go (second i e) = rw e (λ w. by (unread_cases st.number v S w))
        where
          by : Marked S v ⊎ (st.number ≡ v) → Marked S v ⊎ Marks (dropped second_statement)
          by (inl w) = inl w
          by (inr q) = inr (q, inr refl)
      go (beyond n l e) = rw e (λ w. inl w)
      go (new n l e) = rw (e, kept_stays late) (λ w. by (more_cases S st v w))
        where
          by : Marked S v ⊎ ((st.number ≡ v) × (st.mark ≡ Unread))
              → Marked S v
              ⊎ ((st.number ≡ v) × ((T true × (st.mark ≡ Unread)) ⊎ (moved_if late kept ≡ dropped second_statement)))
          by (inl w) = inl w
          by (inr (q, u)) = inr (q, inl (tt, u))

  settled_marks : Marked S v ⊎ Marks (moved_if late (settle_statement S st).0) → Marked (settle_statement S st).1 v
  settled_marks = go (statement_case S st)
    where
      go : StatementCase S st → Marked S v ⊎ Marks (moved_if late (settle_statement S st).0) → Marked (settle_statement S st).1 v
      go (second i e) = rw e by
        where
          by : Marked S v ⊎ Marks (dropped second_statement) → Marked (map (unread_if st.number) S) v
          by (inl w) = unread_old st.number v S w
          by (inr (q, inl (t, u))) = absurd t
          by (inr (q, inr f)) = subst (Marked (map (unread_if st.number) S)) q (unread_listed st.number S i)
      go (beyond n l e) = rw e by
        where
          by : Marked S v ⊎ Marks (dropped statement_limit) → Marked S v
          by (inl w) = w
          by (inr (q, inl (t, u))) = absurd t
          by (inr (q, inr f)) = absurd (omega (arith, ap (fate_number 0) f))
      go (new n l e) = rw (e, kept_stays late) by
        where
          by : Marked S v ⊎ ((st.number ≡ v) × ((T true × (st.mark ≡ Unread)) ⊎ (moved_if late kept ≡ dropped second_statement)))
              → Marked (S ++ (st ∷ [])) v
          by (inl w) = more_old S st v w
          by (inr (q, inl (t, u))) = more_new S st v q u
          by (inr (q, inr f)) = absurd (kept_not_second late f)

-- One objection line.
module _ (R : Register) (o : ObjectionLine) (v : ℕ) where
  abbrev Marks' : Fate → Type 0
  Marks' f = (o.target ≡ v) × TargetMarked f

  settled_marked' : Marked (settle_objection R o).1.statements v → Marked R.statements v ⊎ Marks' (settle_objection R o).0
  settled_marked' = go (objection_case R o)
    where
      by : (f : Fate) → TargetMarked f → Marked R.statements v ⊎ (o.target ≡ v) → Marked R.statements v ⊎ Marks' f
      by f d (inl w) = inl w
      by f d (inr q) = inr (q, d)

      go : ObjectionCase R o → Marked (settle_objection R o).1.statements v
          → Marked R.statements v ⊎ Marks' (settle_objection R o).0
      go (unknown n e) = rw e (λ w. by (dropped unknown_number) (inl refl) (unread_cases o.target v R.statements w))
      go (again k h e) = rw e (λ w. inl w)
      go (past k h l e) = rw e (λ w. by (dropped objection_limit) (inr refl) (unread_cases o.target v R.statements w))
      go (entered k h l e) = rw e (λ w. inl w)

  settled_marks' : Issued R v → Marked R.statements v ⊎ Marks' (settle_objection R o).0
      → Marked (settle_objection R o).1.statements v
  settled_marks' i = go (objection_case R o)
    where
      by : (f : Fate) → Marked R.statements v ⊎ Marks' f → Marked (map (unread_if o.target) R.statements) v
      by f (inl w) = unread_old o.target v R.statements w
      by f (inr (q, d)) = rw q (unread_listed v R.statements i)

      none : (f : Fate) → (TargetMarked f → ⊥) → Marked R.statements v ⊎ Marks' f → Marked R.statements v
      none f d (inl w) = w
      none f d (inr (q, e)) = absurd (d e)

      neither : (f : Fate) → (fate_number 0 f ≡ 7 → ⊥) → (fate_number 0 f ≡ 9 → ⊥) → TargetMarked f → ⊥
      neither f a b (inl e) = a (ap (fate_number 0) e)
      neither f a b (inr e) = b (ap (fate_number 0) e)

      go : ObjectionCase R o → Marked R.statements v ⊎ Marks' (settle_objection R o).0
          → Marked (settle_objection R o).1.statements v
      go (unknown n e) = rw e (by (dropped unknown_number))
      go (again k h e) = rw e (none (dropped repeat) (neither (dropped repeat) (λ q. omega (arith, q)) (λ q. omega (arith, q))))
      go (past k h l e) = rw e (by (dropped objection_limit))
      go (entered k h l e) = rw e (none kept (neither kept (λ q. omega (arith, q)) (λ q. omega (arith, q))))

-- One line of any kind.
only_left : {P : Type 0} → P ⊎ ⊥ → P
only_left (inl p) = p
only_left (inr q) = absurd q

module _ (S : List StatementLine) (late : Bool) (R : Register) (v : ℕ) where
  line_marked : (l : TextLine) → Marked (with_statement S l) v → Marked S v ⊎ StatementMarks v l (fate_of S late R l)
  line_marked (good (Statement st)) w = settled_marked S st late v w
  line_marked (good (Objection o)) w = inl w
  line_marked spoiled w = inl w
  line_marked unended w = inl w

  line_marks : (l : TextLine) → Marked S v ⊎ StatementMarks v l (fate_of S late R l) → Marked (with_statement S l) v
  line_marks (good (Statement st)) w = settled_marks S st late v w
  line_marks (good (Objection o)) w = only_left w
  line_marks spoiled w = only_left w
  line_marks unended w = only_left w

  line_marked' : (l : TextLine) → Marked (with_objection R l).statements v
      → Marked R.statements v ⊎ ObjectionMarks v l (fate_of S late R l)
  line_marked' (good (Statement st)) w = inl w
  line_marked' (good (Objection o)) w = settled_marked' R o v w
  line_marked' spoiled w = inl w
  line_marked' unended w = inl w

  line_marks' : Issued R v → (l : TextLine) → Marked R.statements v ⊎ ObjectionMarks v l (fate_of S late R l)
      → Marked (with_objection R l).statements v
  line_marks' i (good (Statement st)) w = only_left w
  line_marks' i (good (Objection o)) w = settled_marks' R o v i w
  line_marks' i spoiled w = only_left w
  line_marks' i unended w = only_left w

-- All lines. The marks after statements are settled, and those after objections are.
statements_marked : (ls : List TextLine) (R : Register) (v : ℕ)
    → Marked (with_statements [] ls) v → Some (StatementMarks v) ls (fates_from [] false R ls)
unfolding Marked
statements_marked ls R v w =
    go (comes_by (StatementMarks v) (λ S R. Marked S v) (λ S late R l. line_marked S late R v l) ls [] false R w)
  where
    go : ⊥ ⊎ Some (StatementMarks v) ls (fates_from [] false R ls) → Some (StatementMarks v) ls (fates_from [] false R ls)
    go (inl w) = absurd w
    go (inr w) = w

statements_mark : (ls : List TextLine) (R : Register) (v : ℕ) → Some (StatementMarks v) ls (fates_from [] false R ls)
    → Marked (with_statements [] ls) v
statements_mark ls R v w =
    comes (StatementMarks v) (λ S R. Marked S v) (λ S late R l. line_marks S late R v l) ls [] false R w

objections_marked : (ls : List TextLine) (R : Register) (v : ℕ) → Marked (with_objections R ls).statements v
    → Marked R.statements v ⊎ Some (ObjectionMarks v) ls (fates_from [] false R ls)
objections_marked ls R v w =
    comes_by (ObjectionMarks v) (λ S R. Marked R.statements v) (λ S late R l. line_marked' S late R v l) ls [] false R w

-- registers with the same numbers have the same issued
pub issued_same : (R Q : Register) → numbers R ≡ numbers Q → (n : ℕ) → Issued R n → Issued Q n
issued_same R Q e n i = subst (λ ns. (i : ℕ) × (i < length ns) × (get_or ns i 0 ≡ n)) e i

module _ (v : ℕ) where
  abbrev MarkedIfIssued : List StatementLine → Register → Type 0
  MarkedIfIssued S R = Issued R v → Marked R.statements v

  still_marked : (S : List StatementLine) (late : Bool) (R : Register) (l : TextLine)
      → MarkedIfIssued S R ⊎ ObjectionMarks v l (fate_of S late R l) → MarkedIfIssued (with_statement S l) (with_objection R l)
  still_marked S late R l w i = go w
    where
      i' : Issued R v
      i' = issued_same (with_objection R l) R (numbers_after R l) v i

      go : MarkedIfIssued S R ⊎ ObjectionMarks v l (fate_of S late R l) → Marked (with_objection R l).statements v
      go (inl q) = line_marks' S late R v i' l (inl (q i'))
      go (inr p) = line_marks' S late R v i' l (inr p)

-- a line is dropped for an unknown number exactly if not both numbers are issued
pub unknown_exactly : (ls : List TextLine) (k : ℕ) (o : ObjectionLine) → ObjectionAt ls k o
    → (get_or (fates ls) k kept ≡ dropped unknown_number) ↔ (¬ (Issued (mended ls) o.objector × Issued (mended ls) o.target))
unknown_exactly ls k o (h, e) =
    each Why (λ R. numbers R ≡ numbers (mended ls)) (λ R l i. numbers_after R l ∙ i) one ls [] false (listed ls)
    (sym (numbers_settled ls (listed ls))) k h o e
  where
    Why : TextLine → Fate → Type 0
    Why l f =
        (o : ObjectionLine) → l ≡ good (Objection o)
        → (f ≡ dropped unknown_number) ↔ (¬ (Issued (mended ls) o.objector × Issued (mended ls) o.target))

    one : (S : List StatementLine) (late : Bool) (R : Register) (l : TextLine) → numbers R ≡ numbers (mended ls)
        → Why l (fate_of S late R l)
    one S late R (good (Statement st)) i o e = let z : ◌≡◌ {A = ℕ} 0 1 = cc in absurd (omega arith)
    one S late R spoiled i o e = let z : ◌≡◌ {A = ℕ} 0 1 = cc in absurd (omega arith)
    one S late R unended i o e = let z : ◌≡◌ {A = ℕ} 0 1 = cc in absurd (omega arith)
    one S late R (good (Objection p)) i o e = let q : p ≡ o = cc in rw (sym q) (go (objection_case R p))
      where
        back : (n : ℕ) → Issued (mended ls) n → Issued R n
        back = issued_same (mended ls) R (sym i)

        forth : Issued R p.objector × Issued R p.target → Issued (mended ls) p.objector × Issued (mended ls) p.target
        forth (y, x) = (issued_same R (mended ls) i p.objector y, issued_same R (mended ls) i p.target x)

        -- of both known numbers, another fate is given
        none : Issued R p.objector × Issued R p.target → (fate_number 0 (settle_objection R p).0 ≡ 7 → ⊥)
            → ((settle_objection R p).0 ≡ dropped unknown_number)
            ↔ (¬ (Issued (mended ls) p.objector × Issued (mended ls) p.target))
        none k other = (λ f w. other (ap (fate_number 0) f), λ f. absurd (f (forth k)))

        go : ObjectionCase R p → ((settle_objection R p).0 ≡ dropped unknown_number)
            ↔ (¬ (Issued (mended ls) p.objector × Issued (mended ls) p.target))
        go (unknown n e) = (λ f w. n (back p.objector w.0, back p.target w.1), λ f. ap (λ u. u.0) e)
        go (again k h e) = none k (λ q. omega (arith, ap (λ u. fate_number 0 u.0) e, q))
        go (past k h l e) = none k (λ q. omega (arith, ap (λ u. fate_number 0 u.0) e, q))
        go (entered k h l e) = none k (λ q. omega (arith, ap (λ u. fate_number 0 u.0) e, q))

-- what such a line is
as_statement : (v : ℕ) (l : TextLine) (f : Fate) → StatementMarks v l f → (st : StatementLine) × (l ≡ good (Statement st))
    × (st.number ≡ v) × ((T (stays f) × (st.mark ≡ Unread)) ⊎ (f ≡ dropped second_statement))
as_statement v (good (Statement st)) f (p, d) = (st, refl, p, d)
as_statement v (good (Objection o)) f w = absurd w
as_statement v spoiled f w = absurd w
as_statement v unended f w = absurd w

as_objection : (v : ℕ) (l : TextLine) (f : Fate) → ObjectionMarks v l f → (o : ObjectionLine) × (l ≡ good (Objection o))
    × (o.target ≡ v) × TargetMarked f
as_objection v (good (Objection o)) f (p, d) = (o, refl, p, d)
as_objection v (good (Statement st)) f w = absurd w
as_objection v spoiled f w = absurd w
as_objection v unended f w = absurd w

-- "A mark is U exactly if its own line has U, or a second statement under its number went, or an objection against it went for an
-- unknown objector or for the limit."
module _ (s : List ℕ) (ls : List TextLine) (p : LinesOf s ls) (x : ℕ) (h : x < length (numbers (mended ls))) where
  v : ℕ
  v = get_or (numbers (mended ls)) x 0

  there : Issued (mended ls) v
  unfolding v
  there = (x, h, refl)

  why : Marked (mended ls).statements v → UnreadBy ls v
  why w = go (objections_marked ls (listed ls) v w)
    where
      by_statement : (k : ℕ) × (k < length ls) × StatementMarks v (get_or ls k spoiled) (get_or (fates ls) k kept) → UnreadBy ls v
      by_statement (k, h, m) = let (st, e, q, d) = as_statement v (get_or ls k spoiled) (get_or (fates ls) k kept) m in
          inl (k, st, (h, e), q, d)

      by_objection : (k : ℕ) × (k < length ls) × ObjectionMarks v (get_or ls k spoiled) (get_or (fates ls) k kept) → UnreadBy ls v
      by_objection (k, h, m) = let (o, e, q, d) = as_objection v (get_or ls k spoiled) (get_or (fates ls) k kept) m in
          inr (k, o, (h, e), q, told o (h, e) q d)
        where
          told : (o : ObjectionLine) → ObjectionAt ls k o → o.target ≡ v → TargetMarked (get_or (fates ls) k kept)
              → ((get_or (fates ls) k kept ≡ dropped unknown_number) × (¬ Issued (mended ls) o.objector))
              ⊎ (get_or (fates ls) k kept ≡ dropped objection_limit)
          told o at q (inl f) = inl (f, λ y. (unknown_exactly ls k o at).0 f (y, subst (Issued (mended ls)) (sym q) there))
          told o at q (inr f) = inr f

      go : Marked (listed ls).statements v ⊎ Some (ObjectionMarks v) ls (fates ls) → UnreadBy ls v
      go (inl w) = by_statement (some_at (StatementMarks v) ls (fates ls) (statements_marked ls (listed ls) v w))
      go (inr w) = by_objection (some_at (ObjectionMarks v) ls (fates ls) w)

  because : UnreadBy ls v → Marked (mended ls).statements v
  because (inl (k, st, (h, e), q, d)) =
      remains (ObjectionMarks v) (MarkedIfIssued v) (still_marked v) ls [] false (listed ls)
      (λ i. statements_mark ls (listed ls) v (some_by (StatementMarks v) ls (fates ls) k h
      (subst (λ l. StatementMarks v l (get_or (fates ls) k kept)) (sym e) (q, d)))) there
  because (inr (k, o, (h, e), q, d)) =
      comes (ObjectionMarks v) (MarkedIfIssued v) (still_marked v) ls [] false (listed ls)
      (some_by (ObjectionMarks v) ls (fates ls) k h
      (subst (λ l. ObjectionMarks v l (get_or (fates ls) k kept)) (sym e) (q, told d)))
      there
    where
      told : ((get_or (fates ls) k kept ≡ dropped unknown_number) × (¬ Issued (mended ls) o.objector))
          ⊎ (get_or (fates ls) k kept ≡ dropped objection_limit)
          → TargetMarked (get_or (fates ls) k kept)
      told (inl (f, n)) = inl f
      told (inr f) = inr f

  pub mark_exactly : (get_or (marks_of (mended ls)) x 0 ≡ 1) ↔ UnreadBy ls (get_or (numbers (mended ls)) x 0)
  unfolding v
  mark_exactly = (
    λ u. why (at_marked (mended ls).statements v x refl u),
    λ w. here
        (marked_at_lem (mended ls).statements v (because w)),
  )
    where
      here : (i : ℕ) × (i < length (mended ls).statements) × (get_or (numbers (mended ls)) i 0 ≡ v)
          × (get_or (marks_of (mended ls)) i 0 ≡ 1) → get_or (marks_of (mended ls)) x 0 ≡ 1
      here (i, l, e, u) = go (dec_lt i x) (dec_lt x i)
        where
          once : (i j : ℕ) → i < j → j < length (numbers (mended ls)) → get_or (numbers (mended ls)) i 0 ≡ get_or
              (numbers (mended ls)) j 0 → ⊥
          once = (mended_valid s ls p).once

          go : Dec (i < x) → Dec (x < i) → get_or (marks_of (mended ls)) x 0 ≡ 1
          go (yes a) d = absurd (once i x a h e)
          go (no a) (yes b) = absurd (once x i b (omega (arith, numbers_counted (mended ls))) (sym e))
          go (no a) (no b) = let q : i ≡ x = omega arith in subst (λ j. get_or (marks_of (mended ls)) j 0 ≡ 1) q u
