-- The last promise: what falls or stands in the mended register does so, with no greater length, in every book that puts back
-- what went. And there is such a book for every choice of marks and objections.
use mathlib.Core.Bool.{Bool, cond, false, true, not, ◌&&◌}
use mathlib.Core.List.{List, map, [], ◌∷◌, ◌++◌}
use mathlib.Core.Logic.{inl, inr, ⊎_elim, ◌↔◌}
use mathlib.Core.Path.{sym, ap, refl, subst, ◌≡◌, ◌∙◌}
use Prim.Native.Nat.{ℕ, suc, zero, ◌+◌, ◌-◌, ◌≤◌, ◌<◌}
use native.Mathlib.Nat.{not-suc-le-zero, le_of_suc-le-suc}
use native.Mathlib.Decide.{dec_lt}
use native.Mathlib.Omega.{arith}
use lib.Dec.{T, eqb, eqb→eq, ltb}
use lib.ListN.{get_or, length, length-map, get_or-append}
use lib.Seq.{get_or-append-add}
use borrow.Author.Tests.{eq-eqb, lt-ltb, le-ltb}
use Rattle.game.specs.Book.{Objects, Book, book_of, Read, Listed, any}
use Rattle.game.specs.Label.{Means, falls, stands}
use Rattle.game.proofs.Search.{clash, refute, both, and_of, any_at, any_of}
use Rattle.game.proofs.Finish.{Extends, falls_still, stands_still}
use Rattle.register.specs.Lines.{mark_number}
use Rattle.register.specs.declared.StatementLine.{StatementLine}
use Rattle.register.specs.declared.ObjectionLine.{ObjectionLine}
use Rattle.register.specs.declared.Line.TheVariants.{Statement, Objection}
use Rattle.register.specs.Register.{Register, Valid, book, Has, numbers, marks_of, objector_numbers, Issued}
use Rattle.register.proofs.Order.{numbers_counted, marks_counted}
use Rattle.register.proofs.BookNumbers.{objects_has, has_objects}
use Rattle.register.proofs.Settled.{issued?, below?, same?, Settles}
use Rattle.mend.specs.TextLines.{TextLine, StatementAt, good, spoiled, unended, LinesOf, ObjectionAt}
use Rattle.mend.specs.Fate.{Fate, kept, stays}
use Rattle.mend.specs.Mended.{mended, fates}
use Rattle.mend.specs.Staying.{statements_staying, statement_in, UnreadBy}
use Rattle.mend.specs.Restored.{Restorable, Restored}
use Rattle.mend.proofs.Valid.{mended_valid}
use Rattle.mend.proofs.Staying.{statements_that_stay}
use Rattle.mend.proofs.Marks.{mark_exactly, unknown_exactly, unread_number}
use Rattle.mend.proofs.KeptObjections.{kept_line, line_kept}

-- a statement line that stays is a line of the text
pub staying_line : (ls : List TextLine) (fs : List Fate) (i : ℕ) → i < length (statements_staying ls fs) → (k : ℕ)
    × (st : StatementLine)
    × StatementAt ls k st × T (stays (get_or fs k kept))
    × (get_or (map (λ (t : StatementLine). t.number) (statements_staying ls fs)) i 0 ≡ st.number)
    × (get_or (map (λ (t : StatementLine). mark_number t.mark) (statements_staying ls fs)) i 0 ≡ mark_number st.mark)
unfolding statements_staying
staying_line [] fs i h = absurd (not-suc-le-zero h)
staying_line (l ∷ ls) [] i h = absurd (not-suc-le-zero h)
staying_line (l ∷ ls) (f ∷ fs) i h = go (stays f) refl l refl i h (staying_line ls fs)
  where
    Line : List StatementLine → ℕ → Type 0
    Line T' i =
        (k : ℕ) × (st : StatementLine) × StatementAt (l ∷ ls) k st × T (stays (get_or (f ∷ fs) k kept))
        × (get_or (map (λ (t : StatementLine). t.number) T') i 0 ≡ st.number)
        × (get_or (map (λ (t : StatementLine). mark_number t.mark) T') i 0 ≡ mark_number st.mark)

    Later : Type 0
    Later =
        (i : ℕ) → i < length (statements_staying ls fs) → (k : ℕ) × (st : StatementLine)
        × StatementAt ls k st × T (stays (get_or fs k kept))
        × (get_or (map (λ (t : StatementLine). t.number) (statements_staying ls fs)) i 0 ≡ st.number)
        × (get_or (map (λ (t : StatementLine). mark_number t.mark) (statements_staying ls fs)) i 0 ≡ mark_number st.mark)

    later : Later → (i : ℕ) → i < length (statements_staying ls fs) → Line (statements_staying ls fs) i
    later on i h = let (k, st, (j, e), t, a, b) = on i h in (suc k, st, (omega arith, e), t, a, b)

    go : (b : Bool) → stays f ≡ b → (l' : TextLine) → l ≡ l' → (i : ℕ)
        → i < length (cond b (statement_in l') [] ++ statements_staying ls fs) → Later
        → Line (cond b (statement_in l') [] ++ statements_staying ls fs) i
    go false e l' q i h on = later on i h
    go true e (good (Statement st)) q zero h on = (0, st, (omega arith, q), subst T (sym e) tt, refl, refl)
    go true e (good (Statement st)) q (suc i) h on =
        let (k, st', at, t, a, b) = later on i (le_of_suc-le-suc h) in (k, st', at, t, a, b)
    go true e (good (Objection o)) q i h on = later on i h
    go true e spoiled q i h on = later on i h
    go true e unended q i h on = later on i h

module _ (s : List ℕ) (ls : List TextLine) (p : LinesOf s ls) (ok : Restorable ls) (F : Book) (r : Restored ls F) where
  M : Register
  M = mended ls

  valid : Valid (mended ls)
  valid = mended_valid s ls p

  n : ℕ
  n = length (numbers (mended ls))

  names : List ℕ
  names = numbers (mended ls) ++ r.new

  book_size : (book (mended ls)).size ≡ n
  unfolding book_of n
  book_size = omega (arith, numbers_counted (mended ls), marks_counted (mended ls) valid)

  listed_name : (y : ℕ) → y < n → get_or names y 0 ≡ get_or (numbers (mended ls)) y 0
  unfolding n names
  listed_name y h = get_or-append (numbers (mended ls)) r.new 0 y h

  -- a mark that is read has no cause to be unread
  no_cause : (x : ℕ) → x < n → Read (book (mended ls)) x → ¬ UnreadBy ls (get_or (numbers (mended ls)) x 0)
  unfolding book_of n
  no_cause x h read u =
      clash (eqb (get_or (marks_of (mended ls)) x 0) 1)
      (subst T (sym (eq-eqb (get_or (marks_of (mended ls)) x 0) 1 ((mark_exactly s ls p x h).1 u))) tt) read

  keeps : (y x : ℕ) → Listed (book (mended ls)) x → Objects (book (mended ls)) y x → Objects F y x
  unfolding n names
  keeps y x h o =
      let h' : x < n = omega (arith, book_size) in
      let l' : y < n = omega (arith, book_size, o.0) in
      let (k, q, at, a, b, f) = kept_line ls (get_or (numbers (mended ls)) y 0) (get_or (numbers (mended ls)) x 0)
      (objects_has (mended ls) valid y x o) in
      let z : y < F.size = omega (arith, r.size) in
      (z, (r.objections y x z h').1 (k, q, at, a ∙ sym (listed_name y l'), b ∙ sym (listed_name x h')))

  adds_none : (y x : ℕ) → Listed (book (mended ls)) x → Read (book (mended ls)) x → Objects F y x → Objects (book (mended ls)) y x
  unfolding n names
  adds_none y x h read (z, t) = put ((r.objections y x z h').0 t)
    where
      h' : x < n
      h' = omega (arith, book_size, h)

      Put : Type 0
      Put = (k : ℕ) × (o : ObjectionLine) × ObjectionAt ls k o × (o.objector ≡ get_or names y 0) × (o.target ≡ get_or names x 0)

      old : (k : ℕ) (o : ObjectionLine) → ObjectionAt ls k o → o.objector ≡ get_or names y 0 → o.target ≡ get_or names x 0
          → get_or (fates ls) k kept ≡ kept → Dec (y < n) → Objects (book (mended ls)) y x
      old k o at a b f (yes l) =
          has_objects (mended ls) valid y x l h' (subst (λ u. Has (mended ls) u (get_or (numbers (mended ls)) x 0))
          (a ∙ listed_name y l) (subst (λ u. Has (mended ls) o.objector u) (b ∙ listed_name x h') (line_kept ls k o at f)))
      old k o at a b f (no l) =
          let e : y ≡ length (numbers (mended ls)) + (y - n) = omega arith in
          let q : get_or names y 0 ≡ get_or r.new (y - n) 0 = ap (λ j. get_or names j 0) e
          ∙ get_or-append-add (numbers (mended ls)) r.new (y - n) 0 in
          let (i, j, c, d) = line_kept ls k o at f in
          absurd (r.new_unknown (y - n) (omega (arith, r.size)) (subst (Issued (mended ls)) (c ∙ a ∙ q) (issued i j)))
        where
          issued : (i : ℕ) → i < length (mended ls).objections → Issued (mended ls) (get_or (objector_numbers (mended ls)) i 0)
          issued i j = (valid.known i j).0

      put : Put → Objects (book (mended ls)) y x
      put (k, o, at, a, b) =
          ⊎_elim (λ f. old k o at a b f (dec_lt y n)) (λ w. absurd (none w.0 w.1 w.2)) (ok k at.0)
        where
          none : (p : ObjectionLine) → ObjectionAt ls k p → ¬ Issued (mended ls) p.objector → ⊥
          none p at' u =
              let e : p ≡ o = cc in
              let u' : ¬ Issued (mended ls) o.objector = subst (λ q. ¬ Issued (mended ls) q.objector) e u in
              no_cause x h' read (inr (
                k,
                o,
                at,
                b ∙ listed_name x h',
                inl ((unknown_exactly ls k o at).1 (λ w. u' w.0), u'),
              ))

  stays_read : (x : ℕ) → Listed (book (mended ls)) x → Read (book (mended ls)) x → Read F x
  unfolding n
  stays_read x h read =
      subst (λ b. T (not b)) (sym (r.marks x h')) (refute (eqb own 1) (λ t. no_cause x h' read (cause (eqb→eq own 1 t))))
    where
      h' : x < n
      h' = omega (arith, book_size, h)

      own : ℕ
      own = get_or (map (λ (st : StatementLine). mark_number st.mark) (statements_staying ls (fates ls))) x 0

      cause : own ≡ 1 → UnreadBy ls (get_or (numbers (mended ls)) x 0)
      cause u =
          let e = statements_that_stay ls in
          let (k, st, at, t, a, b) = staying_line ls (fates ls) x (omega (
            arith,
            h',
            ap length e,
            length-map (statements_staying ls (fates ls)) (λ (t : StatementLine). t.number),
          )) in
          inl (k, st, at, sym (ap (λ ns. get_or ns x 0) e ∙ a), inl (t, unread_number st.mark (sym b ∙ u)))

  extends : Extends (book (mended ls)) F
  unfolding n
  extends = record {
    more = omega (arith, book_size, r.size);
    keeps = keeps;
    adds_none = adds_none;
    stays_read = stays_read;
  }

  -- "overturns no falls or stands of the mended register"
  pub restored_holds : (x : ℕ) → x < length (numbers (mended ls)) → ((k : ℕ) → Means (book (mended ls)) x (falls k) → (m : ℕ)
      × (m ≤ k) × Means F x (falls m)) ×
      ((k : ℕ) → Means (book (mended ls)) x (stands k) → (m : ℕ) × (m ≤ k) × Means F x (stands m))
  unfolding n
  restored_holds x h = (
    λ k w. falls_still (book (mended ls)) F extends k x (omega (arith, book_size)) w,
    λ k w. stands_still (book (mended ls)) F extends k x (omega (arith, book_size)) w,
  )

-- There is such a book. The unknown objectors of some lines, each once:
record Unknowns (R : Register) (ls : List TextLine) : Type 0 where
  pub new : List ℕ
  pub once : (i j : ℕ) → i < j → j < length new → get_or new i 0 ≡ get_or new j 0 → ⊥
  pub unknown : (i : ℕ) → i < length new → ¬ Issued R (get_or new i 0)
  pub objects : (i : ℕ) → i < length new → (k : ℕ) × (o : ObjectionLine) × ObjectionAt ls k o × (o.objector ≡ get_or new i 0)
  pub every : (k : ℕ) (o : ObjectionLine) → ObjectionAt ls k o → ¬ Issued R o.objector → (i : ℕ) × (i < length new)
      × (get_or new i 0 ≡ o.objector)

module _ (R : Register) (l : TextLine) (ls : List TextLine) (u : Unknowns R ls) where
  later_line : (y : ℕ) → (k : ℕ) × (o : ObjectionLine) × ObjectionAt ls k o × (o.objector ≡ y) → (k : ℕ) × (o : ObjectionLine)
      × ObjectionAt (l ∷ ls) k o × (o.objector ≡ y)
  later_line y (k, o, (h, e), q) = (suc k, o, (omega arith, e), q)

  -- no new number by this line
  passed : ((o : ObjectionLine) → l ≡ good (Objection o) → ¬ Issued R o.objector → (i : ℕ) × (i < length u.new)
      × (get_or u.new i 0 ≡ o.objector)) → Unknowns R (l ∷ ls)
  passed first = record {
    new = u.new;
    once = u.once;
    unknown = u.unknown;
    objects = λ i h. later_line (get_or u.new i 0) (u.objects i h);
    every = every;
  }
    where
      every : (k : ℕ) (o : ObjectionLine) → ObjectionAt (l ∷ ls) k o → ¬ Issued R o.objector → (i : ℕ) × (i < length u.new)
          × (get_or u.new i 0 ≡ o.objector)
      every zero o (h, e) w = first o e w
      every (suc k) o (h, e) w = u.every k o (le_of_suc-le-suc h, e) w

  -- a new one
  entered : (o : ObjectionLine) → l ≡ good (Objection o) → ¬ Issued R o.objector
      → ((i : ℕ) → i < length u.new → get_or u.new i 0 ≡ o.objector → ⊥) → Unknowns R (l ∷ ls)
  entered o e w fresh = record { new = o.objector ∷ u.new; once = once; unknown = unknown; objects = objects; every = every }
    where
      once : (i j : ℕ) → i < j → j < length (o.objector ∷ u.new) → get_or (o.objector ∷ u.new) i 0 ≡ get_or (o.objector ∷ u.new)
          j 0
          → ⊥
      once i zero h k q = not-suc-le-zero h
      once zero (suc j) h k q = fresh j (le_of_suc-le-suc k) (sym q)
      once (suc i) (suc j) h k q = u.once i j (le_of_suc-le-suc h) (le_of_suc-le-suc k) q

      unknown : (i : ℕ) → i < length (o.objector ∷ u.new) → ¬ Issued R (get_or (o.objector ∷ u.new) i 0)
      unknown zero h = w
      unknown (suc i) h = u.unknown i (le_of_suc-le-suc h)

      objects : (i : ℕ) → i < length (o.objector ∷ u.new) → (k : ℕ) × (p : ObjectionLine) × ObjectionAt (l ∷ ls) k p
          × (p.objector ≡ get_or (o.objector ∷ u.new) i 0)
      objects zero h = (0, o, (omega arith, e), refl)
      objects (suc i) h = later_line (get_or u.new i 0) (u.objects i (le_of_suc-le-suc h))

      every : (k : ℕ) (p : ObjectionLine) → ObjectionAt (l ∷ ls) k p → ¬ Issued R p.objector → (i : ℕ)
          × (i < length (o.objector ∷ u.new)) × (get_or (o.objector ∷ u.new) i 0 ≡ p.objector)
      every zero p (h, q) v = let z : o ≡ p = cc in (0, omega arith, ap (λ (a : ObjectionLine). a.objector) z)
      every (suc k) p (h, q) v = let (i, j, f) = u.every k p (le_of_suc-le-suc h, q) v in (suc i, omega arith, f)

  with_line_lem : (l' : TextLine) → l ≡ l' → Unknowns R (l ∷ ls)
  with_line_lem (good (Statement st)) e = passed (λ o q. let z : ◌≡◌ {A = ℕ} 0 1 = cc in absurd (omega arith))
  with_line_lem spoiled e = passed (λ o q. let z : ◌≡◌ {A = ℕ} 0 1 = cc in absurd (omega arith))
  with_line_lem unended e = passed (λ o q. let z : ◌≡◌ {A = ℕ} 0 1 = cc in absurd (omega arith))
  with_line_lem (good (Objection o)) e =
      go (issued? R o.objector) (below? (length u.new) (λ i. get_or u.new i 0 ≡ o.objector)
      (λ i. same? (get_or u.new i 0) o.objector))
    where
      go : Settles (Issued R o.objector) → Settles ((i : ℕ) × (i < length u.new) × (get_or u.new i 0 ≡ o.objector))
          → Unknowns R (l ∷ ls)
      go (inl i) d = passed (λ p q w. let z : o ≡ p = cc in absurd (w (subst (λ a. Issued R a.objector) z i)))
      go (inr w) (inl h) = passed (λ p q v. let z : o ≡ p = cc in (h.0, h.1, h.2 ∙ ap (λ (a : ObjectionLine). a.objector) z))
      go (inr w) (inr h) = entered o e w (λ i j q. h (i, j, q))

unknowns : (R : Register) (ls : List TextLine) → Unknowns R ls
unknowns R [] = record {
  new = [];
  once = λ i j h k. absurd (not-suc-le-zero k);
  unknown = λ i h. absurd (not-suc-le-zero h);
  objects = λ i h. absurd (not-suc-le-zero h);
  every = λ k o at. absurd (not-suc-le-zero at.0);
}
unknowns R (l ∷ ls) = with_line_lem R l ls (unknowns R ls) l refl

-- the line is an objection of y against x
unfoldable pub objects_at : TextLine → ℕ → ℕ → Bool
objects_at (good (Statement st)) y x = false
objects_at (good (Objection o)) y x = eqb o.objector y && eqb o.target x
objects_at spoiled y x = false
objects_at unended y x = false

line_objects : (l : TextLine) (y x : ℕ) → T (objects_at l y x) ↔
    ((o : ObjectionLine) × (l ≡ good (Objection o)) × (o.objector ≡ y)
    × (o.target ≡ x))
unfolding objects_at
line_objects (good (Statement st)) y x
    = (λ t. absurd t, λ w. let e = w.1 in let z : ◌≡◌ {A = ℕ} 0 1 = cc in absurd (omega arith))
line_objects spoiled y x = (λ t. absurd t, λ w. let e = w.1 in let z : ◌≡◌ {A = ℕ} 0 1 = cc in absurd (omega arith))
line_objects unended y x = (λ t. absurd t, λ w. let e = w.1 in let z : ◌≡◌ {A = ℕ} 0 1 = cc in absurd (omega arith))
line_objects (good (Objection o)) y x = (
  λ t. let (a, b) = both (eqb o.objector y) (eqb o.target x) t in
      (o, refl, eqb→eq o.objector y a, eqb→eq o.target x b),
  back,
)
  where
    back : (p : ObjectionLine) × (good (Objection o) ≡ good (Objection p)) × (p.objector ≡ y) × (p.target ≡ x)
        → T (eqb o.objector y && eqb o.target x)
    back (p, e, a, b) =
        let z : o ≡ p = cc in
        and_of (eqb o.objector y) (eqb o.target x)
        (subst T (sym (eq-eqb o.objector y (ap (λ (q : ObjectionLine). q.objector) z ∙ a))) tt)
        (subst T (sym (eq-eqb o.target x (ap (λ (q : ObjectionLine). q.target) z ∙ b))) tt)

-- some line of the text is an objection of y against x
unfoldable pub objects_in : List TextLine → ℕ → ℕ → Bool
objects_in ls y x = any (length ls) (λ k. objects_at (get_or ls k spoiled) y x)

pub lines_object : (ls : List TextLine) (y x : ℕ) → T (objects_in ls y x) ↔
    ((k : ℕ) × (o : ObjectionLine) × ObjectionAt ls k o × (o.objector ≡ y) × (o.target ≡ x))
unfolding objects_in
lines_object ls y x = (
  λ t. let (k, h, q) = any_at (length ls) (λ k. objects_at (get_or ls k spoiled) y x) t in
      let (o, e, a, b) = (line_objects (get_or ls k spoiled) y x).0 q in (k, o, (h, e), a, b),
  λ w. any_of (length ls) (λ k. objects_at (get_or ls k spoiled) y x) w.0 w.2.0
      ((line_objects (get_or ls w.0 spoiled) y x).1 (w.1, w.2.1, w.3, w.4)),
)

module _ (ls : List TextLine) (marks : ℕ → Bool) (against : ℕ → ℕ → Bool) where
  abbrev size : ℕ
  size = length (numbers (mended ls))

  new : List ℕ
  new = (unknowns (mended ls) ls).new

  abbrev own_mark : ℕ → Bool
  own_mark x = eqb (get_or (map (λ (st : StatementLine). mark_number st.mark) (statements_staying ls (fates ls))) x 0) 1

  put_back : ℕ → ℕ → Bool
  put_back y x = objects_in ls (get_or (numbers (mended ls) ++ new) y 0) (get_or (numbers (mended ls) ++ new) x 0)

  restored : Book
  restored = record {
    size = size + length new;
    unread = λ x. cond (ltb x size) (own_mark x) (marks (x - size));
    objects = λ y x. cond (ltb x size) (put_back y x) (against y (x - size));
  }

  -- "any marks and any objections against them"
  pub restored_any : (F : Book) × (r : Restored ls F) ×
      ((i : ℕ) → i < length r.new → F.unread (length (numbers (mended ls)) + i)
      ≡ marks i) × ((y i : ℕ) → i < length r.new → F.objects y (length (numbers (mended ls)) + i) ≡ against y i)
  unfolding new put_back restored
  restored_any = (
    restored,
    record {
      new = new;
      new_once = (unknowns (mended ls) ls).once;
      new_unknown = (unknowns (mended ls) ls).unknown;
      new_objects = (unknowns (mended ls) ls).objects;
      new_all = (unknowns (mended ls) ls).every;
      size = refl;
      marks = λ x h. rw (lt-ltb x size h) refl;
      objections =
          λ y x z h. rw (lt-ltb x size h)
          (lines_object ls (get_or (numbers (mended ls) ++ new) y 0) (get_or (numbers (mended ls) ++ new) x 0));
    },
    (λ i h. rw (le-ltb (size + i) size (omega arith)) (ap marks (let e : (size + i) - size ≡ i = omega arith in e))),
    λ y i h. rw (le-ltb (size + i) size (omega arith)) (ap (against y) (let e : (size + i) - size ≡ i = omega arith in e)),
  )
