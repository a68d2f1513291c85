-- A text of which every line is kept in its place is an accepted register and comes back byte for byte; and every line of an
-- accepted register is kept in its place.
use mathlib.Core.Bool.{Bool, false, true}
use mathlib.Core.List.{List, map, append_assoc, append-nil, map-append, [], ◌∷◌, ◌++◌}
use mathlib.Core.Path.{refl, sym, ap, ◌≡◌, subst, ◌∙◌}
use Prim.Native.Nat.{ℕ, suc, zero, ◌+◌, ◌<◌}
use native.Mathlib.Nat.{not-suc-le-zero, le_of_suc-le-suc}
use native.Mathlib.Omega.{arith}
use lib.ListN.{length, get_or, length-append, length-map, get_or-append}
use lib.Seq.{get_or_at}
use Rattle.register.specs.declared.StatementLine.{StatementLine}
use Rattle.register.specs.declared.ObjectionLine.{ObjectionLine}
use Rattle.register.specs.declared.Line.TheVariants.{Statement, Objection}
use Rattle.register.specs.Register.{Register, written, Valid, bare, numbers, Issued, Has, lines}
use Rattle.register.specs.Reads.{Accepts}
use Rattle.register.proofs.OneMore.{with_objection_lem, statements_alone}
use Rattle.register.proofs.Unique.{lines_formed}
use Rattle.mend.specs.TextLines.{TextLine, good, spoiled, unended, LinesOf}
use Rattle.mend.specs.Fate.{Fate, kept, unended_line, spoiled_line, second_statement, statement_limit, unknown_number}
use Rattle.mend.specs.Fate.{repeat, objection_limit}
use Rattle.mend.specs.Mended.{moved_if, with_statements, with_objections, settle_statement, settle_objection, fates_from, fates}
use Rattle.mend.specs.Mended.{mended, listed}
use Rattle.mend.proofs.TextLines.{lines_written, lines_once, written_lines}
use Rattle.mend.proofs.Settling.{statement_case, StatementCase, second, beyond, new, objection_case, ObjectionCase}
use Rattle.mend.proofs.Settling.{unknown, again, past, entered, settles_new, settles_kept}
use Rattle.mend.proofs.Fate.{dropped_not_kept, moved_not_kept}

-- the text lines of a register of these statements and objections, and that register
abbrev pub good_lines_lem : List StatementLine → List ObjectionLine → List TextLine
good_lines_lem A B = map good (map Statement A ++ map Objection B)

abbrev pub more_objections : Register → List ObjectionLine → Register
more_objections R B = record { statements = R.statements; objections = R.objections ++ B }

-- every line is kept in its place
abbrev pub AllKept : List Fate → List TextLine → Type 0
AllKept fs ls = (k : ℕ) → k < length ls → get_or fs k kept ≡ kept

not_late : (late : Bool) → moved_if late kept ≡ kept → late ≡ false
not_late true e = absurd (moved_not_kept e)
not_late false e = refl

-- What the lines are then, from some statements and a register on; behind an objection line there are only objections.
pub record Lined (S : List StatementLine) (late : Bool) (R : Register) (ls : List TextLine) : Type 0 where
  pub statements : List StatementLine
  pub objections : List ObjectionLine
  pub are : ls ≡ good_lines_lem statements objections
  pub stated : with_statements S ls ≡ S ++ statements
  pub objected : with_objections R ls ≡ more_objections R objections
  pub unlate : late ≡ true → statements ≡ []

statement_lined : (S : List StatementLine) (late : Bool) (R : Register) (st : StatementLine) (ls : List TextLine)
    → moved_if late (settle_statement S st).0 ≡ kept → Lined (settle_statement S st).1 late R ls
    → Lined S late R (good (Statement st) ∷ ls)
unfolding with_statements with_objections
statement_lined S late R st ls f on = go (statement_case S st)
  where
    go : StatementCase S st → Lined S late R (good (Statement st) ∷ ls)
    go (second i e) = absurd (dropped_not_kept second_statement (sym (ap (λ u. moved_if late u.0) e) ∙ f))
    go (beyond n l e) = absurd (dropped_not_kept statement_limit (sym (ap (λ u. moved_if late u.0) e) ∙ f))
    go (new n l e) = record {
      statements = st ∷ on.statements;
      objections = on.objections;
      are = ap (λ u. good (Statement st) ∷ u) on.are;
      stated = on.stated ∙ ap (λ u. u.1 ++ on.statements) e ∙ append_assoc S (st ∷ []) on.statements;
      objected = on.objected;
      unlate = λ h. absurd (clash (sym h ∙ not_late late (sym (ap (λ u. moved_if late u.0) e) ∙ f)));
    }
      where
        clash : true ≡ false → ⊥
        clash q = let z : ◌≡◌ {A = ℕ} 0 1 = cc in omega arith

objection_lined : (S : List StatementLine) (late : Bool) (R : Register) (o : ObjectionLine) (ls : List TextLine)
    → (settle_objection R o).0 ≡ kept → Lined S true (settle_objection R o).1 ls → Lined S late R (good (Objection o) ∷ ls)
unfolding with_statements with_objections
objection_lined S late R o ls f on = go (objection_case R o)
  where
    none : on.statements ≡ []
    none = on.unlate refl

    go : ObjectionCase R o → Lined S late R (good (Objection o) ∷ ls)
    go (unknown n e) = absurd (dropped_not_kept unknown_number (sym (ap (λ u. u.0) e) ∙ f))
    go (again k h e) = absurd (dropped_not_kept repeat (sym (ap (λ u. u.0) e) ∙ f))
    go (past k h l e) = absurd (dropped_not_kept objection_limit (sym (ap (λ u. u.0) e) ∙ f))
    go (entered k h l e) = record {
      statements = [];
      objections = o ∷ on.objections;
      are = ap (λ u. good (Objection o) ∷ u) (on.are ∙ ap (λ u. good_lines_lem u on.objections) none);
      stated = on.stated ∙ ap (λ u. S ++ u) none;
      objected =
          on.objected ∙ ap (λ u. more_objections u.1 on.objections) e
          ∙ ap (λ u. record { statements = R.statements; objections = u })
          (append_assoc R.objections (o ∷ []) on.objections);
      unlate = λ h. refl;
    }

lined : (ls : List TextLine) (S : List StatementLine) (late : Bool) (R : Register) → AllKept (fates_from S late R ls) ls
    → Lined S late R ls
unfolding with_statements with_objections fates_from
lined [] S late R f = record {
  statements = [];
  objections = [];
  are = refl;
  stated = sym (append-nil S);
  objected = ap (λ u. record { statements = R.statements; objections = u }) (sym (append-nil R.objections));
  unlate = λ h. refl;
}
lined (good (Statement st) ∷ ls) S late R f =
    statement_lined S late R st ls (f 0 (omega arith))
    (lined ls (settle_statement S st).1 late R (λ k h. f (suc k) (omega arith)))
lined (good (Objection o) ∷ ls) S late R f =
    objection_lined S late R o ls (f 0 (omega arith)) (lined ls S true (settle_objection R o).1 (λ k h. f (suc k) (omega arith)))
lined (spoiled ∷ ls) S late R f = absurd (dropped_not_kept spoiled_line (f 0 (omega arith)))
lined (unended ∷ ls) S late R f = absurd (dropped_not_kept unended_line (f 0 (omega arith)))

-- "An accepted register comes back byte for byte": where every line is kept, what is written is the text.
pub kept_text : (s : List ℕ) (ls : List TextLine) → LinesOf s ls → AllKept (fates ls) ls → written (mended ls) ≡ s
kept_text s ls p f =
    let on : Lined [] false (listed ls) ls = lined ls [] false (listed ls) f in
    let A : List StatementLine = on.statements in
    let B : List ObjectionLine = on.objections in
    let e : mended ls ≡ record { statements = A; objections = B } = on.objected
    ∙ ap (λ u. record { statements = u; objections = B }) on.stated in
    ap written e ∙ sym (lines_written s (map Statement A ++ map Objection B) (subst (LinesOf s) on.are p))

-- The lines of an accepted register. A statement of it is new after those before it, and so is an objection.
module _ (S : List StatementLine) (st : StatementLine) (A : List StatementLine) (v : Valid (bare (S ++ (st ∷ A)))) where
  abbrev numbers_of : List StatementLine → List ℕ
  numbers_of T = map (λ (t : StatementLine). t.number) T

  names : numbers (bare (S ++ (st ∷ A))) ≡ numbers_of S ++ (st.number ∷ numbers_of A)
  names = map-append (λ (t : StatementLine). t.number) S (st ∷ A)

  keeps_statement : settle_statement S st ≡ (kept, S ++ (st ∷ []))
  keeps_statement = settles_new S st none (omega (arith, v.few_statements, length-append S (st ∷ A)))
    where
      count : length (numbers_of S) ≡ length S
      count = length-map S (λ (t : StatementLine). t.number)

      none : ¬ Issued (bare S) st.number
      none (i, l, e) =
          v.once i (length (numbers_of S)) l
          (omega (arith, ap length names, length-append (numbers_of S) (st.number ∷ numbers_of A)))
          (ap (λ u. get_or u i 0) names ∙ get_or-append (numbers_of S) (st.number ∷ numbers_of A) 0 i l ∙ e
          ∙ sym (ap (λ u. get_or u (length (numbers_of S)) 0) names
          ∙ get_or_at (numbers_of S) st.number (numbers_of A) 0 (length (numbers_of S)) refl))

module _ (R : Register) (o : ObjectionLine) (B : List ObjectionLine) (v : Valid (more_objections R (o ∷ B))) where
  abbrev m : ℕ
  m = length R.objections

  -- a field of the objections
  module _ (f : ObjectionLine → ℕ) where
    field : map f (R.objections ++ (o ∷ B)) ≡ map f R.objections ++ (f o ∷ map f B)
    field = map-append f R.objections (o ∷ B)

    field_old : (k : ℕ) → k < m → get_or (map f (R.objections ++ (o ∷ B))) k 0 ≡ get_or (map f R.objections) k 0
    field_old k h =
        ap (λ u. get_or u k 0) field
        ∙ get_or-append (map f R.objections) (f o ∷ map f B) 0 k (omega (arith, length-map R.objections f))

    field_new : get_or (map f (R.objections ++ (o ∷ B))) m 0 ≡ f o
    field_new = ap (λ u. get_or u m 0) field ∙ get_or_at (map f R.objections) (f o) (map f B) 0 m (length-map R.objections f)

  keeps_objection : settle_objection R o ≡ (kept, with_objection_lem R o)
  keeps_objection =
      let c : length (R.objections ++ (o ∷ B)) ≡ m + suc (length B) = length-append R.objections (o ∷ B) in
      let (y, x) = v.known m (omega arith) in
      settles_kept R o (
        subst (Issued R) (field_new (λ (p : ObjectionLine). p.objector)) y,
        subst (Issued R) (field_new (λ (p : ObjectionLine). p.target)) x,
      ) none (omega (arith, v.few_objections))
    where
      none : ¬ Has R o.objector o.target
      none (k, h, a, b) =
          v.distinct k m h (omega (arith, length-append R.objections (o ∷ B)))
          (field_old (λ (p : ObjectionLine). p.objector) k h ∙ a ∙ sym (field_new (λ (p : ObjectionLine). p.objector)))
          (field_old (λ (p : ObjectionLine). p.target) k h ∙ b ∙ sym (field_new (λ (p : ObjectionLine). p.target)))

-- so all are kept
objections_kept : (B : List ObjectionLine) (S : List StatementLine) (late : Bool) (R : Register) → Valid (more_objections R B)
    → AllKept (fates_from S late R (good_lines_lem [] B)) (good_lines_lem [] B)
unfolding fates_from
objections_kept [] S late R v k h = absurd (not-suc-le-zero h)
objections_kept (o ∷ B) S late R v zero h = ap (λ u. u.0) (keeps_objection R o B v)
objections_kept (o ∷ B) S late R v (suc k) h =
    objections_kept B S true (settle_objection R o).1 (subst (λ Q. Valid (more_objections Q B))
    (sym (ap (λ u. u.1) (keeps_objection R o B v))) (subst (λ u. Valid (record { statements = R.statements; objections = u }))
    (sym (append_assoc R.objections (o ∷ []) B)) v)) k (le_of_suc-le-suc h)

pub lines_kept : (A : List StatementLine) (S : List StatementLine) (B : List ObjectionLine) (R : Register) → Valid (bare (S ++ A))
    → Valid (more_objections R B) → AllKept (fates_from S false R (good_lines_lem A B)) (good_lines_lem A B)
unfolding fates_from
lines_kept [] S B R v w k h = objections_kept B S false R w k h
lines_kept (st ∷ A) S B R v w zero h = ap (λ u. moved_if false u.0) (keeps_statement S st A v)
lines_kept (st ∷ A) S B R v w (suc k) h =
    lines_kept A (settle_statement S st).1 B R
    (subst (λ T. Valid (bare (T ++ A))) (sym (ap (λ u. u.1) (keeps_statement S st A v)))
    (subst (λ u. Valid (bare u)) (sym (append_assoc S (st ∷ []) A)) v)) w k (le_of_suc-le-suc h)

pub statements_are : (A : List StatementLine) (S : List StatementLine) (B : List ObjectionLine) → Valid (bare (S ++ A))
    → with_statements S (good_lines_lem A B) ≡ S ++ A
unfolding with_statements
statements_are [] S [] v = sym (append-nil S)
statements_are [] S (o ∷ B) v = statements_are [] S B v
statements_are (st ∷ A) S B v =
    statements_are A (settle_statement S st).1 B
    (subst (λ T. Valid (bare (T ++ A))) (sym (ap (λ u. u.1) (keeps_statement S st A v)))
    (subst (λ u. Valid (bare u)) (sym (append_assoc S (st ∷ []) A)) v))
    ∙ ap (λ u. u.1 ++ A) (keeps_statement S st A v) ∙ append_assoc S (st ∷ []) A

pub objections_are : (A : List StatementLine) (B : List ObjectionLine) (R : Register) → Valid (more_objections R B)
    → with_objections R (good_lines_lem A B) ≡ more_objections R B
unfolding with_objections
objections_are [] [] R v = ap (λ u. record { statements = R.statements; objections = u }) (sym (append-nil R.objections))
objections_are [] (o ∷ B) R v =
    objections_are [] B (settle_objection R o).1 (subst (λ Q. Valid (more_objections Q B))
    (sym (ap (λ u. u.1) (keeps_objection R o B v))) (subst (λ u. Valid (record { statements = R.statements; objections = u }))
    (sym (append_assoc R.objections (o ∷ []) B)) v))
    ∙ ap (λ u. more_objections u.1 B) (keeps_objection R o B v)
    ∙ ap (λ u. record { statements = R.statements; objections = u }) (append_assoc R.objections (o ∷ []) B)
objections_are (st ∷ A) B R v = objections_are A B R v

pub accepted_kept : (s : List ℕ) (R : Register) (ls : List TextLine) → Accepts s R → LinesOf s ls → AllKept (fates ls) ls
accepted_kept s R ls a p =
    let A : List StatementLine = R.statements in
    let B : List ObjectionLine = R.objections in
    let e : ls ≡ good_lines_lem A B = lines_once s ls (good_lines_lem A B) p
    (subst (λ u. LinesOf u (good_lines_lem A B)) (sym a.is_written) (written_lines (lines R) (lines_formed R a.valid))) in
    let v : Valid (bare A) = statements_alone R a.valid in
    let q : listed (good_lines_lem A B) ≡ bare A = ap bare (statements_are A [] B v) in
    subst (λ u. AllKept (fates u) u) (sym e) (lines_kept A [] B (listed (good_lines_lem A B)) v
    (subst (λ Q. Valid (more_objections Q B)) (sym q) a.valid))
