-- What stays: the numbers of the statement lines that stay and the objection lines that stay, in text order; and how an
-- objection of the mended register comes from a line that stays.
use mathlib.Core.Bool.{Bool, true, false, cond}
use mathlib.Core.List.{List, map, append-nil, map-append, append_assoc, [], ◌∷◌, ◌++◌}
use mathlib.Core.Path.{refl, ◌≡◌, sym, ap, ◌∙◌}
use Prim.Native.Nat.{ℕ}
use Rattle.register.specs.declared.StatementLine.{StatementLine}
use Rattle.register.specs.declared.Line.TheVariants.{Statement, Objection}
use Rattle.register.specs.Register.{Register, numbers, bare}
use Rattle.register.proofs.OneMore.{with_objection_lem}
use Rattle.mend.specs.TextLines.{TextLine, good, spoiled, unended}
use Rattle.mend.specs.Fate.{kept, stays}
use Rattle.mend.specs.Mended.{moved_if, with_statements, fates_from, settle_statement, unread_if, settle_objection, late_after}
use Rattle.mend.specs.Mended.{with_objections, unread, with_objection, mended, fates, listed}
use Rattle.mend.specs.Staying.{statements_staying, objections_staying, good_lines, good_fates}
use Rattle.mend.proofs.Settling.{statement_case, StatementCase, second, beyond, new, objection_case, ObjectionCase}
use Rattle.mend.proofs.Settling.{unknown, again, past, entered}
use Rattle.mend.proofs.Valid.{numbers_stay}

-- a late line that is kept stays
pub kept_stays : (late : Bool) → stays (moved_if late kept) ≡ true
kept_stays true = refl
kept_stays false = refl

abbrev numbers_of : List StatementLine → List ℕ
numbers_of S = map (λ (st : StatementLine). st.number) S

nothing : {A : Type 0} (b : Bool) → ◌≡◌ {A = List A} (cond b [] []) []
nothing true = refl
nothing false = refl

pub statements_from : (ls : List TextLine) (S : List StatementLine) (late : Bool) (R : Register)
    → numbers_of (with_statements S ls) ≡ numbers_of S ++ numbers_of (statements_staying ls (fates_from S late R ls))
unfolding with_statements fates_from statements_staying
statements_from [] S late R = sym (append-nil (numbers_of S))
statements_from (good (Statement st) ∷ ls) S late R = go (λ S. statements_from ls S late R) (statement_case S st)
  where
    go : ((S : List StatementLine)
        → numbers_of (with_statements S ls) ≡ numbers_of S ++ numbers_of (statements_staying ls (fates_from S late R ls)))
        → StatementCase S st → numbers_of (with_statements (settle_statement S st).1 ls) ≡ numbers_of S
        ++ numbers_of (cond (stays (moved_if late (settle_statement S st).0)) (st ∷ []) []
        ++ statements_staying ls (fates_from (settle_statement S st).1 late R ls))
    go on (second i e) =
        rw e
        (on (map (unread_if st.number) S)
        ∙ ap (λ u. u ++ numbers_of (statements_staying ls (fates_from (map (unread_if st.number) S) late R ls)))
        (numbers_stay st.number S))
    go on (beyond n l e) = rw e (on S)
    go on (new n l e) =
        rw (e, kept_stays late)
        (on (S ++ (st ∷ []))
        ∙ ap (λ u. u ++ numbers_of (statements_staying ls (fates_from (S ++ (st ∷ [])) late R ls)))
        (map-append (λ (t : StatementLine). t.number) S (st ∷ []))
        ∙ append_assoc (numbers_of S) (st.number ∷ []) (numbers_of (statements_staying ls
        (fates_from (S ++ (st ∷ [])) late R ls))))
statements_from (good (Objection o) ∷ ls) S late R =
    statements_from ls S true (settle_objection R o).1
    ∙ ap (λ u. numbers_of S ++ numbers_of (u ++ statements_staying ls (fates_from S true (settle_objection R o).1 ls)))
    (sym (nothing (stays (settle_objection R o).0)))
statements_from (spoiled ∷ ls) S late R = statements_from ls S (late_after late spoiled) R
statements_from (unended ∷ ls) S late R = statements_from ls S (late_after late unended) R

pub objections_from : (ls : List TextLine) (S : List StatementLine) (late : Bool) (R : Register)
    → (with_objections R ls).objections ≡ R.objections ++ objections_staying ls (fates_from S late R ls)
unfolding with_objections fates_from objections_staying
objections_from [] S late R = sym (append-nil R.objections)
objections_from (good (Statement st) ∷ ls) S late R =
    objections_from ls (settle_statement S st).1 late R
    ∙ ap (λ u. R.objections ++ (u ++ objections_staying ls (fates_from (settle_statement S st).1 late R ls)))
    (sym (nothing (stays (moved_if late (settle_statement S st).0))))
objections_from (good (Objection o) ∷ ls) S late R = go (λ R. objections_from ls S true R) (objection_case R o)
  where
    go : ((R : Register) → (with_objections R ls).objections ≡ R.objections ++ objections_staying ls (fates_from S true R ls))
        → ObjectionCase R o → (with_objections (settle_objection R o).1 ls).objections ≡ R.objections
        ++ (cond (stays (settle_objection R o).0) (o ∷ []) [] ++ objections_staying ls
        (fates_from S true (settle_objection R o).1 ls))
    go on (unknown n e) = rw e (on (unread o.target R))
    go on (again k h e) = rw e (on R)
    go on (past k h l e) = rw e (on (unread o.target R))
    go on (entered k h l e) =
        rw e (on (with_objection_lem R o)
        ∙ append_assoc R.objections (o ∷ []) (objections_staying ls (fates_from S true (with_objection_lem R o) ls)))
objections_from (spoiled ∷ ls) S late R = objections_from ls S (late_after late spoiled) R
objections_from (unended ∷ ls) S late R = objections_from ls S (late_after late unended) R

-- settling objections leaves the numbers
pub numbers_after : (R : Register) (l : TextLine) → numbers (with_objection R l) ≡ numbers R
numbers_after R (good (Statement st)) = refl
numbers_after R (good (Objection o)) = go (objection_case R o)
  where
    go : ObjectionCase R o → numbers (settle_objection R o).1 ≡ numbers R
    go (unknown n e) = rw e (numbers_stay o.target R.statements)
    go (again k h e) = rw e refl
    go (past k h l e) = rw e (numbers_stay o.target R.statements)
    go (entered k h l e) = rw e refl
numbers_after R spoiled = refl
numbers_after R unended = refl

pub numbers_settled : (ls : List TextLine) (R : Register) → numbers (with_objections R ls) ≡ numbers R
unfolding with_objections
numbers_settled [] R = refl
numbers_settled (l ∷ ls) R = numbers_settled ls (with_objection R l) ∙ numbers_after R l

-- "lines that stay keep their order"
pub statements_that_stay : (ls : List TextLine) → numbers (mended ls) ≡ numbers_of (statements_staying ls (fates ls))
statements_that_stay ls = numbers_settled ls (listed ls) ∙ statements_from ls [] false (listed ls)

pub objections_that_stay : (ls : List TextLine) → (mended ls).objections ≡ objections_staying ls (fates ls)
objections_that_stay ls = objections_from ls [] false (listed ls)

-- "Spoiled lines and an unended last line go, with no other effect": what is kept, and the fates of the good lines, are as if
-- those lines were not there.
same_statements : (ls : List TextLine) (S : List StatementLine) → with_statements S (good_lines ls) ≡ with_statements S ls
unfolding with_statements good_lines
same_statements [] S = refl
same_statements (good (Statement st) ∷ ls) S = same_statements ls (settle_statement S st).1
same_statements (good (Objection o) ∷ ls) S = same_statements ls S
same_statements (spoiled ∷ ls) S = same_statements ls S
same_statements (unended ∷ ls) S = same_statements ls S

same_register : (ls : List TextLine) (R : Register) → with_objections R (good_lines ls) ≡ with_objections R ls
unfolding with_objections good_lines
same_register [] R = refl
same_register (good (Statement st) ∷ ls) R = same_register ls R
same_register (good (Objection o) ∷ ls) R = same_register ls (settle_objection R o).1
same_register (spoiled ∷ ls) R = same_register ls R
same_register (unended ∷ ls) R = same_register ls R

same_fates : (ls : List TextLine) (S : List StatementLine) (late : Bool) (R : Register)
    → fates_from S late R (good_lines ls) ≡ good_fates ls (fates_from S late R ls)
unfolding fates_from good_lines good_fates
same_fates [] S late R = refl
same_fates (good (Statement st) ∷ ls) S late R =
    ap (λ fs. moved_if late (settle_statement S st).0 ∷ fs) (same_fates ls (settle_statement S st).1 late R)
same_fates (good (Objection o) ∷ ls) S late R =
    ap (λ fs. (settle_objection R o).0 ∷ fs) (same_fates ls S true (settle_objection R o).1)
same_fates (spoiled ∷ ls) S late R = same_fates ls S late R
same_fates (unended ∷ ls) S late R = same_fates ls S late R

pub no_other_effect : (ls : List TextLine) → (mended (good_lines ls) ≡ mended ls) ×
    (fates (good_lines ls) ≡ good_fates ls (fates ls))
no_other_effect ls =
    let e : listed (good_lines ls) ≡ listed ls = ap bare (same_statements ls []) in (
      same_register ls (listed (good_lines ls)) ∙ ap (λ R. with_objections R ls) e,
      ap (λ R. fates_from [] false R (good_lines ls)) e ∙ same_fates ls [] false (listed ls),
    )
