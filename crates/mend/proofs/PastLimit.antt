-- A register in order that is full, with one line more behind it: that line alone goes, and is reported with the number of its
-- limit.
use mathlib.Core.Bool.{Bool, false}
use mathlib.Core.List.{List, map, map-append, append-nil, [], ◌∷◌, ◌++◌}
use mathlib.Core.Path.{refl, ap, subst₂, ◌≡◌, ◌∙◌}
use Prim.Native.Nat.{suc, ◌+◌}
use native.Mathlib.Omega.{arith}
use lib.ListN.{length, length-append, length-map}
use Rattle.register.specs.declared.StatementLine.{StatementLine}
use Rattle.register.specs.declared.ObjectionLine.{ObjectionLine}
use Rattle.register.specs.declared.Line.{Line}
use Rattle.register.specs.declared.Line.TheVariants.{Statement, Objection}
use Rattle.register.specs.Lines.{WellFormed, line_bytes}
use Rattle.register.specs.Register.{Register, Valid, Issued, Has, bare, lines, bytes, written}
use Rattle.register.proofs.OneMore.{bytes_append, statements_alone}
use Rattle.register.proofs.Unique.{formed_append, lines_formed}
use Rattle.mend.specs.TextLines.{TextLine, good, LinesOf}
use Rattle.mend.specs.Fate.{Fate, dropped, statement_limit, objection_limit}
use Rattle.mend.specs.Mended.{with_statement, with_statements, with_objection, with_objections, late_after, fate_of, fates_from}
use Rattle.mend.specs.Mended.{fates, listed, mended, moved_if, settle_statement, settle_objection, unread}
use Rattle.mend.specs.Report.{row_of, report_of}
use Rattle.mend.proofs.TextLines.{written_lines}
use Rattle.mend.proofs.AllLines.{fates_counted}
use Rattle.mend.proofs.Accepted.{lines_kept, statements_are, objections_are}
use Rattle.mend.proofs.Causes.{late_in}
use Rattle.mend.proofs.Report.{last_reported}
use Rattle.mend.proofs.Settling.{settles_beyond, settles_past}

-- some lines, and then others
statements_append : (ls ms : List TextLine) (S : List StatementLine)
    → with_statements S (ls ++ ms) ≡ with_statements (with_statements S ls) ms
unfolding with_statements
statements_append [] ms S = refl
statements_append (l ∷ ls) ms S = statements_append ls ms (with_statement S l)

objections_append : (ls ms : List TextLine) (R : Register)
    → with_objections R (ls ++ ms) ≡ with_objections (with_objections R ls) ms
unfolding with_objections
objections_append [] ms R = refl
objections_append (l ∷ ls) ms R = objections_append ls ms (with_objection R l)

fates_append : (ls ms : List TextLine) (S : List StatementLine) (late : Bool) (R : Register)
    → fates_from S late R (ls ++ ms)
    ≡ fates_from S late R ls ++ fates_from (with_statements S ls) (late_in late ls) (with_objections R ls) ms
unfolding with_statements with_objections fates_from late_in
fates_append [] ms S late R = refl
fates_append (l ∷ ls) ms S late R =
    ap (λ fs. fate_of S late R l ∷ fs) (fates_append ls ms (with_statement S l) (late_after late l) (with_objection R l))

-- the lines of a register, and one more
abbrev pub with_line : Register → Line → List TextLine
with_line R l = map good (lines R) ++ (good l ∷ [])

pub lines_more : (R : Register) → Valid R → (l : Line) → WellFormed l → LinesOf (written R ++ line_bytes l) (with_line R l)
unfolding bytes
lines_more R valid l w =
    subst₂ (λ s ls. LinesOf s ls)
    (bytes_append (lines R) (l ∷ []) ∙ ap (λ u. written R ++ u) (append-nil (line_bytes l)))
    (map-append good (lines R) (l ∷ []))
    (written_lines (lines R ++ (l ∷ [])) (formed_append (lines R) (l ∷ []) (lines_formed R valid) (w, tt)))

-- The line goes with this fate, and the lines before it are kept, where it adds no statement.
module _ (R : Register) (valid : Valid R) (l : Line) where
  same_statements : with_statement R.statements (good l) ≡ R.statements → listed (with_line R l) ≡ bare R.statements
  unfolding with_statements
  same_statements e =
      ap bare (statements_append (map good (lines R)) (good l ∷ []) []
      ∙ ap (λ S. with_statement S (good l)) (statements_are R.statements [] R.objections (statements_alone R valid)) ∙ e)

  module _ (e : with_statement R.statements (good l) ≡ R.statements) where
    before : with_objections (bare R.statements) (map good (lines R)) ≡ R
    before = objections_are R.statements R.objections (bare R.statements) valid

    mended_before : mended (with_line R l) ≡ with_objection R (good l)
    unfolding with_objections
    mended_before =
        ap (λ Q. with_objections Q (with_line R l)) (same_statements e)
        ∙ objections_append (map good (lines R)) (good l ∷ []) (bare R.statements) ∙ ap (λ Q. with_objection Q (good l)) before

    module _ (f : Fate) (late : Bool) (is-late : late_in false (map good (lines R)) ≡ late)
        (is : fate_of R.statements late R (good l) ≡ f) where
      first : List Fate
      first = fates_from [] false (bare R.statements) (map good (lines R))

      fates_are : fates (with_line R l) ≡ first ++ (f ∷ [])
      unfolding fates_from first
      fates_are =
          ap (λ Q. fates_from [] false Q (with_line R l)) (same_statements e)
          ∙ fates_append (map good (lines R)) (good l ∷ []) [] false (bare R.statements)
          ∙ ap (λ g. first ++ (g ∷ [])) there
        where
          there : fate_of (with_statements [] (map good (lines R))) (late_in false (map good (lines R)))
              (with_objections (bare R.statements) (map good (lines R))) (good l) ≡ f
          there =
              ap (λ S. fate_of S (late_in false (map good (lines R))) (with_objections (bare R.statements) (map good (lines R)))
              (good l)) (statements_are R.statements [] R.objections (statements_alone R valid))
              ∙ ap (λ b. fate_of R.statements b (with_objections (bare R.statements) (map good (lines R))) (good l)) is-late
              ∙ ap (λ Q. fate_of R.statements late Q (good l)) before ∙ is

      one_reported : report_of (fates (with_line R l)) ≡ row_of (suc (length (lines R))) f
      unfolding first
      one_reported =
          ap report_of fates_are
          ∙ last_reported first f (λ k h. lines_kept R.statements [] R.objections (bare R.statements)
          (statements_alone R valid) valid k (omega (arith, counted)))
          ∙ ap (λ n. row_of (suc n) f) (counted ∙ length-map (lines R) good)
        where
          counted : length first ≡ length (map good (lines R))
          counted = fates_counted (map good (lines R)) [] false (bare R.statements)

-- "Statements past the 1,024th kept one go"
pub statement_past : (A : List StatementLine) (st : StatementLine) → Valid (bare A) → length A ≡ 1024
    → ¬ Issued (bare A) st.number → (mended (with_line (bare A) (Statement st)) ≡ bare A) ×
    (report_of (fates (with_line (bare A) (Statement st))) ≡ row_of 1025 (dropped statement_limit))
statement_past A st valid full n =
    let q : settle_statement A st ≡ (dropped statement_limit, A) = settles_beyond A st n (omega (arith, full)) in
    let e : (settle_statement A st).1 ≡ A = ap (λ u. u.1) q in (
      mended_before (bare A) valid (Statement st) e,
      one_reported (bare A) valid (Statement st) e (dropped statement_limit) _ refl (dropped_late _ (ap (λ u. u.0) q))
          ∙ ap (λ n. row_of (suc n) (dropped statement_limit)) counted,
    )
  where
    dropped_late : (late : Bool) → (settle_statement A st).0 ≡ dropped statement_limit
        → moved_if late (settle_statement A st).0 ≡ dropped statement_limit
    dropped_late late e = ap (moved_if late) e

    counted : length (lines (bare A)) ≡ 1024
    counted = omega (arith, length-append (map Statement A) [], length-map A Statement, full)

-- "objections past the 4,096th kept one"; "Where an objection goes .. for the limit, its target, if listed, is marked unread."
pub objection_past : (R : Register) (o : ObjectionLine) → Valid R → length R.objections ≡ 4096
    → Issued R o.objector × Issued R o.target → ¬ Has R o.objector o.target
    → (mended (with_line R (Objection o)) ≡ unread o.target R) ×
    (report_of (fates (with_line R (Objection o))) ≡ row_of (suc (length R.statements + 4096)) (dropped objection_limit))
objection_past R o valid full known none =
    let q : settle_objection R o ≡ (dropped objection_limit, unread o.target R) = settles_past R o known none
    (omega (arith, full)) in (
      mended_before R valid (Objection o) refl ∙ ap (λ u. u.1) q,
      one_reported R valid (Objection o) refl (dropped objection_limit) _ refl (ap (λ u. u.0) q)
          ∙ ap (λ n. row_of (suc n) (dropped objection_limit)) counted,
    )
  where
    counted : length (lines R) ≡ length R.statements + 4096
    counted =
        omega (
          arith,
          length-append (map Statement R.statements) (map Objection R.objections),
          length-map R.statements Statement,
          length-map R.objections Objection,
          full,
        )
