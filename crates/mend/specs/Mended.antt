-- What mending a text means: the fate of each of its lines, and the register that is left. "Statements are settled first, then
-- objections; lines that stay keep their order." What is reported of it is for others to say.
use Rattle.std.specs.Prelude.{Bool, cond, true, false, ◌&&◌, map, List, [], ◌∷◌, ◌++◌, ℕ, eqb, leb, length, get_or}
use Rattle.game.specs.Book.{any}
use Rattle.register.specs.declared.Mark.TheVariants.{Unread}
use Rattle.register.specs.declared.StatementLine.{StatementLine}
use Rattle.register.specs.declared.ObjectionLine.{ObjectionLine}
use Rattle.register.specs.declared.Line.TheVariants.{Statement, Objection}
use Rattle.register.specs.Register.{Register, numbers, objector_numbers, target_numbers, bare}
use Rattle.mend.specs.TextLines.{TextLine, good, spoiled, unended}
use Rattle.mend.specs.Fate.{Fate, kept, moved, dropped, stays, unended_line, spoiled_line, second_statement}
use Rattle.mend.specs.Fate.{statement_limit, unknown_number, repeat, objection_limit}

-- a number is on the register; it has an objection
abbrev pub issued : Register → ℕ → Bool
issued R n = any (length (numbers R)) (λ i. eqb (get_or (numbers R) i 0) n)

abbrev pub has : Register → ObjectionLine → Bool
has R o =
    any (length R.objections)
    (λ k. eqb (get_or (objector_numbers R) k 0) o.objector && eqb (get_or (target_numbers R) k 0) o.target)

-- the statement of a number marked unread, if it is listed
abbrev pub unread_if : ℕ → StatementLine → StatementLine
unread_if n st = cond (eqb st.number n) (record { number = st.number; mark = Unread }) st

abbrev pub unread : ℕ → Register → Register
unread n R = record { statements = map (unread_if n) R.statements; objections = R.objections }

-- A statement line, after the statements kept before it: its fate, and what is kept then. "A second one under a kept one's
-- number goes (5 means this), and the first is marked unread. Statements past the 1,024th kept one go."
unfoldable pub settle_statement : List StatementLine → StatementLine → Fate × List StatementLine
settle_statement S st =
    cond (issued (bare S) st.number) (dropped second_statement, map (unread_if st.number) S)
    (cond (leb 1024 (length S)) (dropped statement_limit, S) (kept, S ++ (st ∷ [])))

-- An objection line, after the objections kept before it and all statements kept. "An objection from or against an unknown
-- number goes, as do repeats of a kept one and objections past the 4,096th kept one. Where an objection goes for an unknown
-- objector or for the limit, its target, if listed, is marked unread."
unfoldable pub settle_objection : Register → ObjectionLine → Fate × Register
settle_objection R o =
    cond (issued R o.objector && issued R o.target)
    (cond (has R o) (dropped repeat, R)
    (cond (leb 4096 (length R.objections)) (dropped objection_limit, unread o.target R)
    (kept, record { statements = R.statements; objections = R.objections ++ (o ∷ []) })))
    (dropped unknown_number, unread o.target R)

-- "Spoiled lines and an unended last line go, with no other effect."
abbrev pub with_statement : List StatementLine → TextLine → List StatementLine
with_statement S (good (Statement st)) = (settle_statement S st).1
with_statement S (good (Objection o)) = S
with_statement S spoiled = S
with_statement S unended = S

abbrev pub with_objection : Register → TextLine → Register
with_objection R (good (Statement st)) = R
with_objection R (good (Objection o)) = (settle_objection R o).1
with_objection R spoiled = R
with_objection R unended = R

-- the statements kept, and the register then, after some lines more
unfoldable pub with_statements : List StatementLine → List TextLine → List StatementLine
with_statements S [] = S
with_statements S (l ∷ ls) = with_statements (with_statement S l) ls

unfoldable pub with_objections : Register → List TextLine → Register
with_objections R [] = R
with_objections R (l ∷ ls) = with_objections (with_objection R l) ls

abbrev pub listed : List TextLine → Register
listed ls = bare (with_statements [] ls)

abbrev pub mended : List TextLine → Register
mended ls = with_objections (listed ls) ls

-- "A late statement (01's 4) moves behind the others": one behind an objection line, also behind one that is dropped
abbrev pub late_after : Bool → TextLine → Bool
late_after late (good (Statement st)) = late
late_after late (good (Objection o)) = true
late_after late spoiled = late
late_after late unended = late

-- "a line moved and kept has 4"
abbrev pub moved_if : Bool → Fate → Fate
moved_if late fate = cond (stays fate && late) moved fate

-- the fate of a line, after the statements S and the register R kept before it
abbrev pub fate_of : List StatementLine → Bool → Register → TextLine → Fate
fate_of S late R (good (Statement st)) = moved_if late (settle_statement S st).0
fate_of S late R (good (Objection o)) = (settle_objection R o).0
fate_of S late R spoiled = dropped spoiled_line
fate_of S late R unended = dropped unended_line

unfoldable pub fates_from : List StatementLine → Bool → Register → List TextLine → List Fate
fates_from S late R [] = []
fates_from S late R (l ∷ ls) = fate_of S late R l ∷ fates_from (with_statement S l) (late_after late l) (with_objection R l) ls

abbrev pub fates : List TextLine → List Fate
fates ls = fates_from [] false (listed ls) ls
