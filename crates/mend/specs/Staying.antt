-- What stays of a text, said by the fates of its lines alone: which lines they are, and which marks change.
use Rattle.std.specs.Prelude.{cond, List, [], ◌∷◌, ◌++◌, ◌⊎◌, ◌≡◌, ℕ, T, get_or}
use Rattle.register.specs.declared.Mark.TheVariants.{Unread}
use Rattle.register.specs.declared.StatementLine.{StatementLine}
use Rattle.register.specs.declared.ObjectionLine.{ObjectionLine}
use Rattle.register.specs.declared.Line.TheVariants.{Statement, Objection}
use Rattle.register.specs.Register.{Issued}
use Rattle.mend.specs.TextLines.{TextLine, good, spoiled, unended, StatementAt, ObjectionAt}
use Rattle.mend.specs.Fate.{Fate, kept, dropped, stays, second_statement, unknown_number, objection_limit}
use Rattle.mend.specs.Mended.{fates, mended}

abbrev pub statement_in : TextLine → List StatementLine
statement_in (good (Statement st)) = st ∷ []
statement_in (good (Objection o)) = []
statement_in spoiled = []
statement_in unended = []

abbrev pub objection_in : TextLine → List ObjectionLine
objection_in (good (Statement st)) = []
objection_in (good (Objection o)) = o ∷ []
objection_in spoiled = []
objection_in unended = []

-- the statement lines that stay, with their own marks, and the objection lines that stay, in text order
unfoldable pub statements_staying : List TextLine → List Fate → List StatementLine
statements_staying [] fs = []
statements_staying (l ∷ ls) [] = []
statements_staying (l ∷ ls) (f ∷ fs) = cond (stays f) (statement_in l) [] ++ statements_staying ls fs

unfoldable pub objections_staying : List TextLine → List Fate → List ObjectionLine
objections_staying [] fs = []
objections_staying (l ∷ ls) [] = []
objections_staying (l ∷ ls) (f ∷ fs) = cond (stays f) (objection_in l) [] ++ objections_staying ls fs

-- the good lines of a text, and their fates
unfoldable pub good_lines : List TextLine → List TextLine
good_lines [] = []
good_lines (good l ∷ ls) = good l ∷ good_lines ls
good_lines (spoiled ∷ ls) = good_lines ls
good_lines (unended ∷ ls) = good_lines ls

unfoldable pub good_fates : List TextLine → List Fate → List Fate
good_fates [] fs = []
good_fates (l ∷ ls) [] = []
good_fates (good l ∷ ls) (f ∷ fs) = f ∷ good_fates ls fs
good_fates (spoiled ∷ ls) (f ∷ fs) = good_fates ls fs
good_fates (unended ∷ ls) (f ∷ fs) = good_fates ls fs

-- What makes the mark of the kept statement n unread: its own line has U; a second statement under its number went; an
-- objection against it went for an unknown objector, or for the limit.
abbrev pub UnreadBy : List TextLine → ℕ → Type 0
UnreadBy ls n =
    ((k : ℕ) × (st : StatementLine) × StatementAt ls k st × (st.number ≡ n)
    × ((T (stays (get_or (fates ls) k kept)) × (st.mark ≡ Unread)) ⊎ (get_or (fates ls) k kept ≡ dropped second_statement)))
    ⊎ ((k : ℕ) × (o : ObjectionLine) × ObjectionAt ls k o × (o.target ≡ n)
    × (((get_or (fates ls) k kept ≡ dropped unknown_number) × (¬ Issued (mended ls) o.objector))
    ⊎ (get_or (fates ls) k kept ≡ dropped objection_limit)))
