-- What `mend` makes of typed texts: the mended register and the report, for every cause, for lines that are moved, and for marks
-- that change and that don't. A row says what the program's promise says. Of the two limits it is said by texts too long to type.
use Rattle.std.specs.Prelude.{cond, List, [], ◌∷◌, ◌++◌, ℕ, suc, ◌<◌, eqb}
use Prim.Native.String.{String}
use Rattle.register.specs.Texts.{rows_to}
use Rattle.register.specs.Lines.{line_bytes, WellFormed}
use Rattle.register.specs.declared.Mark.TheVariants.{Read, Unread}
use Rattle.register.specs.declared.StatementLine.{StatementLine}
use Rattle.register.specs.declared.Line.TheVariants.{Statement, Objection}
use Rattle.promises.specs.Programs.{Mends, with_report}
use Rattle.examples.specs.Table.{ascii, in_parts}
use Rattle.examples.specs.Limits.{text_of, objection_at}

pub data MendRow : Type 0 where
  mends : (text printed report : String) → MendRow

abbrev pub Mending : MendRow → Type 0
Mending (mends text printed report) = Mends (ascii text) (with_report (ascii printed) (ascii report))

unfoldable pub mendings : List MendRow
mendings =
    -- "An accepted register comes back byte for byte with an empty report."
    mends "" "" ""
    ∷ mends "S\t1\tU\nS\t2\tR\nS\t3\tR\nO\t2\t1\nO\t1\t3\n" "S\t1\tU\nS\t2\tR\nS\t3\tR\nO\t2\t1\nO\t1\t3\n" ""
    -- 2 and 3: "Spoiled lines and an unended last line go, with no other effect."
    ∷ mends "S" "" "1\tdropped\t2\n"
    ∷ mends "S\t1\tR\nS\t1\tR" "S\t1\tR\n" "2\tdropped\t2\n"
    ∷ mends "S\t1\tR\nO\t9\t1" "S\t1\tR\n" "2\tdropped\t2\n"
    ∷ mends "\nS\t1\tR\n" "S\t1\tR\n" "1\tdropped\t3\n"
    ∷ mends "S\t1\tR\nS\t1\tr\nO\t1\t1\t1\nS\t2\tR\n\n" "S\t1\tR\nS\t2\tR\n" "2\tdropped\t3\n3\tdropped\t3\n5\tdropped\t3\n"
    -- a year number stays, where it is one
    ∷ mends "S\t1987.14\tR\nS\t1987.014\tR\nO\t1987.14\t1987.14\nS\t1987.14\tR\n" "S\t1987.14\tU\nO\t1987.14\t1987.14\n"
    "2\tdropped\t3\n4\tdropped\t5\n"
    -- 4: "A late statement (01's 4) moves behind the others", also behind an objection that goes; "lines that stay keep their
    -- order"
    ∷ mends "S\t1\tR\nO\t1\t1\nS\t2\tR\n" "S\t1\tR\nS\t2\tR\nO\t1\t1\n" "3\tmoved\t4\n"
    ∷ mends "O\t2\t1\nS\t1\tR\nO\t1\t2\nS\t2\tU\n" "S\t1\tR\nS\t2\tU\nO\t2\t1\nO\t1\t2\n" "2\tmoved\t4\n4\tmoved\t4\n"
    ∷ mends "O\t8\t9\nS\t1\tR\n" "S\t1\tR\n" "1\tdropped\t7\n2\tmoved\t4\n"
    -- 5: "A second one under a kept one's number goes (5 means this), and the first is marked unread", late or not
    ∷ mends "S\t101\tR\nS\t101\tR\n" "S\t101\tU\n" "2\tdropped\t5\n"
    ∷ mends "S\t1\tU\nS\t2\tR\nS\t1\tR\nS\t1\tR\n" "S\t1\tU\nS\t2\tR\n" "3\tdropped\t5\n4\tdropped\t5\n"
    ∷ mends "S\t1\tR\nO\t1\t1\nS\t1\tR\n" "S\t1\tU\nO\t1\t1\n" "3\tdropped\t5\n"
    ∷ mends "O\t1\t1\nS\t1\tR\nS\t1\tR\n" "S\t1\tU\nO\t1\t1\n" "2\tmoved\t4\n3\tdropped\t5\n"
    -- 7: "An objection from or against an unknown number goes"; "Where an objection goes for an unknown objector or for the
    -- limit, its target, if listed, is marked unread."
    ∷ mends "S\t1\tR\nO\t9\t1\n" "S\t1\tU\n" "2\tdropped\t7\n"
    ∷ mends "S\t1\tR\nO\t1\t9\n" "S\t1\tR\n" "2\tdropped\t7\n"
    ∷ mends "S\t1\tR\nO\t8\t9\n" "S\t1\tR\n" "2\tdropped\t7\n"
    ∷ mends "S\t1\tR\nS\t2\tR\nO\t2\t1\nO\t9\t1\n" "S\t1\tU\nS\t2\tR\nO\t2\t1\n" "4\tdropped\t7\n"
    -- 8: "as do repeats of a kept one", which marks nothing; a repeat of one that went is none; nor is one turned round
    ∷ mends "S\t1\tR\nS\t2\tR\nO\t2\t1\nO\t2\t1\n" "S\t1\tR\nS\t2\tR\nO\t2\t1\n" "4\tdropped\t8\n"
    ∷ mends "S\t1\tR\nO\t9\t1\nO\t9\t1\n" "S\t1\tU\n" "2\tdropped\t7\n3\tdropped\t7\n"
    ∷ mends "S\t1\tR\nS\t2\tR\nO\t1\t2\nO\t2\t1\nO\t1\t2\n" "S\t1\tR\nS\t2\tR\nO\t1\t2\nO\t2\t1\n" "5\tdropped\t8\n"
    -- "a line for each line dropped or moved, in text order"
    ∷ mends (in_parts "S\t5\tR\nS\t6\tR\nO\t5\t6\nobject 6 lost\nS\t7\tR\nS\t5\tR\n"
    "O\t6\t7\nO\t5\t6\nO\t31\t7\nO\t6\t40\nS\t8\tR")
    "S\t5\tU\nS\t6\tR\nS\t7\tU\nO\t5\t6\nO\t6\t7\n"
    (in_parts "4\tdropped\t3\n5\tmoved\t4\n6\tdropped\t5\n" "8\tdropped\t8\n9\tdropped\t7\n10\tdropped\t7\n11\tdropped\t2\n")
    ∷ []

-- The texts at the limits, with one line more. A statement past the 1,024th goes, whatever its number is, if it is new; an
-- objection past the 4,096th goes, here that of 64 against 2, and 2 is marked unread.
abbrev pub marked_at : ℕ → StatementLine
marked_at i = record { number = suc i; mark = cond (eqb i 1) Unread Read }

pub record MendLimits : Type 0 where
  pub past_statements : (st : StatementLine) → WellFormed (Statement st) → 1024 < st.number
      → Mends (text_of 1024 0 ++ line_bytes (Statement st)) (with_report (text_of 1024 0) (ascii "1025\tdropped\t6\n"))
  pub past_objections : Mends (text_of 65 4096 ++ ascii "O\t64\t2\n") (with_report
      (rows_to 65 (λ i. line_bytes (Statement (marked_at i))) ++ rows_to 4096 (λ i. line_bytes (Objection (objection_at i))))
      (ascii "4162\tdropped\t9\n"))
