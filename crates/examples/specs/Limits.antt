-- The limits of a text, "At most 65,535 bytes, 1,024 statements, 4,096 objections", by texts that are too long to type: those at
-- a limit are accepted, and those beyond it are refused, whatever is too much.
use Rattle.std.specs.Prelude.{List, ◌++◌, ℕ, suc, ◌/◌, ◌%◌, ◌<◌, length, replicate}
use Rattle.register.specs.Texts.{rows_to}
use Rattle.register.specs.Lines.{line_bytes, WellFormed}
use Rattle.register.specs.Register.{Register}
use Rattle.register.specs.Reads.{Accepts}
use Rattle.register.specs.declared.Mark.TheVariants.{Read}
use Rattle.register.specs.declared.StatementLine.{StatementLine}
use Rattle.register.specs.declared.ObjectionLine.{ObjectionLine}
use Rattle.register.specs.declared.Line.TheVariants.{Statement, Objection}
use Rattle.answer.specs.InC.{InC}
use Rattle.promises.specs.Programs.{Prints, Mends, no_report}
use Rattle.promises.specs.LabelCalls.{TextLabels}
use Rattle.promises.specs.MendCalls.{TextMend, Lent}
use Rattle.examples.specs.Table.{ascii}
use Rattle.examples.specs.ListsTable.{refuses}

-- the statements 1, 2, 3, .., all read; and objections among the first 65 of them, each against each
abbrev pub statement_at : ℕ → StatementLine
statement_at i = record { number = suc i; mark = Read }

abbrev pub objection_at : ℕ → ObjectionLine
objection_at i = record { objector = suc (i / 65); target = suc (i % 65) }

-- the text of n such statements and m such objections
abbrev pub text_of : (n m : ℕ) → List ℕ
text_of n m = rows_to n (λ i. line_bytes (Statement (statement_at i))) ++ rows_to m (λ i. line_bytes (Objection (objection_at i)))

pub record Limits : Type 0 where
  -- "text over 65,535 bytes", whatever it is; 65,535 line ends are refused for the first blank line
  pub long : (s : List ℕ) → 65535 < length s → Prints s (ascii "REFUSED\t1\t0\n")
  pub long_answered : (s room : List ℕ) → 65535 < length s → InC (λ a. TextLabels s room a room) (refuses 1 0)
  pub long_mended : (s : List ℕ) → 65535 < length s → Mends s (no_report (ascii "REFUSED\t1\t0\n"))
  pub long_mend_answered : (s : List ℕ) (lent : Lent) → 65535 < length s → InC (λ a. TextMend s lent a lent) (refuses 1 0)
  pub not_long : Prints (replicate 65535 10) (ascii "REFUSED\t3\t1\n")
  -- "1,024 statements accepted, 1,025 refused 6", whatever the number of the last
  pub statements : (R : Register) × Accepts (text_of 1024 0) R
  pub statement_more : (st : StatementLine) → WellFormed (Statement st)
      → Prints (text_of 1024 0 ++ line_bytes (Statement st)) (ascii "REFUSED\t6\t1025\n")
  -- "4,096 objections accepted, 4,097 refused 9", whoever objects to whom
  pub objections : (R : Register) × Accepts (text_of 65 4096) R
  pub objection_more : (o : ObjectionLine) → WellFormed (Objection o)
      → Prints (text_of 65 4096 ++ line_bytes (Objection o)) (ascii "REFUSED\t9\t4162\n")
