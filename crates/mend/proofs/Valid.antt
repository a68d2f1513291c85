-- What is left is a register in order, and as a text it is no longer than the text that was mended.
use mathlib.Core.Bool.{Bool, cond, true, false}
use mathlib.Core.List.{List, map, [], ◌∷◌, ◌++◌}
use mathlib.Core.Path.{refl, ap₂, ap, ◌≡◌}
use Prim.Native.Nat.{ℕ, ◌+◌, ◌≤◌}
use native.Mathlib.Omega.{arith}
use lib.Dec.{eqb}
use lib.ListN.{length, length-append, length-map}
use Rattle.register.specs.Number.{number_bytes, IsNumber}
use Rattle.register.specs.Lines.{line_bytes, mark_byte}
use Rattle.register.specs.declared.Mark.{Mark}
use Rattle.register.specs.declared.Mark.TheVariants.{Unread}
use Rattle.register.specs.declared.StatementLine.{StatementLine}
use Rattle.register.specs.declared.ObjectionLine.{ObjectionLine}
use Rattle.register.specs.declared.Line.{Line}
use Rattle.register.specs.declared.Line.TheVariants.{Statement, Objection}
use Rattle.register.specs.Register.{bytes, Register, Valid, bare, written}
use Rattle.register.specs.Reads.{Accepts}
use Rattle.register.proofs.OneMore.{valid_statement, valid_objection, empty_valid, written_statement, written_objection}
use Rattle.mend.specs.TextLines.{TextLine, LinesOf, good, spoiled, unended}
use Rattle.mend.specs.Mended.{unread_if, unread, settle_statement, settle_objection, with_statements, with_objections, mended}
use Rattle.mend.specs.Mended.{listed}
use Rattle.mend.proofs.Settling.{statement_case, StatementCase, second, beyond, new, objection_case, ObjectionCase}
use Rattle.mend.proofs.Settling.{unknown, again, past, entered}

-- a mark that changes leaves the number, and the size of the line
pub number_stays : (n : ℕ) (st : StatementLine) → (unread_if n st).number ≡ st.number
number_stays n st = go (eqb st.number n)
  where
    go : (b : Bool) → (cond b (record { number = st.number; mark = Unread }) st).number ≡ st.number
    go true = refl
    go false = refl

size_stays : (n : ℕ) (st : StatementLine) → length (line_bytes (Statement (unread_if n st))) ≡ length (line_bytes (Statement st))
size_stays n st = go (eqb st.number n)
  where
    size : (m : Mark) → length (number_bytes st.number ++ (9 ∷ mark_byte m ∷ 10 ∷ [])) ≡ length (number_bytes st.number) + 3
    size m = length-append (number_bytes st.number) (9 ∷ mark_byte m ∷ 10 ∷ [])

    go : (b : Bool) → length (line_bytes (Statement (cond b (record { number = st.number; mark = Unread }) st)))
        ≡ length (line_bytes (Statement st))
    go true = omega (arith, size Unread, size st.mark)
    go false = refl

pub numbers_stay : (n : ℕ) (S : List StatementLine)
    → map (λ (st : StatementLine). st.number) (map (unread_if n) S) ≡ map (λ (st : StatementLine). st.number) S
numbers_stay n [] = refl
numbers_stay n (st ∷ S) = ap₂ (λ a b. a ∷ b) (number_stays n st) (numbers_stay n S)

sizes_stay : (n : ℕ) (S : List StatementLine) (ms : List Line)
    → length (bytes (map Statement (map (unread_if n) S) ++ ms)) ≡ length (bytes (map Statement S ++ ms))
unfolding bytes
sizes_stay n [] ms = refl
sizes_stay n (st ∷ S) ms =
    omega (
      arith,
      length-append (line_bytes (Statement (unread_if n st))) (bytes (map Statement (map (unread_if n) S) ++ ms)),
      length-append (line_bytes (Statement st)) (bytes (map Statement S ++ ms)),
      size_stays n st,
      sizes_stay n S ms,
    )

pub valid_unread : (n : ℕ) (R : Register) → Valid R → Valid (unread n R)
valid_unread n R v = record {
  few_statements = omega (arith, length-map R.statements (unread_if n), v.few_statements);
  few_objections = v.few_objections;
  numbered = rw (numbers_stay n R.statements) v.numbered;
  once = rw (numbers_stay n R.statements) v.once;
  known = rw (numbers_stay n R.statements) v.known;
  distinct = v.distinct;
}

-- One line more.
statement_valid : (S : List StatementLine) (st : StatementLine) → IsNumber st.number → Valid (bare S)
    → Valid (bare (settle_statement S st).1)
statement_valid S st f v = go (statement_case S st)
  where
    go : StatementCase S st → Valid (bare (settle_statement S st).1)
    go (second i e) = rw e (valid_unread st.number (bare S) v)
    go (beyond n l e) = rw e v
    go (new n l e) = rw e (valid_statement S st v f l n)

objection_valid : (R : Register) (o : ObjectionLine) → Valid R → Valid (settle_objection R o).1
objection_valid R o v = go (objection_case R o)
  where
    go : ObjectionCase R o → Valid (settle_objection R o).1
    go (unknown n e) = rw e (valid_unread o.target R v)
    go (again k h e) = rw e v
    go (past k h l e) = rw e (valid_unread o.target R v)
    go (entered k h l e) = rw e (valid_objection R o v l k.0 k.1 h)

pub statements_valid : (s : List ℕ) (ls : List TextLine) (S : List StatementLine) → LinesOf s ls → Valid (bare S)
    → Valid (bare (with_statements S ls))
unfolding LinesOf with_statements
statements_valid s [] S p v = v
statements_valid s (good (Statement st) ∷ ls) S (rest, f, e, p) v =
    statements_valid rest ls (settle_statement S st).1 p (statement_valid S st f v)
statements_valid s (good (Objection o) ∷ ls) S (rest, f, e, p) v = statements_valid rest ls S p v
statements_valid s (spoiled ∷ ls) S (w, rest, u, e, none, p) v = statements_valid rest ls S p v
statements_valid s (unended ∷ ls) S (h, u, q) v = rw q v

pub objections_valid : (ls : List TextLine) (R : Register) → Valid R → Valid (with_objections R ls)
unfolding with_objections
objections_valid [] R v = v
objections_valid (good (Statement st) ∷ ls) R v = objections_valid ls R v
objections_valid (good (Objection o) ∷ ls) R v = objections_valid ls (settle_objection R o).1 (objection_valid R o v)
objections_valid (spoiled ∷ ls) R v = objections_valid ls R v
objections_valid (unended ∷ ls) R v = objections_valid ls R v

pub mended_valid : (s : List ℕ) (ls : List TextLine) → LinesOf s ls → Valid (mended ls)
mended_valid s ls p = objections_valid ls (listed ls) (statements_valid s ls [] p empty_valid)

-- How long it is: the objection lines of the text are counted by themselves.
objection_bytes : List TextLine → ℕ
objection_bytes [] = 0
objection_bytes (good (Statement st) ∷ ls) = objection_bytes ls
objection_bytes (good (Objection o) ∷ ls) = length (line_bytes (Objection o)) + objection_bytes ls
objection_bytes (spoiled ∷ ls) = objection_bytes ls
objection_bytes (unended ∷ ls) = objection_bytes ls

statement_size : (S : List StatementLine) (st : StatementLine)
    → length (written (bare (settle_statement S st).1)) ≤ length (written (bare S)) + length (line_bytes (Statement st))
statement_size S st = go (statement_case S st)
  where
    go : StatementCase S st
        → length (written (bare (settle_statement S st).1)) ≤ length (written (bare S)) + length (line_bytes (Statement st))
    go (second i e) = rw e (omega (arith, sizes_stay st.number S []))
    go (beyond n l e) = rw e (omega arith)
    go (new n l e) =
        rw e (omega (arith, ap length (written_statement S st), length-append (written (bare S)) (line_bytes (Statement st))))

objection_size : (R : Register) (o : ObjectionLine)
    → length (written (settle_objection R o).1) ≤ length (written R) + length (line_bytes (Objection o))
objection_size R o = go (objection_case R o)
  where
    same : length (written (unread o.target R)) ≡ length (written R)
    same = sizes_stay o.target R.statements (map Objection R.objections)

    go : ObjectionCase R o → length (written (settle_objection R o).1) ≤ length (written R) + length (line_bytes (Objection o))
    go (unknown n e) = rw e (omega (arith, same))
    go (again k h e) = rw e (omega arith)
    go (past k h l e) = rw e (omega (arith, same))
    go (entered k h l e) =
        rw e (omega (arith, ap length (written_objection R o), length-append (written R) (line_bytes (Objection o))))

statements_size : (s : List ℕ) (ls : List TextLine) (S : List StatementLine) → LinesOf s ls
    → length (written (bare (with_statements S ls))) + objection_bytes ls ≤ length (written (bare S)) + length s
unfolding LinesOf with_statements objection_bytes
statements_size s [] S p = omega arith
statements_size s (good (Statement st) ∷ ls) S (rest, f, e, p) =
    omega (
      arith,
      statements_size rest ls (settle_statement S st).1 p,
      statement_size S st,
      ap length e,
      length-append (line_bytes (Statement st)) rest,
    )
statements_size s (good (Objection o) ∷ ls) S (rest, f, e, p) =
    omega (arith, statements_size rest ls S p, ap length e, length-append (line_bytes (Objection o)) rest)
statements_size s (spoiled ∷ ls) S (w, rest, u, e, none, p) =
    omega (arith, statements_size rest ls S p, ap length e, length-append w (10 ∷ rest))
statements_size s (unended ∷ ls) S (h, u, q) = rw q (omega arith)

objections_size : (ls : List TextLine) (R : Register)
    → length (written (with_objections R ls)) ≤ length (written R) + objection_bytes ls
unfolding with_objections objection_bytes
objections_size [] R = omega arith
objections_size (good (Statement st) ∷ ls) R = objections_size ls R
objections_size (good (Objection o) ∷ ls) R =
    omega (arith, objections_size ls (settle_objection R o).1, objection_size R o)
objections_size (spoiled ∷ ls) R = objections_size ls R
objections_size (unended ∷ ls) R = objections_size ls R

pub never_longer : (s : List ℕ) (ls : List TextLine) → LinesOf s ls → length (written (mended ls)) ≤ length s
unfolding bytes
never_longer s ls p = omega (arith, objections_size ls (listed ls), statements_size s ls [] p)

-- "write an accepted register"
pub mended_accepted : (s : List ℕ) (ls : List TextLine) → length s ≤ 65535 → LinesOf s ls → Accepts (written (mended ls))
    (mended ls)
mended_accepted s ls h p = record {
  fits = omega (arith, never_longer s ls p);
  valid = mended_valid s ls p;
  is_written = refl;
}
