-- The statement lines that a register's numbers come from: each number of an accepted register is that of a statement line of its
-- text, and no line issues another; and each number of a mended register is that of a statement line of the text that was mended.
use mathlib.Core.List.{List, map, [], ◌∷◌, ◌++◌}
use mathlib.Core.Logic.{inl, inr, ◌⊎◌}
use mathlib.Core.Path.{ap, refl, sym, ◌≡◌, ◌∙◌}
use Prim.Native.Nat.{ℕ, zero, suc, ◌<◌}
use native.Mathlib.Nat.{not-suc-le-zero, le_of_suc-le-suc}
use native.Mathlib.Omega.{arith}
use lib.ListN.{length, get_or}
use Rattle.register.specs.declared.StatementLine.{StatementLine}
use Rattle.register.specs.declared.ObjectionLine.{ObjectionLine}
use Rattle.register.specs.declared.Line.{Line}
use Rattle.register.specs.declared.Line.TheVariants.{Statement, Objection}
use Rattle.register.specs.Register.{Register, Issued, lines, numbers, bare}
use Rattle.register.proofs.OneMore.{numbers_more, old_or_last}
use Rattle.mend.specs.TextLines.{TextLine, good, spoiled, unended, StatementAt}
use Rattle.mend.specs.Mended.{mended, listed, with_statement, with_statements, settle_statement}
use Rattle.mend.proofs.Settling.{statement_case, StatementCase, second, beyond, new}
use Rattle.mend.proofs.Staying.{numbers_settled}
use Rattle.mend.proofs.Valid.{numbers_stay}
use Rattle.mend.proofs.Marks.{issued_same}

abbrev IssuesLine : List TextLine → ℕ → Type 0
IssuesLine ls n = (k : ℕ) × (st : StatementLine) × StatementAt ls k st × (st.number ≡ n)

-- one line more in front
further : (l : TextLine) (ls : List TextLine) (n : ℕ) → IssuesLine ls n → IssuesLine (l ∷ ls) n
further l ls n (k, st, (h, e), q) = (suc k, st, (omega arith, e), q)

-- Of a register's own lines.
among : (S : List StatementLine) (more : List Line) (n i : ℕ) → i < length (map (λ (st : StatementLine). st.number) S)
    → get_or (map (λ (st : StatementLine). st.number) S) i 0 ≡ n → IssuesLine (map good (map Statement S ++ more)) n
among [] more n i h e = absurd (not-suc-le-zero h)
among (st ∷ S) more n zero h e = (0, st, (omega arith, refl), e)
among (st ∷ S) more n (suc i) h e =
    further (good (Statement st)) (map good (map Statement S ++ more)) n (among S more n i (le_of_suc-le-suc h) e)

pub issued_line : (R : Register) (n : ℕ) → Issued R n → (k : ℕ) × (st : StatementLine) × StatementAt (map good (lines R)) k st
    × (st.number ≡ n)
issued_line R n (i, h, e) = among R.statements (map Objection R.objections) n i h e

no_statement : (O : List ObjectionLine) (k : ℕ) (st : StatementLine) → ¬ StatementAt (map good (map Objection O)) k st
no_statement [] k st (h, e) = not-suc-le-zero h
no_statement (o ∷ O) zero st (h, e) = let z : ◌≡◌ {A = ℕ} 0 1 = cc in omega arith
no_statement (o ∷ O) (suc k) st (h, e) = no_statement O k st (le_of_suc-le-suc h, e)

issued_in : (S : List StatementLine) (O : List ObjectionLine) (k : ℕ) (st : StatementLine)
    → StatementAt (map good (map Statement S ++ map Objection O)) k st → Issued (bare S) st.number
issued_in [] O k st p = absurd (no_statement O k st p)
issued_in (t ∷ S) O zero st (h, e) = let q : t ≡ st = cc in (0, omega arith, ap (λ (u : StatementLine). u.number) q)
issued_in (t ∷ S) O (suc k) st (h, e) =
    let (i, l, q) = issued_in S O k st (le_of_suc-le-suc h, e) in (suc i, omega arith, q)

pub line_issued : (R : Register) (k : ℕ) (st : StatementLine) → StatementAt (map good (lines R)) k st → Issued R st.number
line_issued R = issued_in R.statements R.objections

-- Of a mended register: settling statement lines takes numbers from nowhere else.
settled_from : (S : List StatementLine) (st : StatementLine) (n : ℕ) → Issued (bare (settle_statement S st).1) n
    → Issued (bare S) n ⊎ (st.number ≡ n)
settled_from S st n = go (statement_case S st)
  where
    more : Issued (bare (S ++ (st ∷ []))) n → Issued (bare S) n ⊎ (st.number ≡ n)
    more (i, h, e) = at (old_or_last (numbers (bare S)) st.number i (rw (numbers_more S st) at h))
      where
        at : ((i < length (numbers (bare S))) × (get_or (numbers (bare S) ++ (st.number ∷ [])) i 0 ≡ get_or (numbers (bare S)) i
            0))
            ⊎ ((i ≡ length (numbers (bare S))) × (get_or (numbers (bare S) ++ (st.number ∷ [])) i 0 ≡ st.number))
            → Issued (bare S) n ⊎ (st.number ≡ n)
        at (inl (l, q)) = inl (i, l, sym q ∙ sym (ap (λ u. get_or u i 0) (numbers_more S st)) ∙ e)
        at (inr (l, q)) = inr (sym q ∙ sym (ap (λ u. get_or u i 0) (numbers_more S st)) ∙ e)

    go : StatementCase S st → Issued (bare (settle_statement S st).1) n → Issued (bare S) n ⊎ (st.number ≡ n)
    go (second i e) = rw e (λ w. inl (rw (numbers_stay st.number S) at w))
    go (beyond i l e) = rw e (λ w. inl w)
    go (new i l e) = rw e more

line_from : (S : List StatementLine) (l : TextLine) (ls : List TextLine) (n : ℕ) → Issued (bare (with_statement S l)) n
    → Issued (bare S) n ⊎ IssuesLine (l ∷ ls) n
line_from S (good (Statement st)) ls n w = go (settled_from S st n w)
  where
    go : Issued (bare S) n ⊎ (st.number ≡ n) → Issued (bare S) n ⊎ IssuesLine (good (Statement st) ∷ ls) n
    go (inl i) = inl i
    go (inr e) = inr (0, st, (omega arith, refl), e)
line_from S (good (Objection o)) ls n w = inl w
line_from S spoiled ls n w = inl w
line_from S unended ls n w = inl w

lines_from : (ls : List TextLine) (S : List StatementLine) (n : ℕ) → Issued (bare (with_statements S ls)) n
    → Issued (bare S) n ⊎ IssuesLine ls n
unfolding with_statements
lines_from [] S n w = inl w
lines_from (l ∷ ls) S n w = go (lines_from ls (with_statement S l) n w)
  where
    go : Issued (bare (with_statement S l)) n ⊎ IssuesLine ls n → Issued (bare S) n ⊎ IssuesLine (l ∷ ls) n
    go (inl i) = line_from S l ls n i
    go (inr q) = inr (further l ls n q)

pub mended_line : (ls : List TextLine) (n : ℕ) → Issued (mended ls) n → (k : ℕ) × (st : StatementLine) × StatementAt ls k st
    × (st.number ≡ n)
mended_line ls n w = go (lines_from ls [] n (issued_same (mended ls) (listed ls) (numbers_settled ls (listed ls)) n w))
  where
    go : Issued (bare []) n ⊎ IssuesLine ls n → IssuesLine ls n
    go (inl (i, h, e)) = absurd (not-suc-le-zero h)
    go (inr q) = q
