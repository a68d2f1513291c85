-- A text begins with one line at most: bytes that begin with a well-formed line say which line that is and what follows it.
-- That a number ends at one place only is a law of numbers.
use mathlib.Core.List.{List, append_assoc, [], ◌∷◌, ◌++◌}
use mathlib.Core.Path.{refl, ap, ◌≡◌}
use Prim.Native.Nat.{ℕ, ◌<◌}
use native.Mathlib.Omega.{arith}
use lib.ListN.{length}
use Rattle.register.specs.Number.{IsNumber, number_bytes}
use Rattle.register.specs.Lines.{mark_byte, line_bytes, WellFormed}
use Rattle.register.specs.declared.Mark.{Mark}
use Rattle.register.specs.declared.Mark.TheVariants.{Read, Unread}
use Rattle.register.specs.declared.StatementLine.{StatementLine}
use Rattle.register.specs.declared.ObjectionLine.{ObjectionLine}
use Rattle.register.specs.declared.Line.{Line}
use Rattle.register.specs.declared.Line.TheVariants.{Statement, Objection}
use Rattle.register.proofs.Number.{number_once}

mark_once : (m m' : Mark) → mark_byte m ≡ mark_byte m' → m ≡ m'
mark_once Read Read e = refl
mark_once Read Unread e = absurd (omega arith)
mark_once Unread Read e = absurd (omega arith)
mark_once Unread Unread e = refl

statement_once : (st st' : StatementLine) (r r' : List ℕ) → IsNumber st.number → IsNumber st'.number
    → line_bytes (Statement st) ++ r ≡ line_bytes (Statement st') ++ r' → (st ≡ st') × (r ≡ r')
statement_once st st' r r' h k e =
    let tail : number_bytes st.number ++ (9 ∷ mark_byte st.mark ∷ 10 ∷ []) ++ r ≡ number_bytes st'.number ++
    (9 ∷ mark_byte st'.mark ∷ 10 ∷ []) ++ r' = cc in
    let (f, g) = number_once st.number st'.number 9 9 (mark_byte st.mark ∷ 10 ∷ r) (mark_byte st'.mark ∷ 10 ∷ r') h k
    (omega arith) (omega arith) (simp append_assoc at tail) in
    let m : st.mark ≡ st'.mark = mark_once st.mark st'.mark (cc) in
    (λ i. record { number = f i; mark = m i }, cc)

objection_once : (o o' : ObjectionLine) (r r' : List ℕ) → WellFormed (Objection o) → WellFormed (Objection o')
    → line_bytes (Objection o) ++ r ≡ line_bytes (Objection o') ++ r' → (o ≡ o') × (r ≡ r')
objection_once o o' r r' (h, h₂) (k, k₂) e =
    let tail : number_bytes o.objector ++ (9 ∷ (number_bytes o.target ++ (10 ∷ []))) ++ r ≡ number_bytes o'.objector ++
    (9 ∷ (number_bytes o'.target ++ (10 ∷ []))) ++ r' = cc in
    let (f, g) = number_once o.objector o'.objector 9 9 (number_bytes o.target ++ (10 ∷ r))
    (number_bytes o'.target ++ (10 ∷ r')) h k (omega arith) (omega arith) (simp append_assoc at tail) in
    let (i, j) = number_once o.target o'.target 10 10 r r' h₂ k₂ (omega arith) (omega arith) g in
    (λ x. record { objector = f x; target = i x }, j)

-- a text begins with one line at most
pub line_once : (l l' : Line) (r r' : List ℕ) → WellFormed l → WellFormed l' → line_bytes l ++ r ≡ line_bytes l' ++ r' → (l ≡ l')
    × (r ≡ r')
line_once (Statement st) (Statement st') r r' h k e = let (f, g) = statement_once st st' r r' h k e in (ap Statement f, g)
line_once (Statement st) (Objection o) r r' h k e = let f : ◌≡◌ {A = ℕ} 83 79 = cc in absurd (omega arith)
line_once (Objection o) (Statement st) r r' h k e = let f : ◌≡◌ {A = ℕ} 79 83 = cc in absurd (omega arith)
line_once (Objection o) (Objection o') r r' h k e = let (f, g) = objection_once o o' r r' h k e in (ap Objection f, g)

pub line_not_empty : (l : Line) (r : List ℕ) → 0 < length (line_bytes l ++ r)
line_not_empty (Statement st) r = omega arith
line_not_empty (Objection o) r = omega arith

-- every line is ended by byte 10
pub line_ended : (l : Line) → (b : List ℕ) × (line_bytes l ≡ b ++ (10 ∷ []))
line_ended (Statement st) = (83 ∷ 9 ∷ (number_bytes st.number ++ (9 ∷ mark_byte st.mark ∷ [])), simp append_assoc)
line_ended (Objection o) = (79 ∷ 9 ∷ (number_bytes o.objector ++ (9 ∷ number_bytes o.target)), simp append_assoc)
