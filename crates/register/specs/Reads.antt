-- Which texts are registers, and which fault the others have, with its line: 01's rows 1 to 9. A text is accepted exactly if
-- it is the written form of a register within all limits. A refusal from the third row on says that the lines before the
-- one at fault are such a register.
use Rattle.std.specs.Prelude.{List, ◌++◌, ◌≡◌, ℕ, suc, ◌+◌, ◌-◌, ◌≤◌, ◌<◌, length, get_or}
use Rattle.register.specs.Lines.{BeginsWith}
use Rattle.register.specs.declared.StatementLine.{StatementLine}
use Rattle.register.specs.declared.ObjectionLine.{ObjectionLine}
use Rattle.register.specs.declared.Line.{Line}
use Rattle.register.specs.declared.Line.TheVariants.{Statement, Objection}
use Rattle.register.specs.declared.TextFault.{TextFault}
use Rattle.register.specs.declared.TextFault.TheVariants.{TooLong, Unended, Spoiled, Late, Statements, Issued, Objections}
use Rattle.register.specs.declared.TextFault.TheVariants.{Unknown, Repeated}
use Rattle.register.specs.Register.{Register, Valid, written, Issued as OnRegister, Has}

-- "At most 65,535 bytes, 1,024 statements, 4,096 objections."
pub record Accepts (s : List ℕ) (R : Register) : Type 0 where
  pub fits : length s ≤ 65535
  pub valid : Valid R
  pub is_written : s ≡ written R

-- "text not empty and its last byte not 10"
abbrev pub NotEnded : List ℕ → Type 0
NotEnded s = (0 < length s) × (get_or s (length s - 1) 0 ≡ 10 → ⊥)

-- The lines before line k are in order, the register R, and what follows them, `rest`, is at fault. Lines are counted from 1.
pub record FaultAt (s : List ℕ) (k : ℕ) (Fault : Register → List ℕ → Type 0) : Type 0 where
  pub fits : length s ≤ 65535
  pub ended : ¬ NotEnded s
  pub before : Register
  pub rest : List ℕ
  pub valid : Valid before
  pub is_written : s ≡ written before ++ rest
  pub line : k ≡ suc (length before.statements + length before.objections)
  pub fault : Fault before rest

-- the next line is this statement line; this objection line
abbrev pub NextStatement : List ℕ → (StatementLine → Type 0) → Type 0
NextStatement rest Fault = (st : StatementLine) × BeginsWith (Statement st) rest × Fault st

abbrev pub NextObjection : List ℕ → (ObjectionLine → Type 0) → Type 0
NextObjection rest Fault = (o : ObjectionLine) × BeginsWith (Objection o) rest × Fault o

-- The rows of the table, in 01's order: "1, 2, then line by line; a statement line 3, 4, 6, 5; an objection line 3, 9, 7, 8".
abbrev pub Refuses : List ℕ → TextFault → Type 0
Refuses s TooLong = 65535 < length s
Refuses s Unended = (length s ≤ 65535) × NotEnded s
Refuses s (Spoiled k) = FaultAt s k (λ R rest. (0 < length rest) × ((l : Line) → ¬ BeginsWith l rest))
Refuses s (Late k) = FaultAt s k (λ R rest. NextStatement rest (λ st. 0 < length R.objections))
Refuses s (Statements k) =
    FaultAt s k (λ R rest. NextStatement rest (λ st. (length R.objections ≡ 0) × (1024 ≤ length R.statements)))
Refuses s (Issued k) =
    FaultAt s k (λ R rest. NextStatement rest
    (λ st. (length R.objections ≡ 0) × (length R.statements < 1024) × OnRegister R st.number))
Refuses s (Objections k) = FaultAt s k (λ R rest. NextObjection rest (λ o. 4096 ≤ length R.objections))
Refuses s (Unknown k) =
    FaultAt s k (λ R rest. NextObjection rest
    (λ o. (length R.objections < 4096) × ¬ (OnRegister R o.objector × OnRegister R o.target)))
Refuses s (Repeated k) =
    FaultAt s k (λ R rest. NextObjection rest
    (λ o. (length R.objections < 4096) × OnRegister R o.objector × OnRegister R o.target × Has R o.objector
    o.target))
