-- What reading leaves in the lent rooms, and what taking one line does to them.
use Rattle.std.specs.Prelude.{Result, Ok, Err, List, ◌⊎◌, ◌≡◌, ℕ, ◌+◌, ◌≤◌, ◌<◌, length, take, get_or, set}
use Rattle.register_index.specs.Indexed.{Indexed}
use Rattle.register.specs.Lines.{mark_number}
use Rattle.register.specs.declared.StatementLine.{StatementLine}
use Rattle.register.specs.declared.ObjectionLine.{ObjectionLine}
use Rattle.register.specs.declared.TextFault.{TextFault}
use Rattle.register.specs.declared.TextFault.TheVariants.{Late, Statements, Issued, Objections, Unknown, Repeated}
use Rattle.register.specs.Register.{Register, numbers, marks_of, objectors_of, targets_of, Valid}
use Rattle.register.specs.Reads.{Accepts, Refuses}

-- The rooms begin with the register's n statements and m objections: numbers and marks in listed order, objectors and
-- targets by place, in the order of the lines.
pub record Holds (R : Register) (n m : ℕ) (nums marks objectors targets : List ℕ) : Type 0 where
  pub statements : length R.statements ≡ n
  pub objections : length R.objections ≡ m
  pub numbers_are : take n nums ≡ numbers R
  pub marks_are : take n marks ≡ marks_of R
  pub objectors_are : take m objectors ≡ objectors_of R
  pub targets_are : take m targets ≡ targets_of R

-- the lists are the register's own
pub record Made (R : Register) (nums marks objectors targets : List ℕ) : Type 0 where
  pub valid : Valid R
  pub numbers_are : nums ≡ numbers R
  pub marks_are : marks ≡ marks_of R
  pub objectors_are : objectors ≡ objectors_of R
  pub targets_are : targets ≡ targets_of R

-- the rooms are long enough for any register
pub record Spacious (nums marks objectors targets : List ℕ) : Type 0 where
  pub numbers_room : 1024 ≤ length nums
  pub marks_room : 1024 ≤ length marks
  pub objectors_room : 4096 ≤ length objectors
  pub targets_room : 4096 ≤ length targets

-- what the reader answers, with the rooms as it leaves them
abbrev pub ReadsTo : List ℕ → (nums marks objectors targets : List ℕ) → Result (ℕ × ℕ) TextFault → Type 0
ReadsTo s nums marks objectors targets (Ok (n, m)) = (R : Register) × Accepts s R × Holds R n m nums marks objectors targets
ReadsTo s nums marks objectors targets (Err r) = Refuses s r

-- The rest is not for callers. No entry below n is v.
abbrev pub Absent : List ℕ → ℕ → ℕ → Type 0
Absent l n v = (i : ℕ) → i < n → get_or l i 0 ≡ v → ⊥

-- the entry i below n is v
abbrev pub At : List ℕ → ℕ → ℕ → ℕ → Type 0
At l n v i = (i < n) × (get_or l i 0 ≡ v)

abbrev pub StatementTaken : (nums marks : List ℕ) (n m : ℕ) → StatementLine → (nums' marks' : List ℕ)
    → Result Unit TextFault → Type 0
StatementTaken nums marks n m st nums' marks' (Ok _) =
    (m ≡ 0) × (n < 1024) × Absent nums n st.number × (nums' ≡ set nums n st.number)
    × (marks' ≡ set marks n (mark_number st.mark))
StatementTaken nums marks n m st nums' marks' (Err r) =
    ((0 < m) × (r ≡ Late (n + m + 1)))
    ⊎ (((m ≡ 0) × (1024 ≤ n) × (r ≡ Statements (n + m + 1)))
    ⊎ ((m ≡ 0) × (n < 1024) × ((i : ℕ) × At nums n st.number i) × (r ≡ Issued (n + m + 1))))

-- the index is that of the statements kept
abbrev pub InStep : (nums : List ℕ) (n : ℕ) (links : List ℕ) → Result Unit TextFault → Type 0
InStep nums n links (Ok _) = Indexed nums (n + 1) links
InStep nums n links (Err r) = Indexed nums n links

-- a statement that is kept is counted
abbrev pub CountedOn : (n n' : ℕ) → Result Unit TextFault → Type 0
CountedOn n n' (Ok _) = n' ≡ n + 1
CountedOn n n' (Err r) = n' ≡ n

-- the places y and x are those of an objection's numbers
pub record EndPlaces (nums : List ℕ) (n : ℕ) (o : ObjectionLine) (y x : ℕ) : Type 0 where
  pub objector : At nums n o.objector y
  pub objector_first : Absent nums y o.objector
  pub target : At nums n o.target x
  pub target_first : Absent nums x o.target

abbrev pub ObjectionTaken : (nums objectors targets : List ℕ) (n m : ℕ) → ObjectionLine
    → (objectors' targets' : List ℕ) → Result Unit TextFault → Type 0
ObjectionTaken nums objectors targets n m o objectors' targets' (Ok _) =
    (m < 4096) × (y : ℕ) × (x : ℕ) × EndPlaces nums n o y x × ((j : ℕ) → j < m → get_or objectors j 0 ≡ y → get_or targets j 0 ≡ x
    → ⊥)
    × (objectors' ≡ set objectors m y) × (targets' ≡ set targets m x)
ObjectionTaken nums objectors targets n m o objectors' targets' (Err r) =
    ((4096 ≤ m) × (r ≡ Objections (n + m + 1)))
    ⊎ (((m < 4096) × (Absent nums n o.objector ⊎ Absent nums n o.target) × (r ≡ Unknown (n + m + 1)))
    ⊎ ((m < 4096)
    × ((y : ℕ) × (x : ℕ) × EndPlaces nums n o y x × ((j : ℕ) × (j < m) × (get_or objectors j 0 ≡ y) × (get_or targets j 0 ≡ x)))
    × (r ≡ Repeated (n + m + 1))))
