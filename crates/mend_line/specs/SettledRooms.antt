-- What settling one line does to the lent rooms, not for callers of the product. What it means for the register that the rooms
-- hold is `mend`'s to say.
use Rattle.std.specs.Prelude.{List, [], ◌⊎◌, ◌≡◌, ℕ, ◌+◌, ◌≤◌, ◌<◌, set, get_or}
use Rattle.register_index.specs.Indexed.{Indexed}
use Rattle.register.specs.Lines.{mark_number}
use Rattle.register.specs.declared.StatementLine.{StatementLine}
use Rattle.register.specs.declared.ObjectionLine.{ObjectionLine}
use Rattle.register.specs.Register.{bare, Valid}
use Rattle.mend.specs.Fate.{Fate, fate_number}
use Rattle.register_read.specs.ReadState.{Holds, At, Absent, EndPlaces}

-- A fate as a room of bytes has it: by its number, which is the same in every line.
abbrev pub told : Fate → ℕ
told = fate_number 0

-- the rooms begin with these n statements, and their numbers are indexed
pub record Stated (S : List StatementLine) (n : ℕ) (nums marks links : List ℕ) : Type 0 where
  pub holds : Holds (bare S) n 0 nums marks [] []
  pub valid : Valid (bare S)
  pub indexed : Indexed nums n links

-- A second statement: the first one's mark is unread now. One past the limit. A new one.
abbrev pub StatementSettled : (nums marks : List ℕ) (n : ℕ) → StatementLine → ℕ → (nums' marks' links' : List ℕ) → Type 0
StatementSettled nums marks n st f nums' marks' links' =
    ((f ≡ 5) × ((i : ℕ) × At nums n st.number i × (marks' ≡ set marks i 1)) × (nums' ≡ nums) × Indexed nums n links')
    ⊎ (((f ≡ 6) × Absent nums n st.number × (1024 ≤ n) × (nums' ≡ nums) × (marks' ≡ marks) × Indexed nums n links')
    ⊎ ((f ≡ 0) × Absent nums n st.number × (n < 1024) × (nums' ≡ set nums n st.number)
    × (marks' ≡ set marks n (mark_number st.mark)) × Indexed nums' (n + 1) links'))

-- the pair is not among the first m; it is
abbrev pub NoPair : (objectors targets : List ℕ) → (m y x : ℕ) → Type 0
NoPair objectors targets m y x = (j : ℕ) → j < m → get_or objectors j 0 ≡ y → get_or targets j 0 ≡ x → ⊥

abbrev pub Pair : (objectors targets : List ℕ) → (m y x : ℕ) → Type 0
Pair objectors targets m y x = (j : ℕ) × (j < m) × (get_or objectors j 0 ≡ y) × (get_or targets j 0 ≡ x)

-- An objection against an unknown number; from one, against a listed one, whose mark is unread now; a repeat; one past the
-- limit, whose target's mark is unread now; a new one.
abbrev pub ObjectionSettled : (nums marks objectors targets : List ℕ) (n m : ℕ) → ObjectionLine → ℕ
    → (marks' objectors' targets' : List ℕ) → Type 0
ObjectionSettled nums marks objectors targets n m o f marks' objectors' targets' =
    ((f ≡ 7) × Absent nums n o.target × (marks' ≡ marks) × (objectors' ≡ objectors) × (targets' ≡ targets))
    ⊎ (((f ≡ 7) × Absent nums n o.objector × ((x : ℕ) × At nums n o.target x × (marks' ≡ set marks x 1))
    × (objectors' ≡ objectors) × (targets' ≡ targets))
    ⊎ (((f ≡ 8) × ((y : ℕ) × (x : ℕ) × EndPlaces nums n o y x × Pair objectors targets m y x) × (marks' ≡ marks)
    × (objectors' ≡ objectors) × (targets' ≡ targets))
    ⊎ (((f ≡ 9) × (4096 ≤ m) × ((y : ℕ) × (x : ℕ) × EndPlaces nums n o y x × NoPair objectors targets m y x
    × (marks' ≡ set marks x 1))
    × (objectors' ≡ objectors) × (targets' ≡ targets))
    ⊎ ((f ≡ 0) × (m < 4096) × ((y : ℕ) × (x : ℕ) × EndPlaces nums n o y x × NoPair objectors targets m y x
    × (objectors' ≡ set objectors m y) × (targets' ≡ set targets m x)) × (marks' ≡ marks)))))
