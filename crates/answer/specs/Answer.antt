-- What every public call promises, whatever it is asked: it refuses, and leaves the rooms as found, or gives its answer.
use Rattle.std.specs.Prelude.{Result, Ok, Err, ◌≡◌, List, ◌++◌, ◌⊎◌, ℕ, ◌≤◌, ◌<◌, length, get_or, drop}
use Rattle.answer.specs.declared.Refusal.{Refusal}
use Rattle.answer.specs.declared.Refusal.TheVariants.{Room, Asked, Turns}

-- how many entries or bytes were written, or the answer itself; or what the call refuses
abbrev pub Answer : Type 0
Answer = Result ℕ Refusal

-- "A refusal gives its number and place and leaves every lent room as found." `refuses` says which refusal is given, and
-- `gives` what the answer is and what the rooms then hold.
abbrev pub Promised : {Rooms : Type 0} → (refuses : Refusal → Type 0) → (gives : ℕ → Rooms → Type 0)
    → Rooms → Answer → Rooms → Type 0
Promised refuses gives rooms (Err r) after = refuses r × (after ≡ rooms)
Promised refuses gives rooms (Ok n) after = gives n after

-- What every call on an input promises. The input is accepted as what it makes (a text as a register), or it is refused, and
-- those refusals come first. Of what it makes, `later` says what is refused then, and `gives` what the answer is.
abbrev pub RefusedOn : {Made : Type 0} → (accepts : Made → Type 0) → (refuses : Refusal → Type 0)
    → (later : Made → Refusal → Type 0) → Refusal → Type 0
RefusedOn {Made} accepts refuses later r = refuses r ⊎ ((m : Made) × accepts m × later m r)

abbrev pub GivenOn : {Made Rooms : Type 0} → (accepts : Made → Type 0) → (gives : Made → ℕ → Rooms → Type 0) → ℕ → Rooms → Type 0
GivenOn {Made} accepts gives n after = (m : Made) × accepts m × gives m n after

abbrev pub OnInput : {Made Rooms : Type 0} → (accepts : Made → Type 0) → (refuses : Refusal → Type 0)
    → (later : Made → Refusal → Type 0) → (gives : Made → ℕ → Rooms → Type 0) → Rooms → Answer → Rooms → Type 0
OnInput accepts refuses later gives = Promised (RefusedOn accepts refuses later) (GivenOn accepts gives)

-- "An accepted call writes only the answer; room beyond it stays as found." The room begins with n entries, each of which
-- is as it should be.
pub record Begins (n : ℕ) (entry : ℕ → ℕ → Type 0) (room after : List ℕ) : Type 0 where
  pub fits : n ≤ length room
  pub same : length after ≡ length room
  pub each : (k : ℕ) → k < n → entry k (get_or after k 0)
  pub rest : (k : ℕ) → n ≤ k → get_or after k 0 ≡ get_or room k 0

-- The room begins with this list, n entries; beyond it the room is as found.
abbrev pub Written : List ℕ → (room : List ℕ) → ℕ → (after : List ℕ) → Type 0
Written l room n after = (n ≡ length l) × (length l ≤ length room) × (after ≡ l ++ drop (length l) room)

-- What is refused once the register or the lists are accepted. Of a call that only lends room, 10: "lent room shorter than the
-- answer".
abbrev pub Short : Type 0 → Refusal → Type 0
Short short r = short × (r ≡ Room)

-- Of a call that asks about a statement, "then 14, 15, 10": `there` says that the asked statement is on the register.
abbrev pub Asks : (there : Type 0) → (turns : ℕ) → (short : Type 0) → Refusal → Type 0
Asks there turns short r =
    ((¬ there) × (r ≡ Asked)) ⊎ ((there × (6 < turns) × (r ≡ Turns)) ⊎ (there × (turns ≤ 6) × Short short r))
