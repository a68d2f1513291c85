-- What is printed of an answer: what was given, as it lies in the room, or, "A refused input prints one line: `REFUSED`, number,
-- place, parted by tabs." Every program prints so.
use Rattle.std.specs.Prelude.{List, ◌≡◌, ℕ}
use Rattle.answer.specs.Refusals.{refusal_number, refusal_place}
use Rattle.listing.specs.Rows.{refused_row}
use Rattle.answer.specs.Answer.{Written}
use Rattle.answer.specs.Answer.{Answer}
use Rattle.std.specs.Prelude.{Ok, Err}

-- The first `size` bytes of the room are what is printed; a given answer stays as it was.
abbrev pub PutOf : Answer → (room : List ℕ) → (size : ℕ) → (after : List ℕ) → Type 0
PutOf (Ok n) room size after = (size ≡ n) × (after ≡ room)
PutOf (Err r) room size after = Written (refused_row (refusal_number r) (refusal_place r)) room size after
