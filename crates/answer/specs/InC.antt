-- The answer as C gets it.
use Rattle.std.specs.Prelude.{◌≡◌}
use Rattle.answer.specs.Refusals.{refusal_number, refusal_place}
use Rattle.answer.specs.Answer.{Answer}
use Rattle.std.specs.Prelude.{Ok, Err}
use Rattle.answer.specs.declared.CAnswer.{CAnswer}

-- Two numbers. `refusal` is 0 where the call is accepted, else 01's number; `value` is then the place of the refusal.
abbrev pub in_c : Answer → CAnswer
in_c (Err r) = record { refusal = refusal_number r; value = refusal_place r }
in_c (Ok n) = record { refusal = 0; value = n }

-- what an exported function promises of a promise of answers
abbrev pub InC : (Answer → Type 0) → CAnswer → Type 0
InC P c = (a : Answer) × P a × (c ≡ in_c a)
