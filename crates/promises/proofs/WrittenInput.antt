-- Laws of every promise that writes one list for what an input makes, and refuses 10 where the room is shorter: the answer is
-- one, and 10 is given exactly then. Which list that is, is for the call to say.
use mathlib.Core.List.{List}
use mathlib.Core.Logic.{◌↔◌}
use mathlib.Core.Path.{refl, ◌≡◌}
use Prim.Native.Nat.{ℕ, ◌<◌}
use native.Mathlib.Omega.{arith}
use lib.ListN.{length}
use Rattle.answer.specs.declared.Refusal.{Refusal}
use Rattle.answer.specs.declared.Refusal.TheVariants.{Room}
use Rattle.answer.specs.Answer.{Answer}
use Rattle.std.specs.Prelude.{Err}
use Rattle.answer.specs.Answer.{OnInput, RefusedOn, Short, Written}
use Rattle.answer.proofs.Rooms.{written_unique}
use Rattle.answer.proofs.Promises.{short_once}
use Rattle.answer.proofs.Inputs.{Apart, on_unique, on_exactly, on_refused}

module _ {Made : Type 0} {accepts : Made → Type 0} {refuses : Refusal → Type 0} (apart : Apart accepts refuses)
    (told : Made → List ℕ) (room : List ℕ) where
  abbrev pub WrittenFor : Answer → List ℕ → Type 0
  WrittenFor = OnInput accepts refuses (λ m. Short (length room < length (told m))) (λ m. Written (told m) room) room

  fits : (m : Made) → accepts m → (r : Refusal) (n : ℕ) (after : List ℕ) → Short (length room < length (told m)) r
      → Written (told m) room n after → ⊥
  fits m t r n after p g = omega (arith, p.0, g.1)

  pub written_for_unique : (a a' : Answer) (after after' : List ℕ) → WrittenFor a after → WrittenFor a' after'
      → (a ≡ a') × (after ≡ after')
  written_for_unique =
      on_unique apart (λ m. Short (length room < length (told m))) (λ m. short_once (length room < length (told m)))
      (λ m. Written (told m) room) fits
      (λ m t n n' after after'. written_unique (told m) (told m) room n n' after after' refl) room

  pub written_for_refused : (a : Answer) (after : List ℕ) → WrittenFor a after → (r : Refusal)
      → (a ≡ Err r) ↔ RefusedOn accepts refuses (λ m. Short (length room < length (told m))) r
  written_for_refused =
      on_refused apart (λ m. Short (length room < length (told m))) (λ m. short_once (length room < length (told m)))
      (λ m. Written (told m) room) fits room

  pub written_for_short : ¬ refuses Room → (a : Answer) (after : List ℕ) → WrittenFor a after
      → (a ≡ Err Room) ↔ ((m : Made) × accepts m × (length room < length (told m)))
  written_for_short none a after p =
      on_exactly apart (λ m. Short (length room < length (told m))) (λ m. short_once (length room < length (told m)))
      (λ m. Written (told m) room) fits room a after p Room none (λ m. length room < length (told m))
      (λ m. (λ q. q.0, λ s. (s, refl)))
