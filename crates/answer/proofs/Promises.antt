-- A promise leaves one answer and one content of the rooms, and gives each refusal exactly when it is due.
use mathlib.Core.Logic.{inl, inr, ◌↔◌}
use mathlib.Core.Path.{ap, sym, subst, refl, ◌≡◌, ◌∙◌}
use Prim.Native.Nat.{ℕ, ◌≤◌, ◌<◌}
use native.Mathlib.Omega.{arith}
use Rattle.answer.specs.Refusals.{refusal_number}
use Rattle.answer.specs.declared.Refusal.{Refusal}
use Rattle.answer.specs.declared.Refusal.TheVariants.{Asked, Turns, Room}
use Rattle.answer.specs.Answer.{Promised, Short, Asks}
use Rattle.answer.specs.Answer.{Answer}
use Rattle.std.specs.Prelude.{Ok, Err}

-- one after the other
pub through : {A B C : Type 0} → A ↔ B → B ↔ C → A ↔ C
through (f, g) (h, k) = (λ a. h (f a), λ c. g (k c))

-- A promise is unique where the refusal is, the answer is, and the two exclude each other.
module _ {Rooms : Type 0} (refuses : Refusal → Type 0) (gives : ℕ → Rooms → Type 0)
    (one : (r r' : Refusal) → refuses r → refuses r' → r ≡ r')
    (apart : (r : Refusal) (n : ℕ) (after : Rooms) → refuses r → gives n after → ⊥) where
  pub promised_unique : ((n n' : ℕ) (after after' : Rooms) → gives n after → gives n' after' → (n ≡ n') × (after ≡ after'))
      → (rooms : Rooms) (a a' : Answer) (after after' : Rooms) → Promised refuses gives rooms a after
      → Promised refuses gives rooms a' after' → (a ≡ a') × (after ≡ after')
  promised_unique same rooms (Err r) (Err r') after after' p q = (ap Err (one r r' p.0 q.0), p.1 ∙ sym q.1)
  promised_unique same rooms (Err r) (Ok n) after after' p q = absurd (apart r n after' p.0 q)
  promised_unique same rooms (Ok n) (Err r) after after' p q = absurd (apart r n after q.0 p)
  promised_unique same rooms (Ok n) (Ok n') after after' p q = let (e, f) = same n n' after after' p q in (ap Ok e, f)

  -- a refusal is given exactly when it is due
  pub refused_exactly : (rooms : Rooms) (a : Answer) (after : Rooms) → Promised refuses gives rooms a after → (r : Refusal)
      → (a ≡ Err r) ↔ refuses r
  refused_exactly rooms a after p r = (λ e. (subst (λ b. Promised refuses gives rooms b after) e p).0, due a p)
    where
      due : (a : Answer) → Promised refuses gives rooms a after → refuses r → a ≡ Err r
      due (Err r') p q = ap Err (one r' r p.0 q)
      due (Ok n) p q = absurd (apart r n after q p)

-- refusals of different numbers are different
pub number_clash : (r r' : Refusal) → (refusal_number r ≡ refusal_number r' → ⊥) → r ≡ r' → ⊥
number_clash r r' n e = n (ap refusal_number e)

-- 14, 15 and 10 are given exactly when something holds
pub record Exactly (asked turns room : Type 0) (a : Answer) : Type 0 where
  pub fourteen : (a ≡ Err Asked) ↔ asked
  pub fifteen : (a ≡ Err Turns) ↔ turns
  pub ten : (a ≡ Err Room) ↔ room

pub short_once : (short : Type 0) (r r' : Refusal) → Short short r → Short short r' → r ≡ r'
short_once short r r' p q = p.1 ∙ sym q.1

module _ (there : Type 0) (turns : ℕ) (short : Type 0) where
  pub asks_once : (r r' : Refusal) → Asks there turns short r → Asks there turns short r' → r ≡ r'
  asks_once r r' (inl p) (inl q) = p.1 ∙ sym q.1
  asks_once r r' (inl p) (inr (inl q)) = absurd (p.0 q.0)
  asks_once r r' (inl p) (inr (inr q)) = absurd (p.0 q.0)
  asks_once r r' (inr (inl p)) (inl q) = absurd (q.0 p.0)
  asks_once r r' (inr (inl p)) (inr (inl q)) = p.2 ∙ sym q.2
  asks_once r r' (inr (inl p)) (inr (inr q)) = absurd (omega (arith, p.1, q.1))
  asks_once r r' (inr (inr p)) (inl q) = absurd (q.0 p.0)
  asks_once r r' (inr (inr p)) (inr (inl q)) = absurd (omega (arith, p.1, q.1))
  asks_once r r' (inr (inr p)) (inr (inr q)) = p.2.1 ∙ sym q.2.1

  -- nothing is refused where the statement is there, the turns are few and the room is long enough
  pub asks_none : (r : Refusal) → Asks there turns short r → there → turns ≤ 6 → ¬ short → ⊥
  asks_none r (inl p) t h n = p.0 t
  asks_none r (inr (inl p)) t h n = omega (arith, p.1, h)
  asks_none r (inr (inr p)) t h n = n p.2.0

  -- what each of the three numbers says
  pub asks_14 : Asks there turns short Asked ↔ (¬ there)
  asks_14 = (to, λ n. inl (n, refl))
    where
      to : Asks there turns short Asked → ¬ there
      to (inl p) = p.0
      to (inr (inl p)) = absurd (number_clash Asked Turns (λ e. omega (arith, e)) p.2)
      to (inr (inr p)) = absurd (number_clash Asked Room (λ e. omega (arith, e)) p.2.1)

  pub asks_15 : Asks there turns short Turns ↔ (there × (6 < turns))
  asks_15 = (to, λ h. inr (inl (h.0, h.1, refl)))
    where
      to : Asks there turns short Turns → there × (6 < turns)
      to (inl p) = absurd (number_clash Turns Asked (λ e. omega (arith, e)) p.1)
      to (inr (inl p)) = (p.0, p.1)
      to (inr (inr p)) = absurd (number_clash Turns Room (λ e. omega (arith, e)) p.2.1)

  pub asks_10 : Asks there turns short Room ↔ (there × (turns ≤ 6) × short)
  asks_10 = (to, λ h. inr (inr (h.0, h.1, (h.2, refl))))
    where
      to : Asks there turns short Room → there × (turns ≤ 6) × short
      to (inl p) = absurd (number_clash Room Asked (λ e. omega (arith, e)) p.1)
      to (inr (inl p)) = absurd (number_clash Room Turns (λ e. omega (arith, e)) p.2)
      to (inr (inr p)) = (p.0, p.1, p.2.0)
