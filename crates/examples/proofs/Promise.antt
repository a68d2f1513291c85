-- Tests of promises: of a call on any input, of rooms that begin with an answer, of what is asked about a statement, and of the
-- answer as C gets it.
use mathlib.Core.Bool.{true, cond}
use mathlib.Core.List.{List, ◌++◌}
use mathlib.Core.Logic.{inl, inr, ⊎_elim, ◌⊎◌}
use mathlib.Core.Path.{refl, sym, subst, ap₂, ◌≡◌, ◌∙◌}
use Prim.Native.Nat.{ℕ, ◌≤◌, ◌<◌}
use native.Mathlib.Decide.{dec_lt}
use native.Mathlib.Omega.{arith}
use lib.Dec.{eqb}
use lib.ListN.{length, get_or, drop, get_or-eq_default}
use Rattle.register.specs.declared.TextFault.{TextFault}
use Rattle.answer.specs.declared.Refusal.{Refusal}
use Rattle.answer.specs.declared.Refusal.TheVariants.{Text, Lists, Room, Asked, Turns, Sheet}
use Rattle.answer.specs.Answer.{Answer}
use Rattle.std.specs.Prelude.{Ok, Err}
use Rattle.answer.specs.declared.CAnswer.{CAnswer}
use Rattle.answer.specs.Answer.{OnInput, Begins, Written, Short, Asks}
use Rattle.answer.specs.InC.{in_c, InC}
use Rattle.examples.proofs.Test.{Test, Decision, both_of, under, either_of, so, never, decided, refuted, equals, at_most}
use Rattle.examples.proofs.Test.{below, alike, each}

-- What is refused of an input comes first; then what is refused of what it makes, m, or what is given.
module _ {Made Rooms : Type 0} (accepts : Made → Type 0) (refuses : Refusal → Type 0) (later : Made → Refusal → Type 0)
    (gives : Made → ℕ → Rooms → Type 0) (rooms : Rooms) (m : Made) (accept : Test (accepts m))
    (refuse : (r : Refusal) → Test (refuses r)) (late : (r : Refusal) → Test (accepts m → later m r))
    (give : (n : ℕ) (after : Rooms) → Test (accepts m → gives m n after)) (found : (after : Rooms) → Test (after ≡ rooms)) where
  abbrev pub on_input : (a : Answer) (after : Rooms) → Test (OnInput accepts refuses later gives rooms a after)
  on_input (Err r) after =
      both_of (either_of (refuse r) (so (λ (p : accepts m × later m r). (m, p.0, p.1)) (under accept (late r)))) (found after)
  on_input (Ok n) after = so (λ (p : accepts m × gives m n after). (m, p.0, p.1)) (under accept (give n after))

-- a text is refused for the fault that it has
abbrev pub for_fault : {Refuses : TextFault → Type 0} → ((f : TextFault) → Test (Refuses f)) → (r : Refusal)
    → Test ((fault : TextFault) × Refuses fault × (r ≡ Text fault))
for_fault test (Text f) = so (λ p. (f, p, refl)) (test f)
for_fault test (Lists f) = never
for_fault test Room = never
for_fault test Asked = never
for_fault test Turns = never
for_fault test Sheet = never

-- The answer as C gets it. Which answer the two numbers tell, `refusal` says of the refused ones.
abbrev pub answer_by : (refusal : (number place : ℕ) → Refusal) → CAnswer → Answer
answer_by refusal c = cond (eqb c.refusal 0) (Ok c.value) (Err (refusal c.refusal c.value))

module _ (P : Answer → Type 0) (refusal : (number place : ℕ) → Refusal) (c : CAnswer) where
  abbrev pub in_numbers : ((a : Answer) → Test (P a)) → Test (InC P c)
  in_numbers p =
      so (λ (q, (e, f)). (answer_by refusal c, q, λ i. record { refusal = e i; value = f i }))
      (both_of (p (answer_by refusal c)) (both_of (decided (equals c.refusal (in_c (answer_by refusal c)).refusal))
      (decided (equals c.value (in_c (answer_by refusal c)).value))))

-- rooms are as found
abbrev pub unchanged : (room after : List ℕ) → Test (after ≡ room)
unchanged room after = decided (alike after room)

abbrev pub both_unchanged : (rooms after : List ℕ × List ℕ) → Test (after ≡ rooms)
both_unchanged rooms after =
    so (λ (p, q). ap₂ (λ u v. (u, v)) p q) (both_of (unchanged rooms.0 after.0) (unchanged rooms.1 after.1))

abbrev pub no_room : (after : Unit {0}) → Test (after ≡ tt)
no_room after = record { passes = true; is = λ t. refl }

-- The room begins with n entries, each of which is what `value` says; beyond them it is as found.
module _ (n : ℕ) (room after : List ℕ) where
  abbrev pub Kept : ℕ → Type 0
  Kept k = n ≤ k → get_or after k 0 ≡ get_or room k 0

  pub keeps : length after ≡ length room → ((k : ℕ) → k < length room → Kept k) → (k : ℕ) → Kept k
  keeps e f k h = go (dec_lt k (length room))
    where
      go : Dec (k < length room) → get_or after k 0 ≡ get_or room k 0
      go (yes l) = f k l h
      go (no l) = get_or-eq_default after 0 (omega (arith, e)) ∙ sym (get_or-eq_default room 0 (omega arith))

  abbrev pub kept_at : (k : ℕ) → Test (Kept k)
  kept_at k =
      so (λ (w : (k < n) ⊎ (get_or after k 0 ≡ get_or room k 0)) (h : n ≤ k). ⊎_elim (λ (l : k < n). absurd (omega arith))
      (λ e. e) w)
      (either_of (decided (below k n)) (decided (equals (get_or after k 0) (get_or room k 0))))

  abbrev pub begins : (entry : ℕ → ℕ → Type 0) (value : ℕ → ℕ)
      → Test (((k : ℕ) → k < n → entry k (value k)) → Begins n entry room after)
  begins entry value =
      so (λ (h, (e, (is, rest))) (each : (k : ℕ) → k < n → entry k (value k)). record {
        fits = h;
        same = e;
        each = λ k l. subst (entry k) (sym (is k l)) (each k l);
        rest = keeps e rest;
      })
      (both_of (decided (at_most n (length room))) (both_of (decided (equals (length after) (length room)))
      (both_of (each n (λ k. decided (equals (get_or after k 0) (value k)))) (each (length room) kept_at))))

  -- it begins with the list
  abbrev pub writes : (l : List ℕ) → Test (Written l room n after)
  writes l =
      so (λ (e, (h, is)). (e, h, is)) (both_of (decided (equals n (length l)))
      (both_of (decided (at_most (length l) (length room)))
      (decided (alike after (l ++ drop (length l) room)))))

-- which of the later refusals it is
abbrev pub is_room : (r : Refusal) → Test (r ≡ Room)
is_room (Text f) = never
is_room (Lists f) = never
is_room Room = record { passes = true; is = λ t. refl }
is_room Asked = never
is_room Turns = never
is_room Sheet = never

abbrev pub is_sheet : (r : Refusal) → Test (r ≡ Sheet)
is_sheet (Text f) = never
is_sheet (Lists f) = never
is_sheet Room = never
is_sheet Asked = never
is_sheet Turns = never
is_sheet Sheet = record { passes = true; is = λ t. refl }

-- the room is short
abbrev pub short : {A S : Type 0} → Test (A → S) → (r : Refusal) → Test (A → Short S r)
short s r = so (λ (p, e) a. (p a, e)) (both_of s (is_room r))

-- what is asked about a statement
module _ {A S There : Type 0} (there : Decision There) (turns : ℕ) (small : Test (A → S)) where
  abbrev pub asks : (r : Refusal) → Test (A → Asks There turns S r)
  asks (Text f) = never
  asks (Lists f) = never
  asks Asked = so (λ n a. inl (n, refl)) (refuted there)
  asks Turns = so (λ (h, l) a. inr (inl (h, l, refl))) (both_of (decided there) (decided (below 6 turns)))
  asks Room =
      so (λ (h, (l, s)) a. inr (inr (h, l, (s a, refl)))) (both_of (decided there) (both_of (decided (at_most turns 6)) small))
  asks Sheet = never
