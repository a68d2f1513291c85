-- What is asked about the statement of a number, on a text: 14, 15 and 10 are given exactly when they are due; and where the
-- answer is a list that is settled by the statement, the promise leaves one answer.
use mathlib.Core.List.{List}
use mathlib.Core.Path.{subst, ap, ◌≡◌}
use Prim.Native.Nat.{ℕ, ◌≤◌, ◌<◌}
use native.Mathlib.Omega.{arith}
use lib.ListN.{length}
use Rattle.register.specs.Register.{Register, Issued, Places}
use Rattle.register.specs.Reads.{Accepts}
use Rattle.answer.specs.declared.Refusal.{Refusal}
use Rattle.answer.specs.declared.Refusal.TheVariants.{Asked, Turns, Room}
use Rattle.answer.specs.Answer.{Asks, Written}
use Rattle.answer.specs.Answer.{Answer}
use Rattle.answer.proofs.Rooms.{written_unique}
use Rattle.answer.proofs.Promises.{Exactly, asks_once, asks_none}
use Rattle.answer.proofs.Inputs.{on_unique, on_asked}
use Rattle.register.proofs.Order.{place_once}
use Rattle.promises.specs.OnText.{OnText}
use Rattle.promises.proofs.OnText.{text_apart, no_text_fault}

module _ (s : List ℕ) (number : ℕ) where
  pub asked_exactly : {Rooms : Type 0} (turns : ℕ) (short : Register → Type 0) (gives : Register → ℕ → Rooms → Type 0)
      → ((R : Register) → Accepts s R → (r : Refusal) (n : ℕ) (after : Rooms) → Asks (Issued R number) turns (short R) r
      → gives R n after → ⊥) → (rooms : Rooms) (a : Answer) (after : Rooms)
      → OnText s (λ R. Asks (Issued R number) turns (short R)) gives rooms a after
      → Exactly ((R : Register) × Accepts s R × (¬ Issued R number))
      ((R : Register) × Accepts s R × (Issued R number × (6 < turns)))
      ((R : Register) × Accepts s R × (Issued R number × (turns ≤ 6) × short R)) a
  asked_exactly turns short gives fine =
      on_asked (text_apart s) (λ R. Issued R number) turns short gives fine (no_text_fault s Asked tt) (no_text_fault s Turns tt)
      (no_text_fault s Room tt)

  -- `Is R x l` says that l is the list of the statement at the place x; `told` is how it is written.
  module _ (Is : Register → ℕ → List ℕ → Type 0)
      (once : (R : Register) (x : ℕ) (l l' : List ℕ) → Is R x l → Is R x l' → l ≡ l') (told : Register → List ℕ → List ℕ)
      (as_long : (R : Register) (l : List ℕ) → length (told R l) ≡ length l) (room : List ℕ) where
    abbrev Short : Register → Type 0
    Short R = (x : ℕ) × Places R number x × ((l : List ℕ) × Is R x l × (length room < length l))

    abbrev In : Register → ℕ → List ℕ → Type 0
    In R n after = (x : ℕ) × Places R number x × ((l : List ℕ) × Is R x l × Written (told R l) room n after)

    abbrev later : Register → Refusal → Type 0
    later R = Asks (Issued R number) 0 (Short R)

    same_list : (R : Register) → Accepts s R → (x x' : ℕ) (l l' : List ℕ) → Places R number x → Places R number x' → Is R x l
        → Is R x' l' → l ≡ l'
    same_list R a x x' l l' h h' is is' =
        once R x l l' is (subst (λ i. Is R i l') (place_once R a.valid number x' x h' h) is')

    pub list_apart : (R : Register) → Accepts s R → (r : Refusal) (n : ℕ) (after : List ℕ) → later R r → In R n after → ⊥
    list_apart R a r n after q (x, h, (l, is, (c, f, e))) =
        asks_none (Issued R number) 0 (Short R) r q (x, h.0, h.1) (omega arith)
        (λ (x', h', (l', is', t)). omega (arith, f, t, as_long R l, ap length (same_list R a x x' l l' h h' is is')))

    pub list_unique : (a a' : Answer) (after after' : List ℕ)
        → OnText s later In room a after → OnText s later In room a' after' → (a ≡ a') × (after ≡ after')
    list_unique = on_unique (text_apart s) later (λ R. asks_once (Issued R number) 0 (Short R)) In list_apart same room
      where
        same : (R : Register) → Accepts s R → (n n' : ℕ) (after after' : List ℕ) → In R n after → In R n' after'
            → (n ≡ n') × (after ≡ after')
        same R a n n' after after' (x, h, (l, is, w)) (x', h', (l', is', w')) =
            written_unique (told R l) (told R l') room n n' after after' (ap (told R) (same_list R a x x' l l' h h' is is')) w w'
