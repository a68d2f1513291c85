-- The promises of the two calls on a number leave one answer and one content of the room, 3 and 10 are given exactly when they
-- are due, and each call undoes the other.
use mathlib.Core.List.{List, ◌++◌}
use mathlib.Core.Logic.{inl, ◌↔◌, ⊎_elim}
use mathlib.Core.Path.{ap, refl, subst, sym, ◌≡◌, ◌∙◌}
use Prim.Native.Nat.{ℕ, ◌≤◌, ◌<◌}
use native.Mathlib.Omega.{arith}
use lib.ListN.{length, take, drop}
use lib.Seq.{take-append_seam}
use Rattle.register.specs.Number.{IsNumber, number_bytes}
use Rattle.register.specs.declared.TextFault.TheVariants.{Spoiled}
use Rattle.register.proofs.Number.{number_short}
use Rattle.answer.specs.declared.Refusal.{Refusal}
use Rattle.answer.specs.declared.Refusal.TheVariants.{Text, Room}
use Rattle.answer.specs.Answer.{Short, Written}
use Rattle.answer.specs.Answer.{Answer}
use Rattle.std.specs.Prelude.{Ok, Err}
use Rattle.answer.proofs.Promises.{through}
use Rattle.answer.proofs.Inputs.{on_unique, on_refused}
use Rattle.promises.specs.NumberCalls.{Names, NumberCode, NumberText}
use Rattle.promises.proofs.OnNumber.{written_apart, code_apart}
use Rattle.promises.proofs.WrittenInput.{written_for_unique, written_for_refused, written_for_short}

-- the answer is the code, and no room is lent
abbrev code_is : ℕ → ℕ → Unit {0} → Type 0
code_is number n after = n ≡ number

module _ (written : List ℕ) where
  pub unique_number_code : (a a' : Answer) → NumberCode written a → NumberCode written a' → a ≡ a'
  unique_number_code a a' p q =
      (on_unique (written_apart written) (λ number r. ⊥) (λ number r r' p q. absurd p)
      code_is (λ number t r n after p g. p) (λ number t n n' after after' g g'. (g ∙ sym g', refl)) tt a a'
      tt tt p q).0

  -- 3, with the place 0, exactly if it is no number
  pub exactly_number_code : (a : Answer) → NumberCode written a
      → (a ≡ Err (Text (Spoiled 0))) ↔ ((number : ℕ) → ¬ Names written number)
  exactly_number_code a p =
      through (on_refused (written_apart written) (λ number r. ⊥) (λ number r r' p q. absurd p)
      code_is (λ number t r n after p g. p) tt a tt p (Text (Spoiled 0)))
      (⊎_elim (λ q. q.0) (λ q. absurd q.2), λ none. inl (none, refl))

module _ (number : ℕ) (room : List ℕ) where
  fits : (l : List ℕ) → Names l number → (r : Refusal) (n : ℕ) (after : List ℕ) → Short (length room < length l) r
      → Written l room n after → ⊥
  fits l t r n after p g = omega (arith, p.0, g.1)

  pub unique_number_text : (a a' : Answer) (after after' : List ℕ) → NumberText number room a after
      → NumberText number room a' after' → (a ≡ a') × (after ≡ after')
  unique_number_text = written_for_unique (code_apart number) (λ l. l) room

  -- 3, with the place 0, exactly if the code is nobody's; then 10, exactly if the room is shorter
  pub exactly_number_text : (a : Answer) (after : List ℕ) → NumberText number room a after
      → ((a ≡ Err (Text (Spoiled 0))) ↔ (¬ IsNumber number))
      × ((a ≡ Err Room) ↔ (IsNumber number × (length room < length (number_bytes number))))
  exactly_number_text a after p = (
    through (written_for_refused (code_apart number) (λ l. l) room a after p (Text (Spoiled 0)))
        (⊎_elim (λ q. q.0) (λ q. absurd (other q.2.1)), λ none. inl (none, refl)),
    through (written_for_short (code_apart number) (λ l. l) room (λ q. other (sym q.1)) a after p)
        (λ (l, (h, e), s). (h, subst (λ u. length room < length u) e s), λ (h, s). (number_bytes number, (h, refl), s)),
  )
    where
      other : Text (Spoiled 0) ≡ Room → ⊥
      other e = let z : ◌≡◌ {A = ℕ} 0 1 = cc in omega arith

  -- no number has more than 9 bytes
  pub number_text_short : (n : ℕ) (after : List ℕ) → NumberText number room (Ok n) after → n ≤ 9
  number_text_short n after (l, (h, e), (c, f, w)) = omega (arith, c, ap length e, number_short number h)

-- Each undoes the other: the bytes of a code that was read are those that were read, and the code of bytes that were written is
-- the one that was asked for.
pub text_undoes_code : (written : List ℕ) (number : ℕ) → NumberCode written (Ok number) → (room : List ℕ)
    → length written ≤ length room → (a : Answer) (after : List ℕ) → NumberText number room a after
    → (a ≡ Ok (length written)) × (take (length written) after ≡ written)
text_undoes_code written number (m, p, e) room h a after q =
    let (c, f) = unique_number_text number room a (Ok (length written)) after (written ++ drop (length written) room) q
    (written, subst (Names written) (sym e) p, (refl, h, refl)) in
    (c, ap (take (length written)) f ∙ take-append_seam written (drop (length written) room))

pub code_undoes_text : (number : ℕ) (room : List ℕ) (n : ℕ) (after : List ℕ) → NumberText number room (Ok n) after
    → (a : Answer) → NumberCode (take n after) a → a ≡ Ok number
code_undoes_text number room n after (l, p, (c, h, w)) a q =
    let e : take n after ≡ l = ap (take n) w ∙ ap (λ k. take k (l ++ drop (length l) room)) c
    ∙ take-append_seam l (drop (length l) room) in
    unique_number_code (take n after) a (Ok number) q (number, subst (λ u. Names u number) (sym e) p, refl)
