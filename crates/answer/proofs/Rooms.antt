-- Rooms that begin with an answer: one entry more, and that there is only one such room.
use mathlib.Core.List.{List, ◌++◌, append-nil}
use mathlib.Core.Path.{refl, sym, ap, ◌≡◌, ◌∙◌}
use Prim.Native.Nat.{ℕ, ◌+◌, ◌<◌}
use native.Mathlib.Decide.{ℕ_discrete, dec_lt}
use native.Mathlib.Omega.{arith}
use lib.ListN.{length, set, length-set, get_or, drop}
use lib.Seq.{get_or-set_other, get_or-set_same, ext_get_or, drop-length}
use Rattle.answer.specs.Answer.{Begins, Written}

module _ (entry : ℕ → ℕ → Type 0) (room : List ℕ) where
  -- nothing is written yet
  pub begins_none : Begins 0 entry room room
  begins_none = record { fits = omega arith; same = refl; each = λ k h. absurd (omega arith); rest = λ k h. refl }

  -- one more entry is written
  pub begins_more : (n : ℕ) (after : List ℕ) (e : ℕ) → Begins n entry room after → n < length room → entry n e
      → Begins (n + 1) entry room (set after n e)
  begins_more n after e b h p = record {
    fits = omega arith;
    same = length-set after n e ∙ b.same;
    each = λ k l. here k l (ℕ_discrete k n);
    rest = λ k l. get_or-set_other after n k e 0 (λ (q : k ≡ n). omega arith) ∙ b.rest k (omega arith);
  }
    where
      here : (k : ℕ) → k < n + 1 → Dec (k ≡ n) → entry k (get_or (set after n e) k 0)
      here k l (yes q) = rw (q, get_or-set_same after n e 0 (omega (arith, b.same))) p
      here k l (no q) = rw (get_or-set_other after n k e 0 q) (b.each k (omega arith))

  -- where each entry can be only one, so can the room
  pub begins_unique : (n : ℕ) (after after' : List ℕ) → ((k e e' : ℕ) → k < n → entry k e → entry k e' → e ≡ e')
      → Begins n entry room after → Begins n entry room after' → after ≡ after'
  begins_unique n after after' one a b = ext_get_or 0 after after' (a.same ∙ sym b.same) (λ k h. at k (dec_lt k n))
    where
      at : (k : ℕ) → Dec (k < n) → get_or after k 0 ≡ get_or after' k 0
      at k (yes h) = one k (get_or after k 0) (get_or after' k 0) h (a.each k h) (b.each k h)
      at k (no h) = a.rest k (omega arith) ∙ sym (b.rest k (omega arith))

-- a room that begins with a list is one, and so is the number of its entries
pub written_unique : (l l' room : List ℕ) (n n' : ℕ) (after after' : List ℕ) → l ≡ l' → Written l room n after
    → Written l' room n' after' → (n ≡ n') × (after ≡ after')
written_unique l l' room n n' after after' q (c, h, e) (c', h', e') =
    (c ∙ ap length q ∙ sym c', e ∙ ap (λ k. k ++ drop (length k) room) q ∙ sym e')

-- a list as long as the room fills it
pub whole_room : (l room : List ℕ) → length l ≡ length room → l ++ drop (length l) room ≡ l
whole_room l room e =
    ap (λ (k : ℕ). l ++ drop k room) e ∙ ap (λ (r : List ℕ). l ++ r) (drop-length room) ∙ append-nil l
