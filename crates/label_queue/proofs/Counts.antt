-- The number of objections that are not marked done.
use mathlib.Core.Path.{refl, ap, ◌≡◌}
use mathlib.Core.Bool.{Bool, true, false}
use mathlib.Core.List.{List, [], ◌∷◌}
use Prim.Native.Nat.{ℕ, zero, suc, ◌+◌, ◌<◌}
use native.Mathlib.Nat.{not-suc-le-zero, le_of_suc-le-suc}
use native.Mathlib.Omega.{arith}
use native.Mathlib.Decide.{ℕ_discrete}
use lib.Dec.{eqb}
use lib.ListN.{length, get_or, set}
use borrow.Author.Tests.{eq-eqb, ne_eqb}
use Rattle.label_queue.specs.Queue.{one, cnt}

one_more : (b : Bool) (m n : ℕ) → m + 1 ≡ n → one b m + 1 ≡ one b n
one_more true m n h = omega arith
one_more false m n h = h

-- one objection less
pub cnt_flip : (ts ds : List ℕ) (e x : ℕ) → e < length ts → e < length ds → get_or ds e 0 ≡ 0 → get_or ts e 0 ≡ x
    → cnt ts (set ds e 1) x + 1 ≡ cnt ts ds x
unfolding cnt
cnt_flip [] ds e x ht hd z p = absurd (not-suc-le-zero ht)
cnt_flip (t ∷ ts) [] e x ht hd z p = absurd (not-suc-le-zero hd)
cnt_flip (t ∷ ts) (zero ∷ ds) zero x ht hd z p = rw (eq-eqb t x p) (omega arith)
cnt_flip (t ∷ ts) (suc d ∷ ds) zero x ht hd z p = omega arith
cnt_flip (t ∷ ts) (zero ∷ ds) (suc e) x ht hd z p =
    one_more (eqb t x) _ _ (cnt_flip ts ds e x (le_of_suc-le-suc ht) (le_of_suc-le-suc hd) z p)
cnt_flip (t ∷ ts) (suc d ∷ ds) (suc e) x ht hd z p = cnt_flip ts ds e x (le_of_suc-le-suc ht) (le_of_suc-le-suc hd) z p

-- other places' numbers stay
pub cnt_other : (ts ds : List ℕ) (e v x : ℕ) → (get_or ts e 0 ≡ x → ⊥) → e < length ts → cnt ts (set ds e v) x ≡ cnt ts ds x
unfolding cnt
cnt_other [] ds e v x n ht = refl
cnt_other (t ∷ ts) [] e v x n ht = refl
cnt_other (t ∷ ts) (zero ∷ ds) zero zero x n ht = refl
cnt_other (t ∷ ts) (zero ∷ ds) zero (suc v) x n ht = rw (ne_eqb t x n)
cnt_other (t ∷ ts) (suc d ∷ ds) zero zero x n ht = rw (ne_eqb t x n)
cnt_other (t ∷ ts) (suc d ∷ ds) zero (suc v) x n ht = refl
cnt_other (t ∷ ts) (zero ∷ ds) (suc e) v x n ht = ap (one (eqb t x)) (cnt_other ts ds e v x n (le_of_suc-le-suc ht))
cnt_other (t ∷ ts) (suc d ∷ ds) (suc e) v x n ht = cnt_other ts ds e v x n (le_of_suc-le-suc ht)

-- none left: each objection against x is done
pub cnt_none : (ts ds : List ℕ) (e x : ℕ) → cnt ts ds x ≡ 0 → e < length ts → e < length ds → get_or ts e 0 ≡ x → get_or ds e 0 ≡
    0
    → ⊥
cnt_none ts ds e x c ht hd p z = omega (arith, cnt_flip ts ds e x ht hd z p)

-- some left: an objection against x is not done
pub cnt_some : (ts ds : List ℕ) (x : ℕ) → (cnt ts ds x ≡ 0 → ⊥) → (e : ℕ) × (e < length ts) × (get_or ts e 0 ≡ x)
    × (get_or ds e 0 ≡ 0)
unfolding cnt
cnt_some [] ds x n = absurd (n refl)
cnt_some (t ∷ ts) [] x n = absurd (n refl)
cnt_some (t ∷ ts) (zero ∷ ds) x n = go (λ m. cnt_some ts ds x m) (ℕ_discrete t x)
  where
    go : ((cnt ts ds x ≡ 0 → ⊥) → (e : ℕ) × (e < length ts) × (get_or ts e 0 ≡ x) × (get_or ds e 0 ≡ 0)) → Dec (t ≡ x) → (e : ℕ)
        × (e < length (t ∷ ts)) × (get_or (t ∷ ts) e 0 ≡ x) × (get_or (0 ∷ ds) e 0 ≡ 0)
    go f (yes p) = (zero, omega arith, p, refl)
    go f (no p) = let w = f (λ z. n (rw (ne_eqb t x p) z)) in (suc w.0, omega (arith, w.1), w.2, w.3)
cnt_some (t ∷ ts) (suc d ∷ ds) x n = let w = cnt_some ts ds x n in (suc w.0, omega (arith, w.1), w.2, w.3)

-- all done: none left
pub cnt_ones : (ts ds : List ℕ) (x : ℕ) → ((e : ℕ) → e < length ts → get_or ds e 0 ≡ 0 → ⊥) → cnt ts ds x ≡ 0
cnt_ones ts ds x h = go (ℕ_discrete (cnt ts ds x) 0)
  where
    go : Dec (cnt ts ds x ≡ 0) → cnt ts ds x ≡ 0
    go (yes p) = p
    go (no p) = let w = cnt_some ts ds x p in absurd (h w.0 w.1 w.3)
