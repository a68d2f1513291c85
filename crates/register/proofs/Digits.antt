-- How many digits a decimal has. What the digits are is left to `Decimals`.
use mathlib.Core.Bool.{Bool, true, false}
use mathlib.Core.List.{[], ◌∷◌, ◌++◌}
use mathlib.Core.Path.{ap, ◌≡◌, ◌∙◌}
use Prim.Native.Nat.{ℕ, zero, suc, ◌+◌, ◌/◌, ◌%◌, ◌^◌, ◌≤◌, ◌<◌}
use native.Mathlib.Nat.{pow-suc, pow-le-pow_right}
use native.Mathlib.Decide.{dec_lt}
use native.Mathlib.Omega.{arith}
use lib.Dec.{ltb}
use lib.ListN.{length, length-append}
use Rattle.register.specs.Texts.{decimal, decimal_in, pick_bytes}
use Rattle.register.proofs.Decimals.{decimal_one, decimal_tenth}

pub one_digit : (n : ℕ) → n < 10 → length (decimal n) ≡ 1
one_digit n h = ap length (decimal_one n h)

pub digit_more : (n : ℕ) → 10 ≤ n → n < 10 ^ 10 → length (decimal n) ≡ length (decimal (n / 10)) + 1
digit_more n h l = ap length (decimal_tenth n h l) ∙ length-append (decimal (n / 10)) ((48 + n % 10) ∷ [])

-- never more than 10
within : (f n : ℕ) → length (decimal_in f n) ≤ f
unfolding decimal_in
within zero n = omega arith
within (suc f) n = go (ltb n 10) (within f (n / 10))
  where
    go : (b : Bool) → length (decimal_in f (n / 10)) ≤ f → length
        (pick_bytes b ((48 + n) ∷ []) (decimal_in f (n / 10) ++ ((48 + n % 10) ∷ []))) ≤ suc f
    go true i = omega arith
    go false i = omega (arith, length-append (decimal_in f (n / 10)) ((48 + n % 10) ∷ []))

pub ten_digits : (n : ℕ) → length (decimal n) ≤ 10
unfolding decimal
ten_digits n = within 10 n

-- a number below 10 ^ k has at most k
shorter : (k n : ℕ) → n < 10 ^ 10 → (n / 10 < 10 ^ 10 → length (decimal (n / 10)) ≤ k) → length (decimal n) ≤ suc k
shorter k n h i = go (dec_lt n 10)
  where
    go : Dec (n < 10) → length (decimal n) ≤ suc k
    go (yes l) = omega (arith, one_digit n l)
    go (no l) = omega (arith, digit_more n (omega arith) h, i (omega arith))

pub few_digits : (k n : ℕ) → k ≤ 9 → n < 10 ^ suc k → length (decimal n) ≤ suc k
few_digits zero n l h = omega (arith, one_digit n h)
few_digits (suc k) n l h =
    let few : suc (suc k) ≤ 10 = omega arith in
    let most : 10 ^ suc (suc k) ≤ 10 ^ 10 = pow-le-pow_right {n = 10} (omega arith) few in
    let tenth : n / 10 < 10 ^ suc k = omega (arith, rw (pow-suc 10 (suc k)) at h) in
    shorter (suc k) n (omega (arith, h, most)) (λ a. few_digits k (n / 10) (omega arith) tenth)

pub four_digits : (n : ℕ) → n < 10000 → length (decimal n) ≤ 4
four_digits n h = few_digits 3 n (omega arith) h

pub five_digits : (n : ℕ) → n < 100000 → length (decimal n) ≤ 5
five_digits n h = few_digits 4 n (omega arith) h
