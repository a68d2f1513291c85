-- Two digits of a number at once.
use mathlib.Core.List.{List, append_assoc, [], ◌∷◌, ◌++◌}
use mathlib.Core.Path.{ap, ◌≡◌, ◌∙◌}
use Prim.Native.Nat.{ℕ, ◌+◌, ◌/◌, ◌%◌, ◌^◌, ◌≤◌, ◌<◌}
use native.Mathlib.Omega.{arith}
use lib.ListN.{length, length-append}
use Rattle.register.specs.Texts.{decimal}
use Rattle.register.proofs.Decimals.{decimal_tenth, decimal_one}
use Rattle.register.proofs.Digits.{one_digit, digit_more, ten_digits}
use Rattle.room_write.proofs.Writing.{put_one, put_more}
use Rattle.room_write.specs.Writing.{two_digits}

-- two digits at once
pub decimal_two : (n : ℕ) → 10 ≤ n → n < 100 → decimal n ≡ two_digits n
decimal_two n h l =
    decimal_tenth n h (omega arith) ∙ ap (λ (ds : List ℕ). ds ++ ((48 + n % 10) ∷ [])) (decimal_one (n / 10) (omega arith))

pub decimal_hundredth : (n : ℕ) → 100 ≤ n → n < 10 ^ 10 → decimal n ≡ decimal (n / 100) ++ two_digits (n % 100)
decimal_hundredth n h l =
    let q : n / 10 / 10 ≡ n / 100 = omega arith in
    let a : n / 10 % 10 ≡ n % 100 / 10 = omega arith in
    let b : n % 10 ≡ n % 100 % 10 = omega arith in
    decimal_tenth n (omega arith) l
    ∙ ap (λ (ds : List ℕ). ds ++ ((48 + n % 10) ∷ [])) (decimal_tenth (n / 10) (omega arith) (omega arith))
    ∙ append_assoc (decimal (n / 10 / 10)) ((48 + n / 10 % 10) ∷ []) ((48 + n % 10) ∷ [])
    ∙ ap (λ k. decimal k ++ ((48 + n / 10 % 10) ∷ (48 + n % 10) ∷ [])) q
    ∙ ap (λ d. decimal (n / 100) ++ ((48 + d) ∷ (48 + n % 10) ∷ [])) a
    ∙ ap (λ d. decimal (n / 100) ++ ((48 + n % 100 / 10) ∷ (48 + d) ∷ [])) b

pub digits_more : (n : ℕ) → 100 ≤ n → n < 10 ^ 10 → length (decimal n) ≡ length (decimal (n / 100)) + 2
digits_more n h l = ap length (decimal_hundredth n h l) ∙ length-append (decimal (n / 100)) (two_digits (n % 100))

-- what putting and counting digits is proved by
pub ruleset digits = (
  one_digit,
  digit_more,
  ten_digits,
  decimal_one,
  decimal_two,
  decimal_hundredth,
  digits_more,
  put_one,
  put_more,
)
