-- Laws of decimals: the bytes are digits, the first not 0 unless it is all; they say the number; and one digit more behind them
-- is ten times the number and that digit. How many digits there are is left to `Digits`, and a register's numbers to `Number`.
use mathlib.Core.List.{List, [], ◌∷◌, ◌++◌}
use mathlib.Core.Path.{ap, subst, refl, sym, ◌≡◌, ◌∙◌}
use Prim.Native.Nat.{ℕ, suc, zero, ◌+◌, ◌-◌, ◌*◌, ◌/◌, ◌%◌, ◌^◌, ◌≤◌, ◌<◌}
use native.Mathlib.Nat.{pow-suc}
use native.Mathlib.Decide.{dec_lt}
use native.Mathlib.Omega.{arith}
use lib.Dec.{ltb}
use borrow.Author.Tests.{lt-ltb, le-ltb}
use Rattle.register.specs.Texts.{decimal_in, pick_bytes, decimal}

-- more room for digits than are needed changes nothing
more : (f n : ℕ) → n < 10 ^ suc f → decimal_in (suc f) n ≡ decimal_in (suc (suc f)) n
unfolding decimal_in
more zero n h = let l : n < 10 = h in simp (lt-ltb n 10 l)
more (suc f) n h =
    let k : n / 10 < 10 ^ suc f = omega (arith, rw (pow-suc 10 (suc f)) at h) in
    ap (λ (ds : List ℕ). pick_bytes (ltb n 10) ((48 + n) ∷ []) (ds ++ ((48 + n % 10) ∷ []))) (more f (n / 10) k)

pub decimal_one : (n : ℕ) → n < 10 → decimal n ≡ (48 + n) ∷ []
unfolding decimal decimal_in
decimal_one n h = simp (lt-ltb n 10 h)

first_step : (n : ℕ) → 10 ≤ n → decimal_in 10 n ≡ decimal_in 9 (n / 10) ++ ((48 + n % 10) ∷ [])
unfolding decimal_in
first_step n h = simp (le-ltb n 10 h)

pub decimal_tenth : (n : ℕ) → 10 ≤ n → n < 10 ^ 10 → decimal n ≡ decimal (n / 10) ++ ((48 + n % 10) ∷ [])
unfolding decimal
decimal_tenth n h l = first_step n h ∙ ap (λ (ds : List ℕ). ds ++ ((48 + n % 10) ∷ [])) (more 8 (n / 10) (omega arith))

-- one digit more
pub decimal_more : (n d : ℕ) → 0 < n → d < 10 → n * 10 + d < 10 ^ 10 → decimal (n * 10 + d) ≡ decimal n ++ ((48 + d) ∷ [])
decimal_more n d h l k =
    let q : (n * 10 + d) / 10 ≡ n = omega arith in
    let r : (n * 10 + d) % 10 ≡ d = omega arith in
    decimal_tenth (n * 10 + d) (omega arith) k ∙ ap (λ a. decimal a ++ ((48 + (n * 10 + d) % 10) ∷ [])) q
    ∙ ap (λ b. decimal n ++ ((48 + b) ∷ [])) r

-- every byte is a digit's
abbrev pub Digits : List ℕ → Type 0
Digits [] = Unit {0}
Digits (b ∷ bs) = (48 ≤ b) × (b ≤ 57) × Digits bs

pub digits_append : (p q : List ℕ) → Digits p → Digits q → Digits (p ++ q)
digits_append [] q a b = b
digits_append (x ∷ p) q (l, h, a) b = (l, h, digits_append p q a b)

-- of any number, though it has more digits than are written
digits_in : (f n : ℕ) → Digits (decimal_in f n)
unfolding decimal_in
digits_in zero n = tt
digits_in (suc f) n = go (dec_lt n 10) (digits_in f (n / 10))
  where
    go : Dec (n < 10) → Digits (decimal_in f (n / 10))
        → Digits (pick_bytes (ltb n 10) ((48 + n) ∷ []) (decimal_in f (n / 10) ++ ((48 + n % 10) ∷ [])))
    go (yes l) ih = rw (lt-ltb n 10 l) (omega arith, omega arith, tt)
    go (no l) ih =
        rw (le-ltb n 10 (omega arith)) (digits_append (decimal_in f (n / 10)) ((48 + n % 10) ∷ []) ih
        (omega arith, omega arith, tt))

pub decimal_digits : (n : ℕ) → Digits (decimal n)
unfolding decimal
decimal_digits n = digits_in 10 n

-- What holds of one digit, and of a tenth with one digit more, holds of every number below 10 ^ 10.
module _ (P : ℕ → List ℕ → Type 0) (one : (n : ℕ) → n < 10 → P n ((48 + n) ∷ []))
    (step : (n d : ℕ) (ds : List ℕ) → 0 < n → d < 10 → P n ds → P (n * 10 + d) (ds ++ ((48 + d) ∷ []))) where
  by_digits : (f n : ℕ) → n < 10 ^ suc f → P n (decimal_in (suc f) n)
  unfolding decimal_in
  by_digits zero n h = let l : n < 10 = h in rw (lt-ltb n 10 l) (one n l)
  by_digits (suc f) n h = go (dec_lt n 10) (λ k. by_digits f (n / 10) k)
    where
      go : Dec (n < 10) → (n / 10 < 10 ^ suc f → P (n / 10) (decimal_in (suc f) (n / 10)))
          → P n (pick_bytes (ltb n 10) ((48 + n) ∷ []) (decimal_in (suc f) (n / 10) ++ ((48 + n % 10) ∷ [])))
      go (yes l) ih = rw (lt-ltb n 10 l) (one n l)
      go (no l) ih =
          let k : n / 10 < 10 ^ suc f = omega (arith, rw (pow-suc 10 (suc f)) at h) in
          let e : n / 10 * 10 + n % 10 ≡ n = omega arith in
          rw (le-ltb n 10 (omega arith)) (subst (λ m. P m (decimal_in (suc f) (n / 10) ++ ((48 + n % 10) ∷ []))) e
          (step (n / 10) (n % 10) (decimal_in (suc f) (n / 10)) (omega arith) (omega arith) (ih k)))

  pub of_decimal : (n : ℕ) → n < 10 ^ 10 → P n (decimal n)
  unfolding decimal
  of_decimal n h = by_digits 9 n h

-- the first byte of a number above 0 is not that of 0
abbrev pub Leads : ℕ → List ℕ → Type 0
Leads n [] = ⊥
Leads n (b ∷ bs) = 0 < n → 48 < b

leads_more : (n m : ℕ) (ds es : List ℕ) → 0 < n → Leads n ds → Leads m (ds ++ es)
leads_more n m [] es h p = absurd p
leads_more n m (b ∷ bs) es h p = λ _. p h

pub decimal_leads : (n : ℕ) → n < 10 ^ 10 → Leads n (decimal n)
decimal_leads = of_decimal Leads (λ n h l. omega arith) (λ n d ds h l p. leads_more n (n * 10 + d) ds ((48 + d) ∷ []) h p)

-- the number that digits say, the first the highest
unfoldable pub spell : ℕ → List ℕ → ℕ
spell a [] = a
spell a (b ∷ bs) = spell (a * 10 + (b - 48)) bs

spell_more : (a : ℕ) (ds : List ℕ) (b : ℕ) → spell a (ds ++ (b ∷ [])) ≡ spell a ds * 10 + (b - 48)
unfolding spell
spell_more a [] b = refl
spell_more a (d ∷ ds) b = spell_more (a * 10 + (d - 48)) ds b

says_one : (n : ℕ) → n < 10 → spell 0 ((48 + n) ∷ []) ≡ n
unfolding spell
says_one n h = omega arith

pub decimal_says : (n : ℕ) → n < 10 ^ 10 → spell 0 (decimal n) ≡ n
decimal_says = of_decimal (λ n ds. spell 0 ds ≡ n) says_one (λ n d ds h l p. spell_more 0 ds (48 + d) ∙ omega arith)

pub decimal_injective : (n m : ℕ) → n < 10 ^ 10 → m < 10 ^ 10 → decimal n ≡ decimal m → n ≡ m
decimal_injective n m h k e = sym (decimal_says n h) ∙ ap (spell 0) e ∙ decimal_says m k
