-- Laws of a register's numbers. Only this file and `NumberForms` look into what a number is and how it is written; lines,
-- listings, examples and programs go by these laws. Reading a number, its size and writing it are left to `register_number`.
use mathlib.Core.Bool.{Bool, cond, not, ◌&&◌}
use mathlib.Core.List.{List, append-nil, [], ◌∷◌, ◌++◌}
use mathlib.Core.Logic.{inl, inr, ◌⊎◌, ◌↔◌}
use mathlib.Core.Path.{ap, refl, subst, sym, ◌≡◌, ◌∙◌}
use Prim.Native.Nat.{ℕ, ◌+◌, ◌-◌, ◌*◌, ◌/◌, ◌%◌, ◌≤◌, ◌<◌}
use native.Mathlib.Decide.{dec_lt}
use native.Mathlib.Omega.{arith}
use lib.Dec.{T, ltb, leb, eqb, ltb→lt, lt→ltb, leb→le, le→leb}
use lib.ListN.{length, length-append}
use borrow.Author.Tests.{lt-ltb, le-ltb, ne_eqb}
use Rattle.game.proofs.Search.{both, and_of, decide, clash}
use Rattle.register.specs.Texts.{decimal}
use Rattle.register.specs.Number.{Proper, form_bytes, code, Earlier, form_of, IsNumber, number_bytes}
use Rattle.register.specs.declared.Form.{Form}
use Rattle.register.specs.declared.Form.TheVariants.{Plain, Year}
use Rattle.register.proofs.Decimals.{Digits, decimal_digits, decimal_says, spell, Leads, decimal_leads}
use Rattle.register.proofs.Digits.{few_digits, ten_digits}

-- The form of a code below 100,000,000, and of any other.
pub plain_of : (n : ℕ) → n < 100000000 → form_of n ≡ Plain n
plain_of n h = simp (lt-ltb n 100000000 h)

pub year_of : (n : ℕ) → 100000000 ≤ n → form_of n ≡ Year (record { year = n / 10000 - 10000; serial = n % 10000 })
year_of n h = simp (le-ltb n 100000000 h)

-- its value, or its serial, is below the limit, whatever the code is
abbrev pub Limited : Form → Type 0
Limited (Plain value) = value < 100000000
Limited (Year dated) = dated.serial < 10000

pub form_limited : (n : ℕ) → Limited (form_of n)
form_limited n = go (dec_lt n 100000000)
  where
    go : Dec (n < 100000000) → Limited (form_of n)
    go (yes h) = subst Limited (sym (plain_of n h)) h
    go (no h) = subst Limited (sym (year_of n (omega arith))) (omega arith)

-- a code is the code of its form; so no two numbers have the same
pub form_of_code : (form : Form) → Proper form → form_of (code form) ≡ form
form_of_code (Plain value) h = plain_of value h.1
form_of_code (Year dated) h =
    let n : ℕ = code (Year dated) in
    let y : n / 10000 - 10000 ≡ dated.year = omega arith in
    let s : n % 10000 ≡ dated.serial = omega arith in
    year_of n (omega arith) ∙ (λ i. Year (record { year = y i; serial = s i }))

pub code_injective : (form form' : Form) → Proper form → Proper form' → code form ≡ code form' → form ≡ form'
code_injective form form' h h' e = sym (form_of_code form h) ∙ ap form_of e ∙ form_of_code form' h'

-- a smaller code exactly if earlier
pub code_order : (form form' : Form) → Proper form → Proper form' → (code form < code form') ↔ Earlier form form'
code_order (Plain value) (Plain value') h h' = (λ l. l, λ l. l)
code_order (Plain value) (Year dated) h h' = (λ l. tt, λ l. omega (arith, h.1))
code_order (Year dated) (Plain value) h h' = (λ l. omega (arith, l, h'.1), λ l. absurd l)
code_order (Year dated) (Year dated') h h' = (to (dec_lt dated.year dated'.year), from)
  where
    to : Dec (dated.year < dated'.year) → code (Year dated) < code (Year dated') → Earlier (Year dated) (Year dated')
    to (yes y) l = inl (omega arith)
    to (no y) l = inr (omega (arith, h'), omega (arith, h'))

    from : Earlier (Year dated) (Year dated') → code (Year dated) < code (Year dated')
    from (inl y) = omega (arith, h)
    from (inr (e, s)) = omega arith

-- The code of a form that is proper is a number's, and is written as the form is.
pub code_number : (form : Form) → Proper form → IsNumber (code form)
unfolding IsNumber
code_number form h = (form, h, refl)

pub code_bytes : (form : Form) → Proper form → number_bytes (code form) ≡ form_bytes form
unfolding number_bytes
code_bytes form h = ap form_bytes (form_of_code form h)

-- so a plain number's bytes are its decimals
pub plain_number : (n : ℕ) → 0 < n → n < 100000000 → IsNumber n
plain_number n h k = code_number (Plain n) (h, k)

pub plain_bytes : (n : ℕ) → 0 < n → n < 100000000 → number_bytes n ≡ decimal n
plain_bytes n h k = code_bytes (Plain n) (h, k)

-- What holds of the two forms holds of every number and its bytes.
module _ (P : ℕ → List ℕ → Type 0) (of_plain : (value : ℕ) → 0 < value → value < 100000000 → P value (decimal value))
    (of-year : (y s : ℕ) → 1000 ≤ y → y ≤ 2099 → 0 < s → s < 10000
    → P (100000000 + 10000 * y + s) (decimal y ++ (46 ∷ decimal s))) where
  pub by_form : (n : ℕ) → IsNumber n → P n (number_bytes n)
  unfolding IsNumber
  by_form n (form, h, e) =
      subst (λ m. P m (number_bytes m)) (sym e) (subst (P (code form)) (sym (code_bytes form h)) (go form h))
    where
      go : (form : Form) → Proper form → P (code form) (form_bytes form)
      go (Plain value) h = of_plain value h.0 h.1
      go (Year dated) h = of-year dated.year dated.serial h.0 h.1 h.2 h.3

-- Which codes there are: 0 is none, and none is at `numbers_end` or above.
pub number_above : (n : ℕ) → IsNumber n → 0 < n
number_above = by_form (λ n l. 0 < n) (λ value h k. h) (λ y s a b c d. omega arith)

unfoldable pub numbers_end : ℕ
numbers_end = 121000000

pub number_below : (n : ℕ) → IsNumber n → n < numbers_end
unfolding numbers_end
number_below = by_form (λ n l. n < 121000000) (λ value h k. omega arith) (λ y s a b c d. omega arith)

-- the form of a code has that code; so a code is a number's exactly if its form is proper
code_of_form : (n : ℕ) → n ≡ code (form_of n)
code_of_form n = go (dec_lt n 100000000)
  where
    go : Dec (n < 100000000) → n ≡ code (form_of n)
    go (yes h) = ap code (sym (plain_of n h))
    go (no h) =
        let e : n ≡ 100000000 + 10000 * (n / 10000 - 10000) + n % 10000 = omega arith in
        e ∙ ap code (sym (year_of n (omega arith)))

pub proper_number : (n : ℕ) → Proper (form_of n) → IsNumber n
unfolding IsNumber
proper_number n h = (form_of n, h, code_of_form n)

pub number_proper : (n : ℕ) → IsNumber n → Proper (form_of n)
unfolding IsNumber
number_proper n (form, h, e) = subst (λ m. Proper (form_of m)) (sym e) (subst Proper (sym (form_of_code form h)) h)

-- a test that computes
abbrev pub proper_test : Form → Bool
proper_test (Plain value) = ltb 0 value && ltb value 100000000
proper_test (Year dated) =
    (leb 1000 dated.year && leb dated.year 2099) && (ltb 0 dated.serial && ltb dated.serial 10000)

unfoldable pub number_test : ℕ → Bool
number_test n = proper_test (form_of n)

pub number_tested : (n : ℕ) → T (number_test n) → IsNumber n
unfolding number_test
number_tested n t = proper_number n (go (form_of n) t)
  where
    go : (form : Form) → T (proper_test form) → Proper form
    go (Plain value) t =
        let (a, b) = both (ltb 0 value) (ltb value 100000000) t in (ltb→lt 0 value a, ltb→lt value 100000000 b)
    go (Year dated) t =
        let (y, s) = both (leb 1000 dated.year && leb dated.year 2099)
        (ltb 0 dated.serial && ltb dated.serial 10000) t in
        let (a, b) = both (leb 1000 dated.year) (leb dated.year 2099) y in
        let (c, d) = both (ltb 0 dated.serial) (ltb dated.serial 10000) s in (
          leb→le 1000 dated.year a,
          leb→le dated.year 2099 b,
          ltb→lt 0 dated.serial c,
          ltb→lt dated.serial 10000 d,
        )

pub number_passes : (n : ℕ) → IsNumber n → T (number_test n)
unfolding number_test
number_passes n h = go (form_of n) (number_proper n h)
  where
    go : (form : Form) → Proper form → T (proper_test form)
    go (Plain value) h = and_of (ltb 0 value) (ltb value 100000000) (lt→ltb 0 value h.0) (lt→ltb value 100000000 h.1)
    go (Year dated) h =
        and_of (leb 1000 dated.year && leb dated.year 2099) (ltb 0 dated.serial && ltb dated.serial 10000)
        (and_of (leb 1000 dated.year) (leb dated.year 2099) (le→leb 1000 dated.year h.0)
        (le→leb dated.year 2099 h.1))
        (and_of (ltb 0 dated.serial) (ltb dated.serial 10000) (lt→ltb 0 dated.serial h.2)
        (lt→ltb dated.serial 10000 h.3))

pub number? : (n : ℕ) → IsNumber n ⊎ (¬ IsNumber n)
number? n = go (decide (number_test n))
  where
    go : T (number_test n) ⊎ T (not (number_test n)) → IsNumber n ⊎ (¬ IsNumber n)
    go (inl t) = inl (number_tested n t)
    go (inr t) = inr (λ h. clash (number_test n) (number_passes n h) t)

-- How long its bytes are, and those of any other code.
pub number_short : (n : ℕ) → IsNumber n → length (number_bytes n) ≤ 9
number_short =
    by_form (λ n l. length l ≤ 9) (λ value h k. omega (arith, few_digits 7 value (omega arith) k))
    (λ y s a b c d. omega (
      arith,
      length-append (decimal y) (46 ∷ decimal s),
      few_digits 3 y (omega arith) (omega arith),
      few_digits 3 s (omega arith) (omega arith),
    ))

pub number_small : (n : ℕ) → length (number_bytes n) ≤ 15
unfolding number_bytes
number_small n = go (dec_lt n 100000000)
  where
    go : Dec (n < 100000000) → length (form_bytes (form_of n)) ≤ 15
    go (yes h) = rw (plain_of n h) (omega (arith, ten_digits n))
    go (no h) =
        rw (year_of n (omega arith)) (omega (
          arith,
          length-append (decimal (n / 10000 - 10000)) (46 ∷ decimal (n % 10000)),
          ten_digits (n / 10000 - 10000),
          few_digits 3 (n % 10000) (omega arith) (omega arith),
        ))

-- every byte is above 10, so that none of them parts fields or ends a line
abbrev pub Unbroken : List ℕ → Type 0
Unbroken [] = Unit {0}
Unbroken (b ∷ bs) = (10 < b) × Unbroken bs

digits_unbroken : (ds : List ℕ) → Digits ds → Unbroken ds
digits_unbroken [] d = tt
digits_unbroken (b ∷ bs) (l, h, d) = (omega arith, digits_unbroken bs d)

unbroken_append : (p q : List ℕ) → Unbroken p → Unbroken q → Unbroken (p ++ q)
unbroken_append [] q a b = b
unbroken_append (x ∷ p) q (l, a) b = (l, unbroken_append p q a b)

pub decimal_unbroken : (n : ℕ) → Unbroken (decimal n)
decimal_unbroken n = digits_unbroken (decimal n) (decimal_digits n)

pub number_unbroken : (n : ℕ) → IsNumber n → Unbroken (number_bytes n)
number_unbroken =
    by_form (λ n l. Unbroken l) (λ value h k. decimal_unbroken value)
    (λ y s a b c d. unbroken_append (decimal y) (46 ∷ decimal s) (decimal_unbroken y) (omega arith, decimal_unbroken s))

-- the first byte is a digit, and not that of 0
abbrev pub DigitFirst : List ℕ → Type 0
DigitFirst [] = ⊥
DigitFirst (b ∷ bs) = (48 < b) × (b ≤ 57)

decimal_first : (n : ℕ) (behind : List ℕ) → 0 < n → n < 100000000 → DigitFirst (decimal n ++ behind)
decimal_first n behind h k = go (decimal n) (decimal_leads n (omega arith)) (decimal_digits n)
  where
    go : (ds : List ℕ) → Leads n ds → Digits ds → DigitFirst (ds ++ behind)
    go [] l d = absurd l
    go (b ∷ bs) l d = (l h, d.1)

pub number_leads : (n : ℕ) → IsNumber n → DigitFirst (number_bytes n)
number_leads =
    by_form (λ n l. DigitFirst l) (λ value h k. rw append-nil at (decimal_first value [] h k))
    (λ y s a b c d. decimal_first y (46 ∷ decimal s) (omega arith) (omega arith))

-- The number that bytes say: digits, or digits, a point and digits.
unfoldable pub spell_number : ℕ → List ℕ → ℕ
spell_number a [] = a
spell_number a (b ∷ bs) = cond (eqb b 46) (100000000 + 10000 * a + spell 0 bs) (spell_number (a * 10 + (b - 48)) bs)

spells_plain : (a : ℕ) (ds : List ℕ) → Digits ds → spell_number a ds ≡ spell a ds
unfolding spell_number spell
spells_plain a [] d = refl
spells_plain a (b ∷ bs) (l, h, d) = rw (ne_eqb b 46 (λ e. omega arith)) (spells_plain (a * 10 + (b - 48)) bs d)

spells_year : (a : ℕ) (ds s : List ℕ) → Digits ds → spell_number a (ds ++ (46 ∷ s)) ≡ 100000000 + 10000 * spell a ds + spell 0 s
unfolding spell_number spell
spells_year a [] s d = refl
spells_year a (b ∷ bs) s (l, h, d) = rw (ne_eqb b 46 (λ e. omega arith)) (spells_year (a * 10 + (b - 48)) bs s d)

pub number_says : (n : ℕ) → IsNumber n → spell_number 0 (number_bytes n) ≡ n
number_says =
    by_form (λ n l. spell_number 0 l ≡ n)
    (λ value h k. spells_plain 0 (decimal value) (decimal_digits value) ∙ decimal_says value (omega arith))
    (λ y s a b c d. spells_year 0 (decimal y) (decimal s) (decimal_digits y)
    ∙ omega (arith, decimal_says y (omega arith), decimal_says s (omega arith)))

pub number_injective : (n m : ℕ) → IsNumber n → IsNumber m → number_bytes n ≡ number_bytes m → n ≡ m
number_injective n m h k e = sym (number_says n h) ∙ ap (spell_number 0) e ∙ number_says m k

-- bytes above 10 with a byte up to 10 behind them are parted from what follows at one place only
pub split_once : (p q : List ℕ) (c d : ℕ) (r t : List ℕ) → Unbroken p → Unbroken q → c ≤ 10 → d ≤ 10
    → p ++ (c ∷ r) ≡ q ++ (d ∷ t) → (p ≡ q) × (c ≡ d) × (r ≡ t)
split_once [] [] c d r t a b h k e = (refl, cc, cc)
split_once [] (y ∷ q) c d r t a b h k e = let f : c ≡ y = cc in absurd (omega arith)
split_once (x ∷ p) [] c d r t a b h k e = let f : x ≡ d = cc in absurd (omega arith)
split_once (x ∷ p) (y ∷ q) c d r t (l, a) (l', b) h k e =
    let same : x ≡ y = cc in
    let (f, i, g) = split_once p q c d r t a b h k (cc) in
    (cc, i, g)

-- so a number that a byte up to 10 follows is read in one way
pub number_once : (n m c d : ℕ) (r t : List ℕ) → IsNumber n → IsNumber m → c ≤ 10 → d ≤ 10
    → number_bytes n ++ (c ∷ r) ≡ number_bytes m ++ (d ∷ t) → (n ≡ m) × (r ≡ t)
number_once n m c d r t h k a b e =
    let (f, i, g) = split_once (number_bytes n) (number_bytes m) c d r t (number_unbroken n h) (number_unbroken m k) a b e in
    (number_injective n m h k f, g)
