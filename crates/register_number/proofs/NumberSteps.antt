-- What the readers of digits and of lines know of the bytes passed: digits before a place and no digit at it, and that digits
-- which no digit follows are those of one number only. The two forms are left to `FormSteps`.
use mathlib.Core.List.{List, append_assoc, [], ◌∷◌, ◌++◌}
use mathlib.Core.Path.{refl, ap, ◌≡◌, sym, ◌∙◌}
use Prim.Native.Nat.{ℕ, zero, suc, ◌+◌, ◌-◌, ◌*◌, ◌^◌, ◌≤◌, ◌<◌}
use native.Mathlib.Nat.{not-suc-le-zero, le_of_suc-le-suc, pow-le-pow_right, pow-suc}
use native.Mathlib.Decide.{dec_le}
use native.Mathlib.Numerals.{add-one}
use native.Mathlib.Omega.{arith}
use lib.ListN.{length, get_or, drop, length-append}
use lib.Seq.{drop-cons}
use borrow.Author.Tests.{le-leb, lt-leb}
use Rattle.register.specs.Texts.{decimal}
use Rattle.register_number.specs.NumberReading.{byte_at, digit_of, NoDigit, DigitsAt}
use Rattle.std.specs.Prelude.{Some, None}
use Rattle.register.proofs.Decimals.{Digits, digits_append, decimal_digits, Leads, decimal_leads, decimal_one, decimal_more}
use Rattle.register.proofs.Digits.{few_digits}

-- inside a list the default does not matter
pub inside : (s : List ℕ) (i a b : ℕ) → i < length s → get_or s i a ≡ get_or s i b
inside [] i a b h = absurd (not-suc-le-zero h)
inside (x ∷ xs) zero a b h = refl
inside (x ∷ xs) (suc i) a b h = inside xs i a b (le_of_suc-le-suc h)

-- what is a byte stands inside
pub byte_inside : (s : List ℕ) (i b : ℕ) → byte_at s i ≡ b → b < 256 → i < length s
byte_inside [] i b h l = absurd (omega arith)
byte_inside (x ∷ xs) zero b h l = omega arith
byte_inside (x ∷ xs) (suc i) b h l = let r : i < length xs = byte_inside xs i b h l in omega arith

-- the byte at a place is what the rest begins with
pub byte_first : (s : List ℕ) (i b : ℕ) → byte_at s i ≡ b → b < 256 → drop i s ≡ b ∷ drop (i + 1) s
byte_first s i b h l =
    let k : i < length s = byte_inside s i b h l in
    rw add-one (drop-cons s i 0 k ∙ ap (λ x. x ∷ drop (suc i) s) (inside s i 0 256 k ∙ h))

pub first_byte : (s : List ℕ) (i b : ℕ) (r : List ℕ) → drop i s ≡ b ∷ r → byte_at s i ≡ b
first_byte [] zero b r e = let z : ◌≡◌ {A = ℕ} 0 1 = cc in absurd (omega arith)
first_byte [] (suc i) b r e = let z : ◌≡◌ {A = ℕ} 0 1 = cc in absurd (omega arith)
first_byte (x ∷ xs) zero b r e = cc
first_byte (x ∷ xs) (suc i) b r e = first_byte xs i b r e

pub second_bytes : (s : List ℕ) (i b : ℕ) (r : List ℕ) → drop i s ≡ b ∷ r → drop (i + 1) s ≡ r
second_bytes [] zero b r e = let z : ◌≡◌ {A = ℕ} 0 1 = cc in absurd (omega arith)
second_bytes [] (suc i) b r e = let z : ◌≡◌ {A = ℕ} 0 1 = cc in absurd (omega arith)
second_bytes (x ∷ xs) zero b r e = cc
second_bytes (x ∷ xs) (suc i) b r e = rw add-one (rw add-one at (second_bytes xs i b r e))

digit_value : (b : ℕ) → digit_of b < 10 → b ≡ 48 + digit_of b
digit_value b h = go (dec_le 48 b) (dec_le b 57)
  where
    go : Dec (48 ≤ b) → Dec (b ≤ 57) → b ≡ 48 + digit_of b
    go (yes l) (yes m) = simp (le-leb 48 b l, le-leb b 57 m) (omega arith)
    go (yes l) (no m) = let e : digit_of b ≡ 10 = simp (le-leb 48 b l, lt-leb b 57 (omega arith)) in absurd (omega arith)
    go (no l) m = let e : digit_of b ≡ 10 = simp (lt-leb 48 b (omega arith)) in absurd (omega arith)

no_value : (b : ℕ) → 48 ≤ b → b ≤ 57 → digit_of b < 10
no_value b l m = simp (le-leb 48 b l, le-leb b 57 m) (omega arith)

module _ (s : List ℕ) (i d : ℕ) (here : d ≡ digit_of (byte_at s i)) where
  digit_byte : d < 10 → byte_at s i ≡ 48 + d
  digit_byte h = digit_value (byte_at s i) (omega arith) ∙ ap (λ k. 48 + k) (sym here)

  digit_first : d < 10 → drop i s ≡ (48 + d) ∷ drop (i + 1) s
  digit_first h = byte_first s i (48 + d) (digit_byte h) (omega arith)

  pub digit_inside : d < 10 → i < length s
  digit_inside h = byte_inside s i (48 + d) (digit_byte h) (omega arith)

  no_digit : 9 < d → NoDigit (drop i s)
  no_digit h b r e l m =
      let q : digit_of b < 10 = no_value b l m in
      omega (arith, here, ap digit_of (first_byte s i b r e))

-- digits that no digit follows end at one place only
pub digits_once : (p q u r : List ℕ) → Digits p → Digits q → NoDigit u → NoDigit r → p ++ u ≡ q ++ r → (p ≡ q) × (u ≡ r)
digits_once [] [] u r a b n m e = (refl, e)
digits_once [] (y ∷ q) u r a b n m e = absurd (n y (q ++ r) e b.0 b.1)
digits_once (x ∷ p) [] u r a b n m e = absurd (m x (p ++ u) (sym e) a.0 a.1)
digits_once (x ∷ p) (y ∷ q) u r a b n m e =
    let z : x ≡ y = cc in
    let (f, g) = digits_once p q u r a.2 b.2 n m (cc) in
    (cc, g)

-- digits that stand before others are no more than all that no digit follows
digits_fewer : (p q u r : List ℕ) → Digits p → NoDigit r → p ++ u ≡ q ++ r → length p ≤ length q
digits_fewer [] q u r a m e = omega arith
digits_fewer (x ∷ p) [] u r a m e = absurd (m x (p ++ u) (sym e) a.0 a.1)
digits_fewer (x ∷ p) (y ∷ q) u r a m e =
    let t : p ++ u ≡ q ++ r = cc in
    let f : length p ≤ length q = digits_fewer p q u r a.2 m t in
    omega arith

-- the first digit of a number above 0 is not 0
lead : (v : ℕ) (r u : List ℕ) → 0 < v → v < 10 ^ 10 → u ≡ decimal v ++ r → (b : ℕ) × (t : List ℕ) × (u ≡ b ∷ t) × (48 < b)
    × (b ≤ 57)
lead v r u h k e = go (decimal v) refl (decimal_leads v k) (decimal_digits v)
  where
    go : (ds : List ℕ) → decimal v ≡ ds → Leads v ds → Digits ds → (b : ℕ) × (t : List ℕ) × (u ≡ b ∷ t) × (48 < b) × (b ≤ 57)
    go [] q l d = absurd l
    go (b ∷ bs) q l d = (b, bs ++ r, e ∙ ap (λ ds. ds ++ r) q, l h, d.1)

-- what is below a power of ten has at most so many digits
few : (most : ℕ) → 1 ≤ most → most ≤ 9 → (n : ℕ) → n < 10 ^ most → length (decimal n) ≤ most
few zero h k n b = absurd (omega arith)
few (suc m) h k n b = few_digits m n (omega arith) b

-- The loop: the digits from `at` to i are those of the value, and at most so many.
pub record Inv (s : List ℕ) (at most value i : ℕ) : Type 0 where
  pub from : at < i
  pub few : i ≤ at + most
  pub within : i ≤ length s
  pub above : 0 < value
  pub small : value < 10 ^ (i - at)
  pub count : length (decimal value) ≡ i - at
  pub spells : drop at s ≡ decimal value ++ drop i s

module _ (most : ℕ) (some : 1 ≤ most) (limited : most ≤ 9) where
  bounded : (v : ℕ) → v < 10 ^ most → v < 10 ^ 9
  bounded v h = omega (arith, h, pow-le-pow_right {n = 10} (omega arith) (let k : most ≤ 9 = limited in k))

  pub begin : (s : List ℕ) (at d : ℕ) → d ≡ digit_of (byte_at s at) → (d ≡ 0 → ⊥) → d ≤ 9 → Inv s at most d (at + 1)
  begin s at d here z l =
      let n : at + 1 - at ≡ 1 = omega arith in
      let k : at < length s = digit_inside s at d here (omega arith) in
      record {
        from = omega arith;
        few = omega arith;
        within = omega arith;
        above = omega arith;
        small = rw n (omega arith);
        count = rw (n, decimal_one d (omega arith)) refl;
        spells = rw (decimal_one d (omega arith)) (digit_first s at d here (omega arith));
      }

  pub zero_first : (s : List ℕ) (at d : ℕ) → d ≡ digit_of (byte_at s at) → d ≡ 0 → DigitsAt s at (10 ^ most) None
  zero_first s at d here z v rest a b m e =
      let (c, t, q, l, h) = lead v rest (drop at s) a (omega (arith, bounded v b)) e in
      omega (arith, digit_byte s at d here (omega arith), first_byte s at c t q)

  pub none_first : (s : List ℕ) (at d : ℕ) → d ≡ digit_of (byte_at s at) → 9 < d → DigitsAt s at (10 ^ most) None
  none_first s at d here h v rest a b m e =
      let (c, t, q, l, u) = lead v rest (drop at s) a (omega (arith, bounded v b)) e in
      no_digit s at d here h c t q (omega arith) u

  module _ (s : List ℕ) (at value i : ℕ) (v : Inv s at most value i) where
    pub below_last : i - at < most → value < 10 ^ 8
    below_last h = omega (arith, v.small, pow-le-pow_right {n = 10} (omega arith) (let k : i - at ≤ 8 = omega arith in k))

    pub turn : (d : ℕ) → d ≡ digit_of (byte_at s i) → d ≤ 9 → i - at < most → Inv s at most (value * 10 + d) (i + 1)
    turn d here l h =
        let n : i + 1 - at ≡ suc (i - at) = omega (arith, v.from) in
        let m : value < 10 ^ 8 = below_last h in
        let q : decimal (value * 10 + d) ≡ decimal value ++ ((48 + d) ∷ []) = decimal_more value d v.above (omega arith)
        (omega arith) in
        let k : i < length s = digit_inside s i d here (omega arith) in
        record {
          from = omega (arith, v.from);
          few = omega (arith, v.from);
          within = omega arith;
          above = omega (arith, v.above);
          small = rw (n, pow-suc) (omega (arith, v.small));
          count = rw (n, q) (length-append (decimal value) ((48 + d) ∷ []) ∙ omega (arith, v.count));
          spells =
              v.spells ∙ ap (λ u. decimal value ++ u) (digit_first s i d here (omega arith))
              ∙ sym (rw q (append_assoc (decimal value) ((48 + d) ∷ []) (drop (i + 1) s)));
        }

    pub whole : (d : ℕ) → d ≡ digit_of (byte_at s i) → 9 < d → DigitsAt s at (10 ^ most) (Some (value, i))
    whole d here l =
        let below : value < 10 ^ most = omega (
          arith,
          v.small,
          pow-le-pow_right {n = 10} (omega arith) (let k : i - at ≤ most = omega (arith, v.few) in k),
        ) in
        (v.above, below, v.from, v.within, v.spells, no_digit s i d here l)

    -- one digit more than there may be
    pub too_many : (d : ℕ) → d ≡ digit_of (byte_at s i) → d < 10 → most ≤ i - at → DigitsAt s at (10 ^ most) None
    too_many d here l h n rest a b m e =
        let p : List ℕ = decimal value ++ ((48 + d) ∷ []) in
        let f : length p ≤ length (decimal n) = digits_fewer p (decimal n) (drop (i + 1) s) rest
        (digits_append (decimal value) ((48 + d) ∷ []) (decimal_digits value)
        (omega arith, omega arith, tt)) m (append_assoc (decimal value) ((48 + d) ∷ []) (drop (i + 1) s)
        ∙ sym (ap (λ u. decimal value ++ u) (digit_first s i d here l)) ∙ sym v.spells ∙ e) in
        let g : length (decimal n) ≤ most = few most some limited n b in
        omega (arith, f, g, v.count, length-append (decimal value) ((48 + d) ∷ []))
