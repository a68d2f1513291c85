-- The two forms at a place: digits were read there, and what follows them tells a plain number from a year; then which number it
-- is by its code. How digits are read is left to `NumberSteps`.
use mathlib.Core.List.{List, append_assoc, [], ◌∷◌, ◌++◌}
use mathlib.Core.Path.{ap, ◌≡◌, sym, ◌∙◌}
use Prim.Native.Nat.{ℕ, ◌+◌, ◌≤◌}
use native.Mathlib.Omega.{arith}
use lib.ListN.{drop}
use Rattle.register.specs.Texts.{decimal}
use Rattle.register.specs.Number.{Proper, form_bytes, code, IsNumber, number_bytes}
use Rattle.register.specs.declared.Form.{Form}
use Rattle.register.specs.declared.Form.TheVariants.{Plain, Year}
use Rattle.register.specs.declared.YearSerial.{YearSerial}
use Rattle.register.proofs.Decimals.{decimal_digits, decimal_injective}
use Rattle.register.proofs.Number.{code_number, code_bytes}
use Rattle.register_number.specs.NumberReading.{byte_at, Parted, NoDigit, DigitsAt, FormAt, NumberAt}
use Rattle.std.specs.Prelude.{Some, None}
use Rattle.register_number.proofs.NumberSteps.{first_byte, byte_first, second_bytes, digits_once}

-- what may stand behind a number begins with no digit, nor does what stands behind a year, which is a point
parted_first : (x : ℕ) (u r : List ℕ) → r ≡ x ∷ u → Parted r → x ≤ 10
parted_first x u [] e h = let z : ◌≡◌ {A = ℕ} 0 1 = cc in absurd (omega arith)
parted_first x u (c ∷ r) e h = let z : c ≡ x = cc in omega arith

behind_number_lem : (r : List ℕ) → Parted r → NoDigit r
behind_number_lem r h b t e l m = omega (arith, parted_first b t r e h)

behind_year : (r : List ℕ) → NoDigit (46 ∷ r)
behind_year r b t e l m = let z : ◌≡◌ {A = ℕ} 46 b = cc in omega arith

module _ (s : List ℕ) (at : ℕ) where
  -- the bytes of a year number, with what follows it, from the point on
  abbrev pointed : YearSerial → List ℕ → List ℕ
  pointed dated rest = 46 ∷ (decimal dated.serial ++ rest)

  year_parts : (dated : YearSerial) (rest : List ℕ) → drop at s ≡ form_bytes (Year dated) ++ rest
      → drop at s ≡ decimal dated.year ++ pointed dated rest
  year_parts dated rest e = e ∙ append_assoc (decimal dated.year) (46 ∷ decimal dated.serial) rest

  pub no_digits : (limit : ℕ) → DigitsAt s at limit None → 100000000 ≤ limit → FormAt s at None
  no_digits limit none l (Plain value) rest h k e = none value rest h.0 (omega (arith, h)) (behind_number_lem rest k) e
  no_digits limit none l (Year dated) rest h k e =
      none dated.year (pointed dated rest) (omega (arith, h)) (omega (arith, h))
      (behind_year (decimal dated.serial ++ rest)) (year_parts dated rest e)

  -- digits were read: which number stands there, if any does
  module _ (limit value end : ℕ) (digits : DigitsAt s at limit (Some (value, end))) (low : limit ≤ 100000000) where
    plain_there : (other : ℕ) (rest : List ℕ) → Proper (Plain other) → Parted rest → drop at s ≡ decimal other ++ rest
        → (other ≡ value) × (drop end s ≡ rest)
    plain_there other rest h k e =
        let (p, q) = digits_once (decimal value) (decimal other) (drop end s) rest (decimal_digits value) (decimal_digits other)
        digits.5 (behind_number_lem rest k) (sym digits.4 ∙ e) in
        (sym (decimal_injective value other (omega (arith, digits.1)) (omega (arith, h)) p), q)

    year_there : (dated : YearSerial) (rest : List ℕ) → Proper (Year dated) → drop at s ≡ form_bytes (Year dated) ++ rest
        → (dated.year ≡ value) × (drop end s ≡ pointed dated rest)
    year_there dated rest h e =
        let (p, q) = digits_once (decimal value) (decimal dated.year) (drop end s) (pointed dated rest) (decimal_digits value)
        (decimal_digits dated.year) digits.5 (behind_year (decimal dated.serial ++ rest))
        (sym digits.4 ∙ year_parts dated rest e) in
        (sym (decimal_injective value dated.year (omega (arith, digits.1)) (omega (arith, h)) p), q)

    pub plain_found : (byte_at s end ≡ 46 → ⊥) → FormAt s at (Some (Plain value, end))
    plain_found other = ((digits.0, omega (arith, digits.1)), digits.2, digits.3, digits.4, only)
      where
        only : (form : Form) (rest : List ℕ) → Proper form → Parted rest → drop at s ≡ form_bytes form ++ rest → form ≡ Plain
            value
        only (Plain n) rest h k e = ap Plain (plain_there n rest h k e).0
        only (Year dated) rest h k e = absurd (other (first_byte s end 46 _ (year_there dated rest h e).1))

    -- a point follows them
    module _ (point : byte_at s end ≡ 46) where
      not_plain : (n : ℕ) (rest : List ℕ) → Proper (Plain n) → Parted rest → drop at s ≡ decimal n ++ rest → ⊥
      not_plain n rest h k e =
          let q : drop end s ≡ 46 ∷ drop (end + 1) s = byte_first s end 46 point (omega arith) in
          omega (arith, parted_first 46 (drop (end + 1) s) rest (sym (plain_there n rest h k e).1 ∙ q) k)

      serial_there : (dated : YearSerial) (rest : List ℕ) → Proper (Year dated) → drop at s ≡ form_bytes (Year dated) ++ rest
          → drop (end + 1) s ≡ decimal dated.serial ++ rest
      serial_there dated rest h e = second_bytes s end 46 _ (year_there dated rest h e).1

      pub year_outside : ((1000 ≤ value) × (value ≤ 2099) → ⊥) → FormAt s at None
      year_outside out (Plain n) rest h k e = not_plain n rest h k e
      year_outside out (Year dated) rest h k e =
          let y : dated.year ≡ value = (year_there dated rest h e).0 in out (omega (arith, h), omega (arith, h))

      pub no_serial : (most : ℕ) → DigitsAt s (end + 1) most None → 10000 ≤ most → FormAt s at None
      no_serial most none m (Plain n) rest h k e = not_plain n rest h k e
      no_serial most none m (Year dated) rest h k e =
          none dated.serial rest h.2 (omega (arith, h)) (behind_number_lem rest k) (serial_there dated rest h e)

      pub year_found : 1000 ≤ value → value ≤ 2099 → (most serial last : ℕ) → DigitsAt s (end + 1) most (Some (serial, last))
          → most ≤ 10000 → FormAt s at (Some (Year (record { year = value; serial = serial }), last))
      year_found l u most serial last more m =
          ((l, u, more.0, omega (arith, more.1)), omega (arith, digits.2, more.2), more.3, is, only)
        where
          is : drop at s ≡ (decimal value ++ (46 ∷ decimal serial)) ++ drop last s
          is =
              digits.4 ∙ ap (λ r. decimal value ++ r) (byte_first s end 46 point (omega arith) ∙ ap (λ r. 46 ∷ r) more.4)
              ∙ sym (append_assoc (decimal value) (46 ∷ decimal serial) (drop last s))

          only : (form : Form) (rest : List ℕ) → Proper form → Parted rest → drop at s ≡ form_bytes form ++ rest
              → form ≡ Year (record { year = value; serial = serial })
          only (Plain n) rest h k e = absurd (not_plain n rest h k e)
          only (Year dated) rest h k e =
              let y : dated.year ≡ value = (year_there dated rest h e).0 in
              let (p, q) = digits_once (decimal serial) (decimal dated.serial) (drop last s) rest (decimal_digits serial)
              (decimal_digits dated.serial) more.5 (behind_number_lem rest k)
              (sym more.4 ∙ serial_there dated rest h e) in
              let z : dated.serial ≡ serial = sym (decimal_injective serial dated.serial (omega (arith, more.1))
              (omega (arith, h)) p) in
              λ i. Year (record { year = y i; serial = z i })

  -- By codes.
  by_code : (n : ℕ) (rest : List ℕ) → IsNumber n → drop at s ≡ number_bytes n ++ rest
      → (form : Form) × Proper form × (n ≡ code form) × (drop at s ≡ form_bytes form ++ rest)
  unfolding IsNumber
  by_code n rest (form, h, e) q =
      (form, h, e, q ∙ ap (λ u. u ++ rest) (ap number_bytes e ∙ code_bytes form h))

  pub code_none : FormAt s at None → NumberAt s at None
  code_none none n rest h k e = let (form, p, q, f) = by_code n rest h e in none form rest p k f

  pub code_found : (form : Form) (end : ℕ) → FormAt s at (Some (form, end)) → NumberAt s at (Some (code form, end))
  code_found form end (h, a, b, is, only) = (
    code_number form h,
    a,
    b,
    is ∙ ap (λ u. u ++ drop end s) (sym (code_bytes form h)),
    λ n rest i k e. let (other, p, q, f) = by_code n rest i e in q ∙ ap code (only other rest p k f),
  )
