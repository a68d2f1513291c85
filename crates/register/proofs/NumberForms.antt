-- Which bytes are a number, by their digits and the point, without a word about decimals or codes: those of one of two forms, and
-- none of both. What a number is, specs/Number says; that the two agree is shown here, and nothing else goes by these forms.
use mathlib.Core.List.{List, append_assoc, append-nil, [], ◌∷◌, ◌++◌}
use mathlib.Core.Logic.{inl, inr, ◌⊎◌, ◌↔◌, ⊎_elim}
use mathlib.Core.Path.{ap, ap₂, refl, subst, sym, ◌≡◌, ◌∙◌}
use Prim.Native.Nat.{ℕ, suc, ◌+◌, ◌-◌, ◌*◌, ◌/◌, ◌^◌, ◌≤◌, ◌<◌}
use native.Mathlib.Nat.{pow-suc, pow-le-pow_right}
use native.Mathlib.Omega.{arith}
use lib.ListN.{length, get_or}
use Rattle.register.specs.Texts.{decimal}
use Rattle.register.specs.Number.{IsNumber, number_bytes, code, Proper}
use Rattle.register.specs.declared.Form.{Form}
use Rattle.register.specs.declared.Form.TheVariants.{Plain, Year}
use Rattle.register.proofs.Decimals.{Digits, decimal_digits, decimal_says, spell, decimal_one}
use Rattle.register.proofs.Decimals.{decimal_more, Leads, decimal_leads}
use Rattle.register.proofs.Digits.{few_digits, digit_more, one_digit}
use Rattle.register.proofs.Number.{by_form, code_number, code_bytes}

-- "1 to 8 decimal digits, the first not 0", and so with any other number of digits
pub record DigitsTo (most : ℕ) (l : List ℕ) : Type 0 where
  pub some : 0 < length l
  pub few : length l ≤ most
  pub digits : Digits l
  pub leads : 48 < get_or l 0 0

-- "a year of four digits, 1000 to 2099, a point, and a serial of 1 to 4 digits whose first isn't 0"
pub record YearForm (l : List ℕ) : Type 0 where
  pub year : List ℕ
  pub serial : List ℕ
  pub is : l ≡ year ++ (46 ∷ serial)
  pub four : length year ≡ 4
  pub digits : Digits year
  pub from_1000 : 1000 ≤ spell 0 year
  pub to_2099 : spell 0 year ≤ 2099
  pub of_serial : DigitsTo 4 serial

abbrev pub PlainForm : List ℕ → Type 0
PlainForm l = DigitsTo 8 l

-- the bytes of some number
abbrev pub NumberField : List ℕ → Type 0
NumberField l = (n : ℕ) × IsNumber n × (l ≡ number_bytes n)

-- digits behind those of a number above 0 are those of another
more_digits : (ds : List ℕ) (n k : ℕ) → 0 < n → n < 10 ^ k → Digits ds → k + length ds ≤ 8
    → (m : ℕ) × (0 < m) × (m < 10 ^ (k + length ds)) × (decimal m ≡ decimal n ++ ds)
more_digits [] n k a b d h = (n, a, subst (λ i. n < 10 ^ i) (omega arith) b, sym (append-nil (decimal n)))
more_digits (c ∷ ds) n k a b (l, u, d) h =
    let small : n < 10 ^ 7 = omega (arith, b, pow-le-pow_right {n = 10} (omega arith) (let q : k ≤ 7 = omega arith in q)) in
    let next : n * 10 + (c - 48) < 10 ^ suc k = rw (pow-suc 10 k) (omega arith) in
    let (m, e, f, g) = more_digits ds (n * 10 + (c - 48)) (suc k) (omega arith) next d (omega arith) in
    let same : 48 + (c - 48) ≡ c = omega arith in (
      m,
      e,
      subst (λ i. m < 10 ^ i) (omega arith) f,
      g ∙ ap (λ u. u ++ ds) (decimal_more n (c - 48) a (omega arith) (omega arith))
          ∙ append_assoc (decimal n) ((48 + (c - 48)) ∷ []) ds ∙ ap (λ b. decimal n ++ (b ∷ ds)) same,
    )

-- the decimals of what is above 0 and below a power of ten are such digits, and there are no others
module _ (k : ℕ) (few : suc k ≤ 8) where
  decimal_form : (n : ℕ) → 0 < n → n < 10 ^ suc k → DigitsTo (suc k) (decimal n)
  decimal_form n h u = go (decimal n) refl (decimal_leads n small)
    where
      small : n < 10 ^ 10
      small = omega (arith, u, pow-le-pow_right {n = 10} (omega arith) (let q : suc k ≤ 10 = omega arith in q))

      go : (ds : List ℕ) → decimal n ≡ ds → Leads n ds → DigitsTo (suc k) (decimal n)
      go [] e l = absurd l
      go (b ∷ bs) e l = record {
        some = rw e (omega arith);
        few = few_digits k n (omega arith) u;
        digits = decimal_digits n;
        leads = rw e (l h);
      }

  form_decimal : (l : List ℕ) → DigitsTo (suc k) l → (n : ℕ) × (0 < n) × (n < 10 ^ suc k) × (l ≡ decimal n)
  form_decimal [] o = absurd (omega (arith, o.some))
  form_decimal (b ∷ bs) o =
      let (l, u, d) = o.digits in
      let (m, e, f, g) = more_digits bs (b - 48) 1 (omega (arith, o.leads)) (omega arith) d (omega (arith, o.few)) in
      let same : 48 + (b - 48) ≡ b = omega arith in (
        m,
        e,
        omega (
          arith,
          f,
          pow-le-pow_right {n = 10} (omega arith) (let q : 1 + length bs ≤ suc k = omega (arith, o.few) in q),
        ),
        sym (g ∙ ap (λ v. v ++ bs) (decimal_one (b - 48) (omega arith) ∙ ap (λ c. c ∷ []) same)),
      )

-- Bytes are a number's exactly if they are of one of the two forms.
of_form : (n : ℕ) → IsNumber n → PlainForm (number_bytes n) ⊎ YearForm (number_bytes n)
of_form =
    by_form (λ n l. PlainForm l ⊎ YearForm l) (λ value h k. inl (decimal_form 7 (omega arith) value h k))
    (λ y s a b c d. inr (of_year y s a b (decimal_form 3 (omega arith) y (omega arith) (omega arith))
    (decimal_form 3 (omega arith) s c d)))
  where
    of_year : (y s : ℕ) → 1000 ≤ y → y ≤ 2099 → DigitsTo 4 (decimal y) → DigitsTo 4 (decimal s)
        → YearForm (decimal y ++ (46 ∷ decimal s))
    of_year y s a b p q = record {
      year = decimal y;
      serial = decimal s;
      is = refl;
      four = omega (
        arith,
        digit_more y (omega arith) (omega arith),
        digit_more (y / 10) (omega arith) (omega arith),
        digit_more (y / 10 / 10) (omega arith) (omega arith),
        one_digit (y / 10 / 10 / 10) (omega arith),
      );
      digits = p.digits;
      from_1000 = rw (decimal_says y (omega arith)) a;
      to_2099 = rw (decimal_says y (omega arith)) b;
      of_serial = q;
    }

-- four digits that say at least 1,000 do not begin with 0
leading : (l : List ℕ) → Digits l → length l ≡ 4 → 1000 ≤ spell 0 l → DigitsTo 4 l
unfolding spell
leading [] d f h = absurd (omega arith)
leading (a ∷ []) d f h = absurd (omega arith)
leading (a ∷ b ∷ []) d f h = absurd (omega arith)
leading (a ∷ b ∷ c ∷ []) d f h = absurd (omega arith)
leading (a ∷ b ∷ c ∷ e ∷ []) d f h = record { some = omega arith; few = omega arith; digits = d; leads = omega (arith, d) }
leading (a ∷ b ∷ c ∷ e ∷ g ∷ l) d f h = absurd (omega arith)

plain_number : (l : List ℕ) → PlainForm l → NumberField l
plain_number l p =
    let (n, a, b, e) = form_decimal 7 (omega arith) l p in
    (n, code_number (Plain n) (a, b), e ∙ sym (code_bytes (Plain n) (a, b)))

year_number : (l : List ℕ) → YearForm l → NumberField l
year_number l p =
    let (y, a, b, e) = form_decimal 3 (omega arith) p.year (leading p.year p.digits p.four p.from_1000) in
    let (s, c, d, f) = form_decimal 3 (omega arith) p.serial p.of_serial in
    let says : spell 0 p.year ≡ y = ap (spell 0) e ∙ decimal_says y (omega arith) in
    let form : Form = Year (record { year = y; serial = s }) in
    let proper : Proper form = (omega (arith, p.from_1000), omega (arith, p.to_2099), c, d) in (
      code form,
      code_number form proper,
      p.is ∙ ap₂ (λ u v. u ++ (46 ∷ v)) e f ∙ sym (code_bytes form proper),
    )

pub number_exactly : (l : List ℕ) → NumberField l ↔ (PlainForm l ⊎ YearForm l)
number_exactly l =
    (λ (n, h, e). subst (λ u. PlainForm u ⊎ YearForm u) (sym e) (of_form n h), ⊎_elim (plain_number l) (year_number l))

-- without a point: by 01's clause alone
abbrev pub Pointless : List ℕ → Type 0
Pointless [] = Unit {0}
Pointless (b ∷ bs) = (b ≡ 46 → ⊥) × Pointless bs

digits_pointless : (l : List ℕ) → Digits l → Pointless l
digits_pointless [] d = tt
digits_pointless (b ∷ bs) (l, h, d) = (λ e. omega arith, digits_pointless bs d)

pointed : (p s : List ℕ) → ¬ Pointless (p ++ (46 ∷ s))
pointed [] s (n, r) = n refl
pointed (b ∷ p) s (n, r) = pointed p s r

pub never_both : (l : List ℕ) → PlainForm l → ¬ YearForm l
never_both l p y = pointed y.year y.serial (subst Pointless y.is (digits_pointless l p.digits))

pub pointless_exactly : (l : List ℕ) → Pointless l → NumberField l ↔ PlainForm l
pointless_exactly l h = (λ n. ⊎_elim (λ p. p) (λ y. absurd (year y)) ((number_exactly l).0 n), plain_number l)
  where
    year : YearForm l → ⊥
    year y = pointed y.year y.serial (subst Pointless y.is h)
