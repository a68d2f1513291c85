-- The numbers of a register text: their two forms, the code of each, which codes there are and how they are written. What reads,
-- writes or compares numbers has codes, and goes by `IsNumber` and `number_bytes` alone; only their laws (proofs/Number,
-- proofs/NumberForms) and the crate `register_number` look into them.
use Rattle.std.specs.Prelude.{cond, List, ◌∷◌, ◌++◌, ◌⊎◌, ◌≡◌, ℕ, ◌+◌, ◌-◌, ◌*◌, ◌/◌, ◌%◌, ◌≤◌, ◌<◌, ltb}
use Rattle.register.specs.Texts.{decimal}
use Rattle.register.specs.declared.Form.{Form}
use Rattle.register.specs.declared.Form.TheVariants.{Plain, Year}

-- "A number is 1 to 8 decimal digits, the first not 0." "Beside the plain number, a number may now be a year of four digits, 1000
-- to 2099, a point, and a serial of 1 to 4 digits whose first isn't 0."
abbrev pub Proper : Form → Type 0
Proper (Plain value) = (0 < value) × (value < 100000000)
Proper (Year dated) = (1000 ≤ dated.year) × (dated.year ≤ 2099) × (0 < dated.serial) × (dated.serial < 10000)

-- how it is written; the point is byte 46
abbrev pub form_bytes : Form → List ℕ
form_bytes (Plain value) = decimal value
form_bytes (Year dated) = decimal dated.year ++ (46 ∷ decimal dated.serial)

-- its code: 1987 has 1,987, and 1987.14 has 119,870,014
abbrev pub code : Form → ℕ
code (Plain value) = value
code (Year dated) = 100000000 + 10000 * dated.year + dated.serial

-- plain numbers come before year numbers, and these go by year, then by serial
abbrev pub Earlier : Form → Form → Type 0
Earlier (Plain value) (Plain value') = value < value'
Earlier (Plain value) (Year dated) = Unit {0}
Earlier (Year dated) (Plain value) = ⊥
Earlier (Year dated) (Year dated') =
    (dated.year < dated'.year) ⊎ ((dated.year ≡ dated'.year) × (dated.serial < dated'.serial))

-- the form of the number that has a code; for a code that is nobody's it is not proper
abbrev pub form_of : ℕ → Form
form_of n = cond (ltb n 100000000) (Plain n) (Year (record { year = n / 10000 - 10000; serial = n % 10000 }))

-- Which codes there are, and how each is written.
unfoldable pub IsNumber : ℕ → Type 0
IsNumber n = (form : Form) × Proper form × (n ≡ code form)

unfoldable pub number_bytes : ℕ → List ℕ
number_bytes n = form_bytes (form_of n)
