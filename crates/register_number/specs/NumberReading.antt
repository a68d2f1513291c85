-- What reading a number at a place answers, and the bytes, digits and forms on the way to it: for the code that reads lines and
-- fields, not for callers of the product. What a number is, `register` says.
use Rattle.std.specs.Prelude.{Option, Some, None}
use Rattle.std.specs.Prelude.{Bool, true, false, List, [], ◌∷◌, ◌++◌, ◌≡◌, ℕ, ◌-◌, ◌≤◌, ◌<◌, leb, get_or, length, drop}
use Rattle.register.specs.Texts.{decimal}
use Rattle.register.specs.Number.{Proper, form_bytes, IsNumber, number_bytes}
use Rattle.register.specs.declared.Form.{Form}

-- the byte at a place, and 256, which is no byte, past the end
abbrev pub byte_at : List ℕ → ℕ → ℕ
byte_at s i = get_or s i 256

abbrev pub pick_number : Bool → ℕ → ℕ → ℕ
pick_number true a b = a
pick_number false a b = b

-- the value of a digit, and 10 for any other byte
abbrev pub digit_of : ℕ → ℕ
digit_of b = pick_number (leb 48 b) (pick_number (leb b 57) (b - 48) 10) 10

-- what may stand behind a number: nothing, or a byte up to 10 (tab, byte 10) and what follows it
abbrev pub Parted : List ℕ → Type 0
Parted [] = Unit {0}
Parted (c ∷ rest) = c ≤ 10

-- bytes that begin with no digit
abbrev pub NoDigit : List ℕ → Type 0
NoDigit u = (b : ℕ) (r : List ℕ) → u ≡ b ∷ r → 48 ≤ b → b ≤ 57 → ⊥

-- What reading digits at a place answers: all digits that stand there, and what they say, which is above 0 and below a limit; or
-- that those which stand there are no such decimal.
abbrev pub DigitsAt : List ℕ → (at limit : ℕ) → Option (ℕ × ℕ) → Type 0
DigitsAt s at limit (Some (v, end)) =
    (0 < v) × (v < limit) × (at < end) × (end ≤ length s) × (drop at s ≡ decimal v ++ drop end s) × NoDigit (drop end s)
DigitsAt s at limit None =
    (v : ℕ) (rest : List ℕ) → 0 < v → v < limit → NoDigit rest → drop at s ≡ decimal v ++ rest → ⊥

-- What reading a number at a place answers: what is found is the only number that stands there, parted from what follows; and
-- where there is no number, none does. First by forms, then by codes.
abbrev pub FormAt : List ℕ → ℕ → Option (Form × ℕ) → Type 0
FormAt s at (Some (form, end)) =
    Proper form × (at < end) × (end ≤ length s) × (drop at s ≡ form_bytes form ++ drop end s)
    × ((other : Form) (rest : List ℕ) → Proper other → Parted rest → drop at s ≡ form_bytes other ++ rest → other ≡ form)
FormAt s at None = (form : Form) (rest : List ℕ) → Proper form → Parted rest → drop at s ≡ form_bytes form ++ rest → ⊥

abbrev pub NumberAt : List ℕ → ℕ → Option (ℕ × ℕ) → Type 0
NumberAt s at (Some (v, end)) =
    IsNumber v × (at < end) × (end ≤ length s) × (drop at s ≡ number_bytes v ++ drop end s)
    × ((n : ℕ) (rest : List ℕ) → IsNumber n → Parted rest → drop at s ≡ number_bytes n ++ rest → n ≡ v)
NumberAt s at None = (n : ℕ) (rest : List ℕ) → IsNumber n → Parted rest → drop at s ≡ number_bytes n ++ rest → ⊥

-- whether a code is that of a number
abbrev pub Numbered : ℕ → Bool → Type 0
Numbered n true = IsNumber n
Numbered n false = ¬ IsNumber n
