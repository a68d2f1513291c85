-- What every text of the product is written with: decimals, and rows one behind the other. What a row is, and how many there are,
-- is for others to say.
use Rattle.std.specs.Prelude.{Bool, true, false, List, [], ◌∷◌, ◌++◌, ℕ, zero, suc, ◌+◌, ◌/◌, ◌%◌, ltb}

abbrev pub pick_bytes : Bool → List ℕ → List ℕ → List ℕ
pick_bytes true a b = a
pick_bytes false a b = b

-- "decimal without leading zeros": below 10 the one digit; else the digits of a tenth, and the last. At most as many digits
-- as the first number says.
unfoldable pub decimal_in : ℕ → ℕ → List ℕ
decimal_in zero n = []
decimal_in (suc f) n = pick_bytes (ltb n 10) ((48 + n) ∷ []) (decimal_in f (n / 10) ++ ((48 + n % 10) ∷ []))

-- the digits of a number below 10 ^ 10
unfoldable pub decimal : ℕ → List ℕ
decimal n = decimal_in 10 n

-- the rows 0, 1, .. n - 1
unfoldable pub rows_to : ℕ → (ℕ → List ℕ) → List ℕ
rows_to zero row = []
rows_to (suc n) row = rows_to n row ++ row n
