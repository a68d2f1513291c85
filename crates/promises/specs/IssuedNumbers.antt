-- "It doesn't issue numbers": which numbers a text issues, and which stand in the bytes that a call writes. That these are among
-- those is shown of each call that writes numbers of a text, in proofs/IssuedNumbers.
use Rattle.std.specs.Prelude.{List, [], ◌∷◌, ◌++◌, ◌⊎◌, ◌≡◌, ℕ}
use Rattle.register.specs.Number.{IsNumber, number_bytes}
use Rattle.register.specs.declared.StatementLine.{StatementLine}
use Rattle.mend.specs.TextLines.{TextLine, LinesOf, StatementAt}

-- n is the number of a statement line of the text, be the text a register or not
abbrev pub IssuedIn : (text : List ℕ) → ℕ → Type 0
IssuedIn text n =
    (ls : List TextLine) × LinesOf text ls × ((k : ℕ) × (st : StatementLine) × StatementAt ls k st × (st.number ≡ n))

-- "fields parted by one tab (byte 9), every line ended by byte 10": the byte ends a field; the bytes end where a field does
abbrev pub EndsField : ℕ → Type 0
EndsField b = (b ≡ 9) ⊎ (b ≡ 10)

abbrev pub WholeFields : List ℕ → Type 0
WholeFields l = (l ≡ []) ⊎ ((w : List ℕ) × (b : ℕ) × EndsField b × (l ≡ w ++ (b ∷ [])))

-- The number n is a field of these bytes, and `end` is the byte that ends it.
pub record Field (bytes : List ℕ) (n end : ℕ) : Type 0 where
  pub before : List ℕ
  pub behind : List ℕ
  pub begins : WholeFields before
  pub number : IsNumber n
  pub is : bytes ≡ before ++ (number_bytes n ++ (end ∷ behind))
