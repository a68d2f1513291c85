-- Codes in bytes: that they are below 4, where they are 0, and that a byte holds no more than its four codes.
use mathlib.Core.List.{List}
use mathlib.Core.Path.{ap, refl, sym, ◌≡◌, ◌∙◌}
use Prim.Native.Nat.{ℕ, zero, suc, ◌+◌, ◌*◌, ◌/◌, ◌%◌, ◌≤◌, ◌<◌}
use native.Mathlib.Omega.{arith}
use lib.Dec.{T, eqb, eqb→eq}
use lib.ListN.{get_or, length, get_or-eq_default}
use Rattle.game.specs.Book.{all}
use Rattle.game.proofs.Search.{all_at}
use Rattle.sheet.specs.Sheet.{code_at, in_byte}

pub code_small : (sheet : List ℕ) (x : ℕ) → code_at sheet x < 4
unfolding code_at
code_small sheet x = omega arith

-- in a byte that is 0, and beyond the end, every code is 0
blank : T (all 4 (λ p. eqb (in_byte 0 p) 0))
unfolding all
blank = tt

pub code_blank : (sheet : List ℕ) (x : ℕ) → get_or sheet (x / 4) 0 ≡ 0 → code_at sheet x ≡ 0
unfolding code_at
code_blank sheet x e =
    ap (λ (b : ℕ). in_byte b (x % 4)) e
    ∙ eqb→eq (in_byte 0 (x % 4)) 0 (all_at 4 (λ p. eqb (in_byte 0 p) 0) blank (x % 4) (omega arith))

pub code_beyond : (sheet : List ℕ) (x : ℕ) → 4 * length sheet ≤ x → code_at sheet x ≡ 0
code_beyond sheet x h = code_blank sheet x (get_or-eq_default sheet 0 (omega (arith, h)))

-- a byte is what its four codes make it
abbrev pub joined : (ℕ → ℕ) → ℕ
joined code = code 0 + 4 * code 1 + 16 * code 2 + 64 * code 3

whole : T (all 256 (λ b. eqb b (joined (in_byte b))))
unfolding all
whole = tt

byte_joined : (b : ℕ) → b < 256 → b ≡ joined (in_byte b)
byte_joined b h = eqb→eq b (joined (in_byte b)) (all_at 256 (λ b. eqb b (joined (in_byte b))) whole b h)

-- four codes put into a byte are read back, each at its place
pub joined_back : (code : ℕ → ℕ) → ((p : ℕ) → code p < 4) → (p : ℕ) → p < 4 → in_byte (joined code) p ≡ code p
joined_back code low zero h = omega (arith, low 0, low 1, low 2, low 3)
joined_back code low (suc zero) h = omega (arith, low 0, low 1, low 2, low 3)
joined_back code low (suc (suc zero)) h = omega (arith, low 0, low 1, low 2, low 3)
joined_back code low (suc (suc (suc zero))) h = omega (arith, low 0, low 1, low 2, low 3)
joined_back code low (suc (suc (suc (suc p)))) h = absurd (omega arith)

pub byte_by_codes : (l l' : List ℕ) (k : ℕ) → get_or l k 0 < 256 → get_or l' k 0 < 256
    → ((x : ℕ) → x / 4 ≡ k → code_at l x ≡ code_at l' x) → get_or l k 0 ≡ get_or l' k 0
unfolding code_at
byte_by_codes l l' k h h' same =
    byte_joined (get_or l k 0) h ∙ rw (at 0 (omega arith), at 1 (omega arith), at 2 (omega arith), at 3 (omega arith)) refl
    ∙ sym (byte_joined (get_or l' k 0) h')
  where
    at : (p : ℕ) → p < 4 → in_byte (get_or l k 0) p ≡ in_byte (get_or l' k 0) p
    at p s =
        let e : (4 * k + p) / 4 ≡ k = omega arith in
        let f : (4 * k + p) % 4 ≡ p = omega arith in
        rw (e, f) at (same (4 * k + p) e)
