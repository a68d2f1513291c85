-- One code in a byte: how it is read, and what setting it does.
use mathlib.Core.Bool.{Bool, cond}
use mathlib.Core.List.{List}
use mathlib.Core.Path.{ap, sym, refl, ◌≡◌, ◌∙◌}
use Prim.Native.Nat.{ℕ, ◌*◌, ◌/◌, ◌%◌, ◌^◌, ◌<◌}
use native.Mathlib.Decide.{ℕ_discrete}
use native.Mathlib.Omega.{arith}
use lib.Bits.{bit_and, and_mask}
use lib.Dec.{eqb, T, eqb→eq}
use lib.ListN.{get_or, length, set}
use lib.Seq.{get_or-set_same, get_or-set_other}
use borrow.Author.Tests.{ne_eqb, eq-eqb}
use Rattle.game.specs.Book.{all}
use Rattle.game.proofs.Search.{all_at}
use Rattle.sheet.specs.Sheet.{in_byte, code_at}
use Rattle.sheet_code.specs.SheetParts.{put, CodeSet}

test : ℕ → ℕ → ℕ → ℕ → Bool
test b p l q = eqb (in_byte (put b p l) q) (cond (eqb q p) l (in_byte b q))

-- of all 256 bytes, 4 places, 4 codes, and each place that is read afterwards
tested : T (all 256 (λ b. all 4 (λ p. all 4 (λ l. all 4 (test b p l)))))
unfolding all test
tested = tt

put_code : (b p l q : ℕ) → b < 256 → p < 4 → l < 4 → q < 4 → in_byte (put b p l) q ≡ cond (eqb q p) l (in_byte b q)
unfolding test
put_code b p l q hb hp hl hq =
    eqb→eq _ _ (all_at 4 (test b p l) (all_at 4 (λ l. all 4 (test b p l)) (all_at 4 (λ p. all 4 (λ l. all 4 (test b p l)))
    (all_at 256 (λ b. all 4 (λ p. all 4 (λ l. all 4 (test b p l)))) tested b hb) p hp) l hl) q hq)

powers : T (all 4 (λ p. eqb (2 ^ (2 * p)) (4 ^ p)))
unfolding all
powers = tt

pub code_read : (sheet : List ℕ) (x : ℕ) → bit_and (get_or sheet (x / 4) 0 / 2 ^ (2 * (x % 4))) 3 ≡ code_at sheet x
unfolding code_at
code_read sheet x =
    and_mask (get_or sheet (x / 4) 0 / 2 ^ (2 * (x % 4))) 2
    ∙ ap (λ (w : ℕ). get_or sheet (x / 4) 0 / w % 4)
    (eqb→eq (2 ^ (2 * (x % 4))) (4 ^ (x % 4)) (all_at 4 (λ p. eqb (2 ^ (2 * p)) (4 ^ p)) powers (x % 4) (omega arith)))

module _ (old : List ℕ) (x code : ℕ) (here : x / 4 < length old) (byte : get_or old (x / 4) 0 < 256) (small : code < 4) where
  abbrev new : List ℕ
  new = set old (x / 4) (put (get_or old (x / 4) 0) (x % 4) code)

  -- a statement of the same byte, and any other
  same_byte : (y : ℕ) → y / 4 ≡ x / 4 → code_at new y ≡ cond (eqb (y % 4) (x % 4)) code (code_at old y)
  unfolding code_at
  same_byte y e =
      ap (λ (j : ℕ). in_byte (get_or new j 0) (y % 4)) e
      ∙ ap (λ (b : ℕ). in_byte b (y % 4)) (get_or-set_same old (x / 4) (put (get_or old (x / 4) 0) (x % 4) code) 0 here)
      ∙ put_code (get_or old (x / 4) 0) (x % 4) code (y % 4) byte (omega arith) small (omega arith)
      ∙ ap (λ (j : ℕ). cond (eqb (y % 4) (x % 4)) code (in_byte (get_or old j 0) (y % 4))) (sym e)

  other : (y : ℕ) → (y ≡ x → ⊥) → Dec (y / 4 ≡ x / 4) → code_at new y ≡ code_at old y
  unfolding code_at
  other y n (yes e) = same_byte y e ∙ simp (ne_eqb (y % 4) (x % 4) (λ q. n (omega arith)))
  other y n (no f) =
      ap (λ (b : ℕ). in_byte b (y % 4)) (get_or-set_other old (x / 4) (y / 4) (put (get_or old (x / 4) 0) (x % 4) code) 0 f)

  pub code_set : CodeSet old x code new
  code_set = record {
    has = same_byte x refl ∙ simp (eq-eqb (x % 4) (x % 4) refl);
    others = λ y n. other y n (ℕ_discrete (y / 4) (x / 4));
    bytes = λ k n. get_or-set_other old (x / 4) k (put (get_or old (x / 4) 0) (x % 4) code) 0 n;
  }
