-- Totals are counts: one statement more, no more than the statements, and none of a code that no statement has.
use mathlib.Core.Bool.{cond, false}
use mathlib.Core.List.{List, [], ◌∷◌}
use mathlib.Core.Path.{refl, ap, sym, subst⁻¹, ◌≡◌, ◌∙◌}
use Prim.Native.Nat.{ℕ, suc, zero, ◌+◌, ◌≤◌, ◌<◌}
use native.Mathlib.Decide.{ℕ_discrete}
use native.Mathlib.Numerals.{add-one}
use native.Mathlib.Omega.{arith}
use lib.Dec.{eqb, T, eqb_refl}
use lib.ListN.{length, set, get_or}
use lib.Seq.{get_or-set_same, get_or-set_other}
use borrow.Author.Tests.{eq-eqb, ne_eqb}
use Rattle.game.specs.Book.{count}
use Rattle.game.proofs.Count.{count_le, count_strict}
use Rattle.sheet.specs.Sheet.{total, code_at, codes}
use Rattle.sheet_code.specs.SheetParts.{Tallied}
use Rattle.sheet.proofs.Codes.{code_small}

module _ (sheet : List ℕ) where
  pub total_none : (c : ℕ) → total sheet 0 c ≡ 0
  unfolding total count
  total_none c = refl

  -- the statement x is of this code, or of another
  total_more : (x c : ℕ) → total sheet (x + 1) c ≡ cond (eqb (code_at sheet x) c) (suc (total sheet x c)) (total sheet x c)
  unfolding total count
  total_more x c = ap (λ (m : ℕ). total sheet m c) (add-one x)

  total_same : (x c : ℕ) → code_at sheet x ≡ c → total sheet (x + 1) c ≡ total sheet x c + 1
  total_same x c e =
      total_more x c ∙ ap (λ b. cond b (suc (total sheet x c)) (total sheet x c)) (eq-eqb (code_at sheet x) c e) ∙ omega arith

  total_other : (x c : ℕ) → (code_at sheet x ≡ c → ⊥) → total sheet (x + 1) c ≡ total sheet x c
  total_other x c n =
      total_more x c ∙ ap (λ b. cond b (suc (total sheet x c)) (total sheet x c)) (ne_eqb (code_at sheet x) c n)

  pub total_few : (n c : ℕ) → total sheet n c ≤ n
  unfolding total
  total_few n c = count_le n (λ x. eqb (code_at sheet x) c)

  -- no statement is counted, and one more
  pub nothing_tallied : Tallied sheet 0 (0 ∷ 0 ∷ 0 ∷ 0 ∷ [])
  nothing_tallied zero h = sym (total_none 0)
  nothing_tallied (suc zero) h = sym (total_none 1)
  nothing_tallied (suc (suc zero)) h = sym (total_none 2)
  nothing_tallied (suc (suc (suc c))) h = let last : c ≡ 0 = omega arith in rw last (sym (total_none 3))

  pub tallied_more : (x : ℕ) (counts : List ℕ) → length counts ≡ 4 → Tallied sheet x counts
      → Tallied sheet (x + 1) (set counts (code_at sheet x) (get_or counts (code_at sheet x) 0 + 1))
  tallied_more x counts four tallied c h = go (ℕ_discrete c (code_at sheet x))
    where
      more : ℕ
      more = get_or counts (code_at sheet x) 0 + 1

      go : Dec (c ≡ code_at sheet x) → get_or (set counts (code_at sheet x) more) c 0 ≡ total sheet (x + 1) c
      go (yes e) =
          ap (λ (j : ℕ). get_or (set counts (code_at sheet x) more) j 0) e
          ∙ get_or-set_same counts (code_at sheet x) more 0 (omega (arith, code_small sheet x))
          ∙ ap (λ (t : ℕ). t + 1) (tallied (code_at sheet x) (code_small sheet x)) ∙ sym (total_same x (code_at sheet x) refl)
          ∙ ap (λ (j : ℕ). total sheet (x + 1) j) (sym e)
      go (no n) =
          get_or-set_other counts (code_at sheet x) c more 0 n ∙ tallied c h ∙ sym (total_other x c (λ e. n (sym e)))

  -- no statement has 3 exactly if its count is 0
  pub none_used : (n : ℕ) → total sheet n 3 ≡ 0 → (x : ℕ) → x < n → code_at sheet x < codes
  unfolding total
  none_used n e x h = go (ℕ_discrete (code_at sheet x) 3)
    where
      go : Dec (code_at sheet x ≡ 3) → code_at sheet x < codes
      go (no d) = omega (arith, code_small sheet x)
      go (yes q) =
          absurd (omega (
            arith,
            e,
            count_strict (λ y. false) (λ y. eqb (code_at sheet y) 3) n x (λ y l t. absurd t) h tt
                (subst⁻¹ (λ a. T (eqb a 3)) q (eqb_refl 3)),
          ))

  pub used_none : (n : ℕ) → ((x : ℕ) → x < n → code_at sheet x < codes) → total sheet n 3 ≡ 0
  used_none zero f = total_none 3
  used_none (suc n) f =
      ap (λ (m : ℕ). total sheet m 3) (sym (add-one n)) ∙ total_other n 3 (λ e. omega (arith, e, f n (omega arith)))
      ∙ used_none n (λ x h. f x (omega arith))
