-- The register of a text, guessed line by line, and a test that computes: it holds the guess's written form against the text, and
-- its numbers against the rules. A text that passes is accepted as the guess. What a text is refused for is left to `Fault`.
use mathlib.Core.Bool.{Bool, true, false, cond, not, ◌&&◌}
use mathlib.Core.List.{List, [], ◌∷◌}
use mathlib.Core.Path.{refl, ap₂, subst, ◌≡◌}
use Prim.Native.Nat.{ℕ, zero, suc, ◌-◌}
use lib.Dec.{leb, ltb, eqb, T, eqb→eq, eqb_refl, leb→le, T_not}
use lib.ListN.{get_or, length}
use Rattle.game.specs.Book.{any, all}
use Rattle.game.proofs.Search.{both, any_at, any_of, all_at, and_of}
use Rattle.register.specs.Texts.{pick_bytes}
use Rattle.register.specs.Register.{Register, numbers, Issued as OnRegister, objector_numbers, target_numbers, Valid, written}
use Rattle.register.specs.Register.{bare}
use Rattle.register.specs.Reads.{Accepts}
use Rattle.register.specs.declared.Line.{Line}
use Rattle.register.specs.declared.Line.TheVariants.{Statement, Objection}
use Rattle.register.proofs.Number.{number_test, number_tested}
use Rattle.register.proofs.Guess.{guess_line}

-- what stands behind the first line, and behind the first n lines
unfoldable pub behind_line : List ℕ → List ℕ
behind_line [] = []
behind_line (c ∷ s) = pick_bytes (eqb c 10) s (behind_line s)

unfoldable pub rest_from : ℕ → List ℕ → List ℕ
rest_from zero s = s
rest_from (suc n) s = rest_from n (behind_line s)

-- the register of the first n lines, by the guess of each; how many lines there are; the register of them all
abbrev pub add_line : Line → Register → Register
add_line (Statement st) R = record { statements = st ∷ R.statements; objections = R.objections }
add_line (Objection o) R = record { statements = R.statements; objections = o ∷ R.objections }

unfoldable pub guess_first : ℕ → List ℕ → Register
guess_first zero s = bare []
guess_first (suc n) s = add_line (guess_line s) (guess_first n (behind_line s))

unfoldable pub line_count : List ℕ → ℕ
line_count [] = 0
line_count (c ∷ s) = cond (eqb c 10) (suc (line_count s)) (line_count s)

unfoldable pub register_of : List ℕ → Register
register_of s = guess_first (line_count s) s

-- The two lists are the same.
unfoldable pub same : List ℕ → List ℕ → Bool
same [] [] = true
same [] (b ∷ v) = false
same (a ∷ u) [] = false
same (a ∷ u) (b ∷ v) = eqb a b && same u v

pub same_is : (u v : List ℕ) → T (same u v) → u ≡ v
unfolding same
same_is [] [] t = refl
same_is [] (b ∷ v) t = absurd t
same_is (a ∷ u) [] t = absurd t
same_is (a ∷ u) (b ∷ v) t = let (p, q) = both (eqb a b) (same u v) t in ap₂ (λ c w. c ∷ w) (eqb→eq a b p) (same_is u v q)

pub equal : {a b : ℕ} → a ≡ b → T (eqb a b)
equal {a} e = subst (λ c. T (eqb a c)) e (eqb_refl a)

pub same_passes : (u v : List ℕ) → u ≡ v → T (same u v)
unfolding same
same_passes u v e = subst (λ w. T (same u w)) e (self u)
  where
    self : (u : List ℕ) → T (same u u)
    self [] = tt
    self (a ∷ u) = and_of (eqb a a) (same u u) (eqb_refl a) (self u)

-- The register is in order.
module _ (R : Register) where
  unfoldable pub issued : ℕ → Bool
  issued n = any (length (numbers R)) (λ i. eqb (get_or (numbers R) i 0) n)

  pub issued_is : (n : ℕ) → T (issued n) → OnRegister R n
  unfolding issued
  issued_is n t =
      let (i, h, e) = any_at (length (numbers R)) (λ i. eqb (get_or (numbers R) i 0) n) t in
      (i, h, eqb→eq (get_or (numbers R) i 0) n e)

  pub issued_passes : (n : ℕ) → OnRegister R n → T (issued n)
  unfolding issued
  issued_passes n (i, h, e) = any_of (length (numbers R)) (λ i. eqb (get_or (numbers R) i 0) n) i h (equal e)

  unfoldable pub numbered : ℕ → Bool
  numbered i = number_test (get_or (numbers R) i 0)

  unfoldable pub differ : ℕ → ℕ → Bool
  differ j i = not (eqb (get_or (numbers R) i 0) (get_or (numbers R) j 0))

  unfoldable pub known : ℕ → Bool
  known k = issued (get_or (objector_numbers R) k 0) && issued (get_or (target_numbers R) k 0)

  unfoldable pub distinct : ℕ → ℕ → Bool
  distinct k j =
      not (eqb (get_or (objector_numbers R) j 0) (get_or (objector_numbers R) k 0) && eqb (get_or (target_numbers R) j 0)
      (get_or (target_numbers R) k 0))

  unfoldable pub ordered : Bool
  ordered =
      (leb (length R.statements) 1024 && leb (length R.objections) 4096)
      && ((all (length (numbers R)) numbered && all (length (numbers R)) (λ j. all j (differ j))) &&
      (all (length R.objections) known && all (length R.objections) (λ k. all k (distinct k))))

  pub ordered_is : T ordered → Valid R
  unfolding ordered numbered differ known distinct
  ordered_is t =
      let (limits, rest) = both (leb (length R.statements) 1024 && leb (length R.objections) 4096)
      ((all (length (numbers R)) numbered && all (length (numbers R)) (λ j. all j (differ j))) &&
      (all (length R.objections) known && all (length R.objections) (λ k. all k (distinct k)))) t in
      let (s, o) = both (leb (length R.statements) 1024) (leb (length R.objections) 4096) limits in
      let (ns, os) = both (all (length (numbers R)) numbered && all (length (numbers R)) (λ j. all j (differ j)))
      (all (length R.objections) known && all (length R.objections) (λ k. all k (distinct k))) rest in
      let (n, d) = both (all (length (numbers R)) numbered) (all (length (numbers R)) (λ j. all j (differ j))) ns in
      let (k, e) = both (all (length R.objections) known) (all (length R.objections) (λ k. all k (distinct k))) os in
      record {
        few_statements = leb→le (length R.statements) 1024 s;
        few_objections = leb→le (length R.objections) 4096 o;
        numbered =
            λ i h. number_tested (get_or (numbers R) i 0) (all_at (length (numbers R)) numbered n i h);
        once =
            λ i j h l q. T_not (eqb (get_or (numbers R) i 0) (get_or (numbers R) j 0))
            (all_at j (differ j) (all_at (length (numbers R)) (λ j. all j (differ j)) d j l) i h) (equal q);
        known =
            λ i h. let (a, b) = both (issued (get_or (objector_numbers R) i 0)) (issued (get_or (target_numbers R) i 0))
            (all_at (length R.objections) known k i h) in (
              issued_is (get_or (objector_numbers R) i 0) a,
              issued_is (get_or (target_numbers R) i 0) b,
            );
        distinct =
            λ j i h l p q. T_not (eqb (get_or (objector_numbers R) j 0) (get_or (objector_numbers R) i 0) && eqb
            (get_or (target_numbers R) j 0) (get_or (target_numbers R) i 0))
            (all_at i (distinct i) (all_at (length R.objections) (λ k. all k (distinct k)) e i l) j h)
            (and_of (eqb (get_or (objector_numbers R) j 0) (get_or (objector_numbers R) i 0))
            (eqb (get_or (target_numbers R) j 0) (get_or (target_numbers R) i 0)) (equal p) (equal q));
      }

-- The text is accepted as the register.
unfoldable pub accepted : List ℕ → Register → Bool
accepted s R = (leb (length s) 65535 && ordered R) && same s (written R)

pub accepted_is : (s : List ℕ) (R : Register) → T (accepted s R) → Accepts s R
unfolding accepted
accepted_is s R t =
    let (p, w) = both (leb (length s) 65535 && ordered R) (same s (written R)) t in
    let (f, v) = both (leb (length s) 65535) (ordered R) p in
    record { fits = leb→le (length s) 65535 f; valid = ordered_is R v; is_written = same_is s (written R) w }

-- the last byte is not 10
unfoldable pub unended_test : List ℕ → Bool
unended_test s = ltb 0 (length s) && not (eqb (get_or s (length s - 1) 0) 10)
