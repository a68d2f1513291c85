-- A reader of one card that computes: it guesses the card from its bytes, and a test holds the guess's written form against what
-- stands there. If any card stands there, it is the guess; so whether a text begins with a card is decided by one test. Reading a
-- card in the product is left to `catalogue_read`.
use mathlib.Core.Bool.{Bool, true, not, ◌&&◌}
use mathlib.Core.List.{List, append_assoc, [], ◌∷◌, ◌++◌}
use mathlib.Core.Logic.{inl, inr, ◌⊎◌}
use mathlib.Core.Path.{refl, ap, sym, subst, ◌≡◌, ◌∙◌}
use Prim.Native.Nat.{ℕ, zero, suc, ◌≤◌}
use native.Mathlib.Omega.{arith}
use lib.Dec.{T, eqb}
use lib.ListN.{length, get_or, drop, length-append}
use lib.Seq.{drop-append_seam}
use Rattle.game.proofs.Search.{both, and_of, clash, decide}
use Rattle.register.specs.Texts.{pick_bytes}
use Rattle.register.specs.Number.{number_bytes, IsNumber}
use Rattle.register.proofs.Number.{number_test, number_tested, number_passes, number_unbroken, spell_number}
use Rattle.register.proofs.Guess.{field, behind, field_is, guess_mark, number_guessed, rest_guessed, mark_guessed, ahead}
use Rattle.register.proofs.Guess.{ahead_is}
use Rattle.register.proofs.Guess.{ahead_of}
use Rattle.catalogue.specs.Cards.{Card, card_bytes, fields_bytes, Each, BeginsWithCard}
use Rattle.catalogue.proofs.Cards.{fields_follow, card_split, behind_number}

-- The guess: as many fields as stand behind tabs, at most as many as the first number says.
unfoldable pub guess_objectors : ℕ → List ℕ → List ℕ
guess_objectors zero s = []
guess_objectors (suc most) [] = []
guess_objectors (suc most) (b ∷ s) =
    pick_bytes (eqb b 9) (spell_number 0 (field s) ∷ guess_objectors most (drop (length (field s)) s)) []

unfoldable pub guess_behind : (number most : ℕ) (s : List ℕ) → Card
guess_behind number most s =
    record {
      statement = record { number = number; mark = guess_mark (get_or s 0 0) };
      objectors = guess_objectors most (drop 1 s);
    }

unfoldable pub guess_card : List ℕ → Card
guess_card s = guess_behind (spell_number 0 (field (drop 2 s))) (length s) (behind (drop 2 s))

objectors_guessed : (most : ℕ) (ys r : List ℕ) → length ys ≤ most → Each IsNumber ys
    → ys ≡ guess_objectors most (fields_bytes ys ++ (10 ∷ r))
unfolding guess_objectors fields_bytes
objectors_guessed zero [] r h f = refl
objectors_guessed zero (y ∷ ys) r h f = absurd (omega arith)
objectors_guessed (suc most) [] r h f = refl
objectors_guessed (suc most) (y ∷ ys) r h (n, f) =
    let (b, t, l, e) = fields_follow ys r in
    let is : number_bytes y ++ fields_bytes ys ++ (10 ∷ r) ≡ number_bytes y ++ (b ∷ t)
    = append_assoc (number_bytes y) (fields_bytes ys) (10 ∷ r) ∙ ap (λ u. number_bytes y ++ u) e in
    let seam : drop (length (field (number_bytes y ++ (b ∷ t)))) (number_bytes y ++ (b ∷ t)) ≡ b ∷ t
    = ap (λ u. drop (length u) (number_bytes y ++ (b ∷ t))) (field_is (number_bytes y) b t (number_unbroken y n) l)
    ∙ drop-append_seam (number_bytes y) (b ∷ t) in
    let number : y ≡ spell_number 0 (field (number_bytes y ++ (b ∷ t))) = number_guessed y n b l t in
    let others : ys ≡ guess_objectors most (drop (length (field (number_bytes y ++ (b ∷ t)))) (number_bytes y ++ (b ∷ t)))
    = objectors_guessed most ys r (omega arith) f ∙ ap (guess_objectors most) (e ∙ sym seam) in
    subst (λ u. y ∷ ys ≡ guess_objectors (suc most) (9 ∷ u)) (sym is) (λ i. number i ∷ others i)

fields_count : (ys : List ℕ) → length ys ≤ length (fields_bytes ys)
unfolding fields_bytes
fields_count [] = omega arith
fields_count (y ∷ ys) = omega (arith, length-append (number_bytes y) (fields_bytes ys), fields_count ys)

-- whatever card stands there, the guess is that card
pub card_guess_only : (c : Card) (s : List ℕ) → BeginsWithCard c s → c ≡ guess_card s
unfolding guess_card guess_behind
card_guess_only c s ((h, f), (r, e)) =
    let n : ℕ = c.statement.number in
    let text : List ℕ = 83 ∷ 9 ∷ (number_bytes n ++ (9 ∷ behind_number c r)) in
    let most : length c.objectors ≤ length text = omega (
      arith,
      length-append (number_bytes n) (9 ∷ behind_number c r),
      length-append (fields_bytes c.objectors) (10 ∷ r),
      fields_count c.objectors,
    ) in
    let number : n ≡ spell_number 0 (field (drop 2 text)) = number_guessed n h 9 (omega arith) (behind_number c r) in
    let rest : behind_number c r ≡ behind (drop 2 text) = rest_guessed n h 9 (omega arith) (behind_number c r) in
    let objectors : c.objectors ≡ guess_objectors (length text) (drop 1 (behind (drop 2 text)))
    = objectors_guessed (length text) c.objectors r most f ∙ ap (λ u. guess_objectors (length text) (drop 1 u)) rest in
    let mark : c.statement.mark ≡ guess_mark (get_or (behind (drop 2 text)) 0 0) = mark_guessed c.statement.mark
    ∙ ap (λ (u : List ℕ). guess_mark (get_or u 0 0)) rest in
    subst (λ u. c ≡ guess_card u) (sym (e ∙ card_split c r))
    (λ i. record { statement = record { number = number i; mark = mark i }; objectors = objectors i })

-- The card stands at the beginning of s: its numbers are numbers, and its bytes are those.
unfoldable pub numbers_test : List ℕ → Bool
numbers_test [] = true
numbers_test (y ∷ ys) = number_test y && numbers_test ys

numbers_tested : (ys : List ℕ) → T (numbers_test ys) → Each IsNumber ys
unfolding numbers_test
numbers_tested [] t = tt
numbers_tested (y ∷ ys) t = let (p, q) = both (number_test y) (numbers_test ys) t in (number_tested y p, numbers_tested ys q)

numbers_pass : (ys : List ℕ) → Each IsNumber ys → T (numbers_test ys)
unfolding numbers_test
numbers_pass [] f = tt
numbers_pass (y ∷ ys) (n, f) = and_of (number_test y) (numbers_test ys) (number_passes y n) (numbers_pass ys f)

-- a card's numbers in one list
abbrev numbers_on : Card → List ℕ
numbers_on c = c.statement.number ∷ c.objectors

unfoldable pub card_test : Card → List ℕ → Bool
card_test c s = numbers_test (numbers_on c) && ahead (card_bytes c) s

pub card_tested : (c : Card) (s : List ℕ) → T (card_test c s) → BeginsWithCard c s
unfolding card_test
card_tested c s t =
    let (p, q) = both (numbers_test (numbers_on c)) (ahead (card_bytes c) s) t in
    (numbers_tested (numbers_on c) p, ahead_is (card_bytes c) s q)

pub card_passes : (c : Card) (s : List ℕ) → BeginsWithCard c s → T (card_test c s)
unfolding card_test
card_passes c s (f, (r, e)) =
    and_of (numbers_test (numbers_on c)) (ahead (card_bytes c) s) (numbers_pass (numbers_on c) f)
    (subst (λ u. T (ahead (card_bytes c) u)) (sym e) (ahead_of (card_bytes c) r))

-- The guess does not stand there; so no card does.
unfoldable pub spoiled_card_test : List ℕ → Bool
spoiled_card_test s = not (card_test (guess_card s) s)

pub spoiled_card_tested : (s : List ℕ) → T (spoiled_card_test s) → (c : Card) → ¬ BeginsWithCard c s
unfolding spoiled_card_test
spoiled_card_tested s t c b =
    clash (card_test (guess_card s) s)
    (card_passes (guess_card s) s (subst (λ d. BeginsWithCard d s) (card_guess_only c s b) b)) t

-- a text begins with a card, or with none
pub card? : (s : List ℕ) → ((c : Card) × BeginsWithCard c s) ⊎ ((c : Card) → ¬ BeginsWithCard c s)
unfolding spoiled_card_test
card? s = go (decide (card_test (guess_card s) s))
  where
    go : T (card_test (guess_card s) s) ⊎ T (not (card_test (guess_card s) s))
        → ((c : Card) × BeginsWithCard c s) ⊎ ((c : Card) → ¬ BeginsWithCard c s)
    go (inl t) = inl (guess_card s, card_tested (guess_card s) s t)
    go (inr t) = inr (spoiled_card_tested s t)
