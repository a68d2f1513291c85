-- What an answer of the exercise says: it is the only one, it agrees with the labels and lengths of the game, it is what the
-- rules compute, and each of its questions is asked through the other with one turn less.
use mathlib.Core.Bool.{true, false, not}
use mathlib.Core.Logic.{inl, inr, ◌⊎◌, ◌↔◌}
use mathlib.Core.Path.{subst, sym, refl, ◌≡◌, ◌∙◌}
use Prim.Native.Nat.{ℕ, suc, ◌≤◌}
use native.Mathlib.Decide.{ℕ_discrete}
use native.Mathlib.Omega.{arith}
use lib.Dec.{T}
use Rattle.game.specs.Book.{Book, Objects, Objected, Read}
use Rattle.game.specs.Game.{FirstWins, SecondWins}
use Rattle.game.specs.Label.{falls, stands, Means}
use Rattle.game.specs.Rules.{falls_within, stands_within}
use Rattle.game.proofs.Game.{falls_game, stands_game}
use Rattle.game.proofs.Rules.{exclusive, falls_zero, falls_at, falls_by, stands_read, stands_zero_at, stands_zero_by}
use Rattle.game.proofs.Rules.{stands_at, stands_by}
use Rattle.game.proofs.Search.{decide, as_true, as_false}
use Rattle.game.proofs.Verdict.{falls_within_lem, stands_within_lem}
use Rattle.game.specs.Exercise.{Answered}

module _ (B : Book) (x turns : ℕ) where
  first : falls_within B turns x ≡ true → FirstWins B turns x
  first e = (falls_game B turns x).0 (subst T (sym e) tt)

  no_first : falls_within B turns x ≡ false → FirstWins B turns x → ⊥
  no_first e w = subst T e ((falls_game B turns x).1 w)

  second : stands_within B turns x ≡ true → SecondWins B turns x
  second e = (stands_game B turns x).0 (subst T (sym e) tt)

  no_second : stands_within B turns x ≡ false → SecondWins B turns x → ⊥
  no_second e w = subst T e ((stands_game B turns x).1 w)

  not_both : FirstWins B turns x → SecondWins B turns x → ⊥
  not_both f s = exclusive B turns turns x ((falls_game B turns x).1 f) ((stands_game B turns x).1 s)

  -- the three answers
  pub answers_falls : falls_within B turns x ≡ true → Answered B x turns 2
  answers_falls f = record {
    falls = (λ e. first f, λ w. refl);
    stands = (λ e. absurd (omega arith), λ w. absurd (not_both (first f) w));
    small = omega arith;
  }

  pub answers_stands : stands_within B turns x ≡ true → Answered B x turns 1
  answers_stands s = record {
    falls = (λ e. absurd (omega arith), λ w. absurd (not_both w (second s)));
    stands = (λ e. second s, λ w. refl);
    small = omega arith;
  }

  pub answers_neither : falls_within B turns x ≡ false → stands_within B turns x ≡ false → Answered B x turns 0
  answers_neither f s = record {
    falls = (λ e. absurd (omega arith), λ w. absurd (no_first f w));
    stands = (λ e. absurd (omega arith), λ w. absurd (no_second s w));
    small = omega arith;
  }

  pub answered_there : (a : ℕ) × Answered B x turns a
  answered_there = go (decide (falls_within B turns x)) (decide (stands_within B turns x))
    where
      go : T (falls_within B turns x) ⊎ T (not (falls_within B turns x)) → T (stands_within B turns x)
          ⊎ T (not (stands_within B turns x)) → (a : ℕ) × Answered B x turns a
      go (inl f) d = (2, answers_falls (as_true (falls_within B turns x) f))
      go (inr f) (inl s) = (1, answers_stands (as_true (stands_within B turns x) s))
      go (inr f) (inr s) = (0, answers_neither (as_false (falls_within B turns x) f) (as_false (stands_within B turns x) s))

  -- there is no other answer
  pub answered_once : (a a' : ℕ) → Answered B x turns a → Answered B x turns a' → a ≡ a'
  answered_once a a' p q = go (ℕ_discrete a 2) (ℕ_discrete a 1) (ℕ_discrete a' 2) (ℕ_discrete a' 1)
    where
      go : Dec (a ≡ 2) → Dec (a ≡ 1) → Dec (a' ≡ 2) → Dec (a' ≡ 1) → a ≡ a'
      go (yes e) v w z = e ∙ sym (q.falls.1 (p.falls.0 e))
      go (no f) (yes e) w z = e ∙ sym (q.stands.1 (p.stands.0 e))
      go (no f) (no g) (yes e) z = absurd (f (p.falls.1 (q.falls.0 e)))
      go (no f) (no g) (no h) (yes e) = absurd (g (p.stands.1 (q.stands.0 e)))
      go (no f) (no g) (no h) (no k) = omega (arith, p.small, q.small)

  module _ (a : ℕ) (p : Answered B x turns a) where
    -- the answer is what the rules compute
    pub answered_rule : ((a ≡ 2) ↔ T (falls_within B turns x)) × ((a ≡ 1) ↔ T (stands_within B turns x))
    answered_rule = (
      (λ e. (falls_game B turns x).1 (p.falls.0 e), λ t. p.falls.1 ((falls_game B turns x).0 t)),
      (λ e. (stands_game B turns x).1 (p.stands.0 e), λ t. p.stands.1 ((stands_game B turns x).0 t)),
    )

    -- and it is the label, where the length is not above the turns
    pub answered_label : ((a ≡ 2) ↔ ((n : ℕ) × (n ≤ turns) × Means B x (falls n)))
        × ((a ≡ 1) ↔ ((n : ℕ) × (n ≤ turns) × Means B x (stands n)))
    answered_label = (
      (λ e. (falls_within_lem B turns x).0 (answered_rule.0.0 e), λ w. answered_rule.0.1 ((falls_within_lem B turns x).1 w)),
      (λ e. (stands_within_lem B turns x).0 (answered_rule.1.0 e), λ w. answered_rule.1.1 ((stands_within_lem B turns x).1 w)),
    )

module _ (B : Book) (x a : ℕ) where
  -- "Nothing falls within 0. Standing within 0 means read and without objectors."
  pub answered_at_once : Answered B x 0 a → (a ≡ 2 → ⊥) × ((a ≡ 1) ↔ (Read B x × (¬ Objected B x)))
  answered_at_once p =
      let (f, s) = answered_rule B x 0 a p in (
        λ e. falls_zero B x (f.0 e),
        (
          λ e. (stands_read B 0 x (s.0 e), stands_zero_at B x (s.0 e)),
          λ (r, none). s.1 (stands_zero_by B x r none),
        ),
      )

  -- "each asked through the other with one turn less"
  pub answered_through : (n : ℕ) → Answered B x (suc n) a → ((a ≡ 2) ↔ ((y : ℕ) × Objects B y x × Answered B y n 1))
      × ((a ≡ 1) ↔ (Read B x × ((y : ℕ) → Objects B y x → Answered B y n 2)))
  answered_through n p =
      let (f, s) = answered_rule B x (suc n) a p in (
        (
          λ e. let (y, o, t) = falls_at B n x (f.0 e) in (y, o, answers_stands B y n (as_true (stands_within B n y) t)),
          λ (y, o, q). f.1 (falls_by B n x y o ((answered_rule B y n 1 q).1.0 refl)),
        ),
        (
          λ e. (
            stands_read B (suc n) x (s.0 e),
            λ y o. answers_falls B y n (as_true (falls_within B n y) (stands_at B n x (s.0 e) y o)),
          ),
          λ (r, each). s.1 (stands_by B n x r (λ y o. (answered_rule B y n 2 (each y o)).0.0 refl)),
        ),
      )
