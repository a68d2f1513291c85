-- Tests that compute, put together like the statements that they are tests of. A `Test` that passes shows its statement; a
-- `Decision` that fails shows that it does not hold. What is tested is left to others.
use mathlib.Core.Bool.{Bool, false, not, ◌&&◌, ◌||◌}
use mathlib.Core.List.{List}
use mathlib.Core.Logic.{inl, inr, ⊎_elim, ◌⊎◌}
use mathlib.Core.Path.{◌≡◌}
use Prim.Native.Nat.{ℕ, ◌≤◌, ◌<◌}
use lib.Dec.{leb, ltb, eqb, T, eqb→eq, leb→le, le→leb, ltb→lt, lt→ltb, T_not, not_T}
use Rattle.game.specs.Book.{any, all}
use Rattle.game.specs.Find.{First}
use Rattle.game.proofs.Search.{both, and_of, or_cases, or_left, or_right, only_if, only_if_of, any_at, any_of, all_at, all_of}
use Rattle.examples.proofs.Text.{same, same_is, same_passes, equal}

pub record Test (P : Type 0) : Type 0 where
  pub passes : Bool
  pub is : T passes → P

pub record Decision (P : Type 0) : Type 0 where
  pub passes : Bool
  pub is : T passes → P
  pub must : P → T passes

module _ {P Q : Type 0} where
  -- both; the second where the first holds; one or the other; what follows
  abbrev pub both_of : Test P → Test Q → Test (P × Q)
  both_of p q = record {
    passes = p.passes && q.passes;
    is = λ t. let (a, b) = both p.passes q.passes t in (p.is a, q.is b);
  }

  abbrev pub under : Test P → Test (P → Q) → Test (P × Q)
  under p q = record {
    passes = p.passes && q.passes;
    is = λ t. let (a, b) = both p.passes q.passes t in (p.is a, q.is b (p.is a));
  }

  abbrev pub either_of : Test P → Test Q → Test (P ⊎ Q)
  either_of p q = record {
    passes = p.passes || q.passes;
    is = λ t. ⊎_elim (λ a. inl (p.is a)) (λ b. inr (q.is b)) (or_cases p.passes q.passes t);
  }

  abbrev pub so : (P → Q) → Test P → Test Q
  so f p = record { passes = p.passes; is = λ t. f (p.is t) }

  abbrev pub both_decided : Decision P → Decision Q → Decision (P × Q)
  both_decided p q = record {
    passes = p.passes && q.passes;
    is = λ t. let (a, b) = both p.passes q.passes t in (p.is a, q.is b);
    must = λ (a, b). and_of p.passes q.passes (p.must a) (q.must b);
  }

  abbrev pub either_decided : Decision P → Decision Q → Decision (P ⊎ Q)
  either_decided p q = record {
    passes = p.passes || q.passes;
    is = λ t. ⊎_elim (λ a. inl (p.is a)) (λ b. inr (q.is b)) (or_cases p.passes q.passes t);
    must = ⊎_elim (λ a. or_left p.passes q.passes (p.must a)) (λ b. or_right p.passes q.passes (q.must b));
  }

module _ {P : Type 0} where
  -- a test that never passes; what is decided, and its contrary
  abbrev pub never : Test P
  never = record { passes = false; is = λ t. absurd t }

  abbrev pub decided : Decision P → Test P
  decided p = record { passes = p.passes; is = p.is }

  abbrev pub refuted : Decision P → Test (¬ P)
  refuted p = record { passes = not p.passes; is = λ t h. T_not p.passes t (p.must h) }

  abbrev pub not_decided : Decision P → Decision (¬ P)
  not_decided p = record {
    passes = not p.passes;
    is = λ t h. T_not p.passes t (p.must h);
    must = λ n. not_T p.passes (λ t. n (p.is t));
  }

-- numbers and lists
abbrev pub equals : (a b : ℕ) → Decision (a ≡ b)
equals a b = record { passes = eqb a b; is = eqb→eq a b; must = λ e. equal e }

abbrev pub at_most : (a b : ℕ) → Decision (a ≤ b)
at_most a b = record { passes = leb a b; is = leb→le a b; must = le→leb a b }

abbrev pub below : (a b : ℕ) → Decision (a < b)
below a b = record { passes = ltb a b; is = ltb→lt a b; must = lt→ltb a b }

abbrev pub alike : (u v : List ℕ) → Decision (u ≡ v)
alike u v = record { passes = same u v; is = same_is u v; must = same_passes u v }

-- every place below n; some place below n; none at all, where none is at n or above; the first
abbrev pub each : {P : ℕ → Type 0} → (n : ℕ) → ((k : ℕ) → Test (P k)) → Test ((k : ℕ) → k < n → P k)
each n p = record { passes = all n (λ k. (p k).passes); is = λ t k h. (p k).is (all_at n (λ k. (p k).passes) t k h) }

abbrev pub some : {P : ℕ → Type 0} → (n : ℕ) → ((k : ℕ) → Decision (P k)) → Decision ((k : ℕ) × (k < n) × P k)
some n p = record {
  passes = any n (λ k. (p k).passes);
  is = λ t. let (k, h, u) = any_at n (λ k. (p k).passes) t in (k, h, (p k).is u);
  must = λ (k, h, u). any_of n (λ k. (p k).passes) k h ((p k).must u);
}

module _ {P : ℕ → Type 0} (p : (k : ℕ) → Decision (P k)) where
  abbrev pub none : (n : ℕ) → ((k : ℕ) → P k → k < n) → Test ((k : ℕ) → ¬ P k)
  none n bound = record {
    passes = all n (λ k. not (p k).passes);
    is = λ t k h. T_not (p k).passes (all_at n (λ k. not (p k).passes) t k (bound k h)) ((p k).must h);
  }

  abbrev pub first : (k : ℕ) → Test (First P k)
  first k = both_of (decided (p k)) (each k (λ j. refuted (p j)))

-- decisions of what follows from a condition, of every place below n, and of what says the same
abbrev pub if_decided : {P Q : Type 0} → Decision P → Decision Q → Decision (P → Q)
if_decided p q = record {
  passes = not p.passes || q.passes;
  is = λ t h. q.is (only_if p.passes q.passes t (p.must h));
  must = λ f. only_if_of p.passes q.passes (λ t. q.must (f (p.is t)));
}

abbrev pub each_decided : {P : ℕ → Type 0} → (n : ℕ) → ((k : ℕ) → Decision (P k)) → Decision ((k : ℕ) → k < n → P k)
each_decided n p = record {
  passes = all n (λ k. (p k).passes);
  is = λ t k h. (p k).is (all_at n (λ k. (p k).passes) t k h);
  must = λ f. all_of n (λ k. (p k).passes) (λ k h. (p k).must (f k h));
}

abbrev pub equally : {P Q : Type 0} → (P → Q) → (Q → P) → Decision P → Decision Q
equally f g p = record { passes = p.passes; is = λ t. f (p.is t); must = λ q. p.must (g q) }
