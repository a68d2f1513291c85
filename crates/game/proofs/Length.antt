-- Each round up to the last settles one more statement: the ground of the bound on lengths.
use mathlib.Core.Bool.{Bool, not, false, ◌||◌}
use mathlib.Core.Logic.{inl, inr, ◌⊎◌}
use Prim.Native.Nat.{ℕ, suc, zero, ◌<◌}
use native.Mathlib.Omega.{arith}
use lib.Dec.{T}
use Rattle.game.specs.Book.{Book, Objects, count}
use Rattle.game.specs.Rules.{falls_within, stands_within}
use Rattle.game.proofs.Search.{or_left, or_right, or_cases, refute, clash}
use Rattle.game.proofs.Rules.{FallsWithin, StandsWithin, falls_mono, stands_mono, falls_at, exclusive, falls_by}
use Rattle.game.proofs.Rules.{stands_zero_by, stands_read, falls_zero, stands_at, unanswered}
use Rattle.game.proofs.Count.{count_strict, count_le}

module _ (B : Book) where
  -- x falls or stands within n turns
  pub settled : ℕ → ℕ → Bool
  settled n x = falls_within B n x || stands_within B n x

  pub settled_falls : (n x : ℕ) → FallsWithin B n x → T (settled n x)
  unfolding settled
  settled_falls n x f = or_left (falls_within B n x) (stands_within B n x) f

  pub settled_stands : (n x : ℕ) → StandsWithin B n x → T (settled n x)
  unfolding settled
  settled_stands n x s = or_right (falls_within B n x) (stands_within B n x) s

  pub settled_cases : (n x : ℕ) → T (settled n x) → FallsWithin B n x ⊎ StandsWithin B n x
  unfolding settled
  settled_cases n x t = or_cases (falls_within B n x) (stands_within B n x) t

  pub settled_more : (n x : ℕ) → T (settled n x) → T (settled (suc n) x)
  settled_more n x t = go (settled_cases n x t)
    where
      go : FallsWithin B n x ⊎ StandsWithin B n x → T (settled (suc n) x)
      go (inl f) = settled_falls (suc n) x (falls_mono B n (suc n) x (omega arith) f)
      go (inr s) = settled_stands (suc n) x (stands_mono B n (suc n) x (omega arith) s)

  -- newly settled at round n: settled within n, and not within any fewer
  abbrev pub New : ℕ → ℕ → Type 0
  New zero y = T (settled zero y)
  New (suc m) y = T (settled (suc m) y) × T (not (settled m y))

  -- what is newly settled has an objector that was newly settled the round before
  descend_falls : (n x : ℕ) → T (not (settled n x)) → FallsWithin B (suc n) x → (y : ℕ) × (y < B.size) × New n y
  descend_falls zero x w f = let (y, o, s) = falls_at B zero x f in (y, o.0, settled_stands zero y s)
  descend_falls (suc m) x w f =
      let (y, o, s) = falls_at B (suc m) x f in (
        y,
        o.0,
        (
          settled_stands (suc m) y s,
          refute (settled m y) (λ t. go y o s (settled_cases m y t)),
        ),
      )
    where
      go : (y : ℕ) → Objects B y x → StandsWithin B (suc m) y → FallsWithin B m y ⊎ StandsWithin B m y → ⊥
      go y o s (inl g) = exclusive B m (suc m) y g s
      go y o s (inr s') = clash (settled (suc m) x) (settled_falls (suc m) x (falls_by B m x y o s')) w

  descend_stands : (n x : ℕ) → T (not (settled n x)) → StandsWithin B (suc n) x → (y : ℕ) × (y < B.size) × New n y
  descend_stands zero x w s =
      absurd (clash (settled zero x) (settled_stands zero x (stands_zero_by B x (stands_read B 1 x s)
      (λ v. falls_zero B v.0 (stands_at B 0 x s v.0 v.1)))) w)
  descend_stands (suc m) x w s =
      let (y, o, g) = unanswered B m x (stands_read B (suc (suc m)) x s)
      (λ t. clash (settled (suc m) x) (settled_stands (suc m) x t) w) in
      let f = stands_at B (suc m) x s y o in
      (y, o.0, (settled_falls (suc m) y f, refute (settled m y) (λ t. go y g f (settled_cases m y t))))
    where
      go : (y : ℕ) → T (not (falls_within B m y)) → FallsWithin B (suc m) y → FallsWithin B m y ⊎ StandsWithin B m y → ⊥
      go y g f (inl f') = clash (falls_within B m y) f' g
      go y g f (inr s') = exclusive B (suc m) m y f s'

  descend : (n x : ℕ) → New (suc n) x → (y : ℕ) × (y < B.size) × New n y
  descend n x (t, w) = go (settled_cases (suc n) x t)
    where
      go : FallsWithin B (suc n) x ⊎ StandsWithin B (suc n) x → (y : ℕ) × (y < B.size) × New n y
      go (inl f) = descend_falls n x w f
      go (inr s) = descend_stands n x w s

  -- so each round up to the newest has settled one more
  rounds : (n x : ℕ) → x < B.size → New n x → n < count B.size (settled n)
  rounds zero x h t = omega (arith, count_strict (λ y. false) (settled zero) B.size x (λ y l. λ e. absurd e) h tt t)
  rounds (suc n) x h (t, w) =
      let (y, l, v) = descend n x (t, w) in
      let r = rounds n y l v in
      omega (arith, count_strict (settled n) (settled (suc n)) B.size x (λ z k. settled_more n z) h w t)

  pub new_bound : (n x : ℕ) → x < B.size → New n x → n < B.size
  new_bound n x h t = omega (arith, rounds n x h t, count_le B.size (settled n))
