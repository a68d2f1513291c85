-- The rules say what the game means, for each speaker and each number of turns: `falls_game` and `stands_game`. And a
-- forced win is about something: `played_out`.
use mathlib.Core.Bool.{not}
use mathlib.Core.Logic.{inl, inr, ◌⊎◌, ◌↔◌}
use Prim.Native.Nat.{ℕ, suc, zero, ◌≤◌, ◌<◌, ◌+◌}
use native.Mathlib.Nat.{not-suc-le-zero, zero-add, suc-add}
use native.Mathlib.Decide.{dec_le}
use native.Mathlib.Omega.{arith}
use lib.Dec.{T}
use Rattle.game.specs.Book.{Book, Objected, Objects, Read}
use Rattle.game.specs.Game.{Turn, Reach, theirs, mine, start, kept, named, Forces, Won, CanEnd, Choice, FirstWins}
use Rattle.game.specs.Game.{SecondWins}
use Rattle.game.specs.Rules.{falls_within}
use Rattle.game.proofs.Search.{refute, clash, decide}
use Rattle.game.proofs.Rules.{objected?, FallsWithin, falls_by, StandsWithin, stands_zero_by, stands_by, falls_zero}
use Rattle.game.proofs.Rules.{stands_zero_at, stands_at, falls_at, stands_read, falls_mono}

-- From the game to the rules: after one turn the same choice still forces, within one turn less.
module _ (B : Book) (σ : ℕ → ℕ) where
  after_kept : {x k y : ℕ} {m : Turn} → Objected B x → Reach B σ theirs (σ x) k m y → Reach B σ mine x (suc k) m y
  after_kept o start = kept start o
  after_kept o (kept r p) = kept (after_kept o r) p
  after_kept o (named r p) = named (after_kept o r) p

  after_named : {x z k y : ℕ} {m : Turn} → Objects B z x → Reach B σ mine z k m y → Reach B σ theirs x (suc k) m y
  after_named o start = named start o
  after_named o (kept r p) = kept (after_named o r) p
  after_named o (named r p) = named (after_named o r) p

  forces_kept : {n x : ℕ} → Objected B x → Forces B σ mine (suc n) x → Forces B σ theirs n (σ x)
  forces_kept o F = record {
    choice = F.choice;
    within = λ k m y r. omega (arith, F.within (suc k) m y (after_kept o r));
    won = λ k m y r. F.won (suc k) m y (after_kept o r);
  }

  forces_named : {n x z : ℕ} → Objects B z x → Forces B σ theirs (suc n) x → Forces B σ mine n z
  forces_named o F = record {
    choice = F.choice;
    within = λ k m y r. omega (arith, F.within (suc k) m y (after_named o r));
    won = λ k m y r. F.won (suc k) m y (after_named o r);
  }

  forces_objected : {n x : ℕ} → Forces B σ mine n x → Objected B x
  forces_objected {n} {x} F = go (objected? B x)
    where
      go : Objected B x ⊎ (¬ Objected B x) → Objected B x
      go (inl o) = o
      go (inr f) = absurd (F.won 0 mine x start f)

  forces_read : {n x : ℕ} → Forces B σ theirs n x → Read B x
  forces_read {n} {x} F = refute (B.unread x) (λ u. clash (B.unread x) u (F.won 0 theirs x start (inr u)).1)

  mutual
    game_falls : (n : ℕ) (x : ℕ) → Forces B σ mine n x → FallsWithin B n x
    game_falls zero x F = let o = forces_objected F in absurd (not-suc-le-zero (F.within 1 theirs (σ x) (kept start o)))
    game_falls (suc n) x F =
        let o = forces_objected F in falls_by B n x (σ x) (F.choice x o) (game_stands n (σ x) (forces_kept o F))

    game_stands : (n : ℕ) (x : ℕ) → Forces B σ theirs n x → StandsWithin B n x
    game_stands zero x F =
        stands_zero_by B x (forces_read F) (λ w. not-suc-le-zero (F.within 1 mine w.0 (named start w.1)))
    game_stands (suc n) x F = stands_by B n x (forces_read F) (λ z o. game_falls n z (forces_named o F))

-- However a play has gone in which I keep to a choice that forces a win, it can be played to its end, and I have won.
module _ (B : Book) (σ : ℕ → ℕ) where
  joined : {t m : Turn} {x y k : ℕ} {p : Turn} {z j : ℕ} → Reach B σ t x k m y → Reach B σ m y j p z → Reach B σ t x (j + k) p z
  joined r start = rw zero-add r
  joined r (kept s o) = rw suc-add (kept (joined r s) o)
  joined r (named s o) = rw suc-add (named (joined r s) o)

  later_forces : {t m : Turn} {x y n k : ℕ} → Forces B σ t n x → Reach B σ t x k m y → Forces B σ m n y
  later_forces {k = k} F r = record {
    choice = F.choice;
    within = λ j p z s. omega (arith, F.within (j + k) p z (joined r s));
    won = λ j p z s. F.won (j + k) p z (joined r s);
  }

  Ended : Turn → ℕ → Type 0
  Ended t x = (k : ℕ) × (y : ℕ) × Reach B σ t x k theirs y × Won B theirs y

  mutual
    unfolding Ended

    ended_mine : (n : ℕ) (x : ℕ) → Forces B σ mine n x → Ended mine x
    ended_mine zero x F = absurd (falls_zero B x (game_falls B σ zero x F))
    ended_mine (suc n) x F =
        let o = forces_objected B σ F in
        let (k, y, r, w) = ended_theirs n (σ x) (forces_kept B σ o F) in
        (suc k, y, after_kept B σ o r, w)

    ended_theirs : (n : ℕ) (x : ℕ) → Forces B σ theirs n x → Ended theirs x
    ended_theirs zero x F = (0, x, start, (stands_zero_at B x (game_stands B σ zero x F), forces_read B σ F))
    ended_theirs (suc n) x F = go (objected? B x) (λ z o. ended_mine n z (forces_named B σ o F))
      where
        go : Objected B x ⊎ (¬ Objected B x) → ((z : ℕ) → Objects B z x → Ended mine z) → Ended theirs x
        go (inl (z, o)) f = let (k, y, r, w) = f z o in (suc k, y, after_named B σ o r, w)
        go (inr none) f = (0, x, start, (none, forces_read B σ F))

  ended : (t : Turn) (n x : ℕ) → Forces B σ t n x → Ended t x
  ended mine n x F = ended_mine n x F
  ended theirs n x F = ended_theirs n x F

  pub played_out : {t m : Turn} {x y n k : ℕ} → Forces B σ t n x → Reach B σ t x k m y → (j : ℕ) × (z : ℕ) × (k ≤ j) × (j ≤ n)
      × Reach B σ t x j theirs z × Won B theirs z
  unfolding Ended
  played_out {m = m} {y = y} {n = n} {k = k} F r =
      let (j, z, s, w) = ended m n y (later_forces F r) in
      let q = joined r s in
      (j + k, z, omega arith, F.within (j + k) theirs z q, q, w)

-- From the rules to the game: any choice that answers what falls with what stands the sooner.
module _ (B : Book) where
  -- y is an answer to x, for n turns: x falls within j of them only if y stands within fewer
  pub Answer : ℕ → ℕ → ℕ → Type 0
  Answer n x y = (j : ℕ) → j ≤ n → FallsWithin B j x → (i : ℕ) × (i < j) × StandsWithin B i y

  -- What holds along every play in which I keep to such a choice.
  Held : ℕ → ℕ → Turn → ℕ → Type 0
  Held n k mine y = (j : ℕ) × (k + j ≤ n) × FallsWithin B j y
  Held n k theirs y = (j : ℕ) × (k + j ≤ n) × StandsWithin B j y

  named_by_them : (n k j y z : ℕ) → k + j ≤ n → StandsWithin B j y → Objects B z y → Held n (suc k) mine z
  unfolding Held
  named_by_them n k zero y z h s o = absurd (stands_zero_at B y s (z, o))
  named_by_them n k (suc j) y z h s o = (j, omega arith, stands_at B j y s z o)

  ends : (n k : ℕ) (m : Turn) (y : ℕ) → Held n k m y → (k ≤ n) × (CanEnd B m y → Won B m y)
  unfolding Held
  ends n k mine y (zero, l, f) = absurd (falls_zero B y f)
  ends n k mine y (suc j, l, f) = (omega arith, λ none. let (z, o, s) = falls_at B j y f in none (z, o))
  ends n k theirs y (j, l, s) = (
    omega arith,
    elim [
      | inl none ↦ (none, stands_read B j y s)
      | inr u ↦ absurd (clash (B.unread y) u (stands_read B j y s))
    ],
  )

  module _ (n : ℕ) (σ : ℕ → ℕ) (legal : Choice B σ) (good : (x : ℕ) → Answer n x (σ x)) where
    held : {x : ℕ} {t : Turn} {k y : ℕ} {m : Turn} → Held n 0 t x → Reach B σ t x k m y → Held n k m y
    unfolding Held Answer
    held h start = h
    held h (kept {y = y} r o) =
        let (j, l, f) = held h r in
        let (i, d, s) = good y j (omega arith) f in
        (i, omega arith, s)
    held h (named {k = k} {y = y} {z = z} r o) = let (j, l, s) = held h r in named_by_them n k j y z l s o

    forces : (x : ℕ) (t : Turn) → Held n 0 t x → Forces B σ t n x
    forces x t h = record {
      choice = legal;
      within = λ k m y r. (ends n k m y (held h r)).0;
      won = λ k m y r. (ends n k m y (held h r)).1;
    }

    pub forces_falling : (x : ℕ) → FallsWithin B n x → Forces B σ mine n x
    unfolding Held
    forces_falling x f = forces x mine (n, omega arith, f)

    pub forces_standing : (x : ℕ) → StandsWithin B n x → Forces B σ theirs n x
    unfolding Held
    forces_standing x s = forces x theirs (n, omega arith, s)

  -- There is such a choice: an objector that stands the soonest.
  later : (n j x : ℕ) → T (not (falls_within B n x)) → FallsWithin B j x → n < j
  later n j x f t = go (dec_le j n)
    where
      go : Dec (j ≤ n) → n < j
      go (yes l) = absurd (clash (falls_within B n x) (falls_mono B j n x l t) f)
      go (no g) = omega arith

  Pick : ℕ → ℕ → Type 0
  Pick n x = (y : ℕ) × (Objected B x → Objects B y x) × Answer n x y

  pick : (n : ℕ) (x : ℕ) → Pick n x
  unfolding Pick Answer
  pick zero x = go (objected? B x)
    where
      go : Objected B x ⊎ (¬ Objected B x) → Pick zero x
      go (inl (y, o)) = (y, λ w. o, λ j h t. absurd (falls_zero B x (falls_mono B j 0 x h t)))
      go (inr f) = (0, λ w. absurd (f w), λ j h t. absurd (falls_zero B x (falls_mono B j 0 x h t)))
  pick (suc n) x = go (pick n x) (decide (falls_within B n x)) (decide (falls_within B (suc n) x))
    where
      still : (y : ℕ) → Answer n x y → FallsWithin B n x → (j : ℕ) → FallsWithin B j x → Dec (j ≤ n) → (i : ℕ) × (i < j)
          × StandsWithin B i y
      still y a f j t (yes l) = a j l t
      still y a f j t (no g) = let (i, l, s) = a n (omega arith) f in (i, omega arith, s)

      go : Pick n x → T (falls_within B n x) ⊎ T (not (falls_within B n x)) → T (falls_within B (suc n) x)
          ⊎ T (not (falls_within B (suc n) x)) → Pick (suc n) x
      go (y, o, a) (inl f) d = (y, o, λ j h t. still y a f j t (dec_le j n))
      go p (inr w) (inl f) = let (y, o, s) = falls_at B n x f in (y, λ v. o, λ j h t. (n, later n j x w t, s))
      go (y, o, a) (inr w) (inr g) = (y, o, λ j h t. absurd (clash (falls_within B (suc n) x) (falls_mono B j (suc n) x h t) g))

  soonest : ℕ → ℕ → ℕ
  unfolding Pick
  soonest n x = (pick n x).0

  soonest_legal : (n : ℕ) → Choice B (soonest n)
  unfolding soonest
  soonest_legal n x w = (pick n x).1 w

  soonest_good : (n x : ℕ) → Answer n x (soonest n x)
  unfolding soonest
  soonest_good n x = (pick n x).2

  pub falls_game : (n x : ℕ) → FallsWithin B n x ↔ FirstWins B n x
  falls_game n x =
      (λ f. (soonest n, forces_falling n (soonest n) (soonest_legal n) (soonest_good n) x f), λ w. game_falls B w.0 n x w.1)

  pub stands_game : (n x : ℕ) → StandsWithin B n x ↔ SecondWins B n x
  stands_game n x = (
    λ s. (soonest n, forces_standing n (soonest n) (soonest_legal n) (soonest_good n) x s),
    λ w. game_stands B w.0 n x w.1,
  )
