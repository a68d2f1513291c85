-- What agrees everywhere with its own objectors is the meaning, and the meaning so agrees.
use mathlib.Core.Bool.{not}
use mathlib.Core.Logic.{inl, inr, ◌⊎◌, ◌↔◌}
use mathlib.Core.Path.{subst, sym, refl, ap, ◌≡◌, ◌∙◌}
use Prim.Native.Nat.{ℕ, zero, suc, ◌≤◌, ◌-◌}
use native.Mathlib.Omega.{arith, not-le}
use lib.Dec.{T}
use Rattle.game.specs.Book.{Book, Listed, Objects, Unread}
use Rattle.game.specs.Label.{Verdict, falls, stands, is_open, Means}
use Rattle.game.specs.Rules.{falls_within}
use Rattle.game.specs.Agree.{Agrees, Fits}
use Rattle.game.proofs.Search.{clash, decide}
use Rattle.game.proofs.Rules.{FallsWithin, falls_by, StandsWithin, stands_mono, stands_zero_by, stands_by, falls_mono}
use Rattle.game.proofs.Rules.{falls_zero, falls_at, exclusive, stands_read, stands_zero_at, stands_at, unanswered}
use Rattle.game.proofs.Verdict.{Ruled, length_bound, ruled_means, means_ruled, verdict, verdict_means}

module _ (B : Book) (v : ℕ → Verdict) where
  -- From agreement to the meaning.
  module _ (agree : Agrees B v) where
    at : (x : ℕ) → Listed B x → (w : Verdict) → v x ≡ w → Fits B v x w
    at x l w e = subst (λ u. Fits B v x u) e (agree x l)

    mutual
      sound_falls : (N : ℕ) (n x : ℕ) → n ≤ N → Listed B x → v x ≡ falls n → FallsWithin B n x
      sound_falls zero n x h l e = let (m, d, b, c) = at x l (falls n) e in absurd (omega arith)
      sound_falls (suc N) n x h l e =
          let (m, d, (y, o, f), c) = at x l (falls n) e in
          subst (λ k. FallsWithin B k x) (sym d) (falls_by B m x y o (sound_stands N m y (omega arith) o.0 f))

      sound_stands : (N : ℕ) (n x : ℕ) → n ≤ N → Listed B x → v x ≡ stands n → StandsWithin B n x
      sound_stands zero n x h l e =
          let (r, a, c) = at x l (stands n) e in
          stands_mono B 0 n x (omega arith) (stands_zero_by B x r (λ w. let (k, f, d) = a w.0 w.1 in omega arith))
      sound_stands (suc N) zero x h l e =
          let (r, a, c) = at x l (stands zero) e in
          stands_zero_by B x r (λ w. let (k, f, d) = a w.0 w.1 in omega arith)
      sound_stands (suc N) (suc n) x h l e =
          let (r, a, c) = at x l (stands (suc n)) e in
          stands_by B n x r (λ z o. let (k, f, d) = a z o in falls_mono B k n z (omega arith)
          (sound_falls N k z (omega arith) o.0 f))

    mutual
      open_falls : (n : ℕ) (x : ℕ) → Listed B x → v x ≡ is_open → FallsWithin B n x → ⊥
      open_falls zero x l e t = falls_zero B x t
      open_falls (suc n) x l e t = let (y, o, s) = falls_at B n x t in go y o s (v y) refl (λ d. open_stands n y o.0 d s)
        where
          go : (y : ℕ) → Objects B y x → StandsWithin B n y → (w : Verdict) → v y ≡ w → (v y ≡ is_open → ⊥) → ⊥
          go y o s is_open d f = f d
          go y o s (stands k) d f = (at x l is_open e).0 y k o d
          go y o s (falls k) d f = exclusive B k n y (sound_falls k k y (omega arith) o.0 d) s

      open_stands : (n : ℕ) (x : ℕ) → Listed B x → v x ≡ is_open → StandsWithin B n x → ⊥
      open_stands zero x l e s = go (at x l is_open e).1
        where
          go : Unread B x ⊎ ((y : ℕ) × Objects B y x × (v y ≡ is_open)) → ⊥
          go (inl u) = clash (B.unread x) u (stands_read B zero x s)
          go (inr (y, o, d)) = stands_zero_at B x s (y, o)
      open_stands (suc n) x l e s = go (at x l is_open e).1 (λ y o d. open_falls n y o.0 d (stands_at B n x s y o))
        where
          go : Unread B x ⊎ ((y : ℕ) × Objects B y x × (v y ≡ is_open)) → ((y : ℕ) → Objects B y x → v y ≡ is_open → ⊥) → ⊥
          go (inl u) f = clash (B.unread x) u (stands_read B (suc n) x s)
          go (inr (y, o, d)) f = f y o d

    mutual
      least_falls : (m : ℕ) (n x : ℕ) → Listed B x → v x ≡ falls n → FallsWithin B m x → n ≤ m
      least_falls zero n x l e t = absurd (falls_zero B x t)
      least_falls (suc m) n x l e t =
          let (y, o, s) = falls_at B m x t in go y o s (v y) refl (λ k d. least_stands m k y o.0 d s)
        where
          go : (y : ℕ) → Objects B y x → StandsWithin B m y → (w : Verdict) → v y ≡ w → ((k : ℕ) → v y ≡ stands k → k ≤ m)
              → n ≤ suc m
          go y o s is_open d f = absurd (open_stands m y o.0 d s)
          go y o s (falls k) d f = absurd (exclusive B k m y (sound_falls k k y (omega arith) o.0 d) s)
          go y o s (stands k) d f = let (i, p, b, c) = at x l (falls n) e in omega (arith, c y k o d, f k d)

      least_stands : (m : ℕ) (n x : ℕ) → Listed B x → v x ≡ stands n → StandsWithin B m x → n ≤ m
      least_stands zero zero x l e s = omega arith
      least_stands zero (suc n) x l e s =
          let (y, o, d) = (at x l (stands (suc n)) e).2 n refl in absurd (stands_zero_at B x s (y, o))
      least_stands (suc m) zero x l e s = omega arith
      least_stands (suc m) (suc n) x l e s =
          let (y, o, d) = (at x l (stands (suc n)) e).2 n refl in omega (arith, least_falls m n y o.0 d (stands_at B m x s y o))

    ruled : (x : ℕ) → Listed B x → Ruled B x (v x)
    ruled x l = go (v x) refl
      where
        go : (w : Verdict) → v x ≡ w → Ruled B x w
        go is_open e = (λ n. open_falls n x l e, λ n. open_stands n x l e)
        go (stands n) e = (sound_stands n n x (omega arith) l e, λ m. least_stands m n x l e)
        go (falls n) e = (sound_falls n n x (omega arith) l e, λ m. least_falls m n x l e)

  -- From the meaning to agreement.
  module _ (ruled : (x : ℕ) → Listed B x → Ruled B x (v x)) where
    stands_label : (m y : ℕ) → Listed B y → StandsWithin B m y → (k : ℕ) × (v y ≡ stands k) × (k ≤ m)
    stands_label m y l s = go (v y) refl (ruled y l)
      where
        go : (w : Verdict) → v y ≡ w → Ruled B y w → (k : ℕ) × (v y ≡ stands k) × (k ≤ m)
        go is_open e p = absurd (p.1 m s)
        go (falls k) e p = absurd (exclusive B k m y p.0 s)
        go (stands k) e p = (k, e, p.1 m s)

    falls_label : (m y : ℕ) → Listed B y → FallsWithin B m y → (k : ℕ) × (v y ≡ falls k) × (k ≤ m)
    falls_label m y l f = go (v y) refl (ruled y l)
      where
        go : (w : Verdict) → v y ≡ w → Ruled B y w → (k : ℕ) × (v y ≡ falls k) × (k ≤ m)
        go is_open e p = absurd (p.0 m f)
        go (stands k) e p = absurd (exclusive B m k y f p.0)
        go (falls k) e p = (k, e, p.1 m f)

    stands_of : (k z : ℕ) → Listed B z → v z ≡ stands k → StandsWithin B k z
    stands_of k z l e = let p : Ruled B z (stands k) = subst (λ w. Ruled B z w) e (ruled z l) in p.0

    agree_falls : (n x : ℕ) → Ruled B x (falls n) → Fits B v x (falls n)
    agree_falls zero x (t, b) = absurd (falls_zero B x t)
    agree_falls (suc m) x (t, b) =
        let (y, o, s) = falls_at B m x t in
        let (k, e, h) = stands_label m y o.0 s in
        let g : k ≡ m = omega (arith, b (suc k) (falls_by B k x y o (stands_of k y o.0 e))) in
        (m, refl, (y, o, e ∙ ap stands g), λ z k o e. omega (arith, b (suc k) (falls_by B k x z o (stands_of k z o.0 e))))

    longest : (m x : ℕ) → Ruled B x (stands (suc m)) → (y : ℕ) × Objects B y x × (v y ≡ falls m)
    longest zero x (s, b) =
        absurd (omega (
          arith,
          b 0 (stands_zero_by B x (stands_read B 1 x s)
              (λ w. falls_zero B w.0 (stands_at B 0 x s w.0 w.1))),
        ))
    longest (suc m) x (s, b) =
        let (y, o, g) = unanswered B m x (stands_read B (suc (suc m)) x s) (λ t. omega (arith, b (suc m) t)) in
        let (k, e, h) = falls_label (suc m) y o.0 (stands_at B (suc m) x s y o) in
        go y o g k e h
      where
        go : (y : ℕ) → Objects B y x → T (not (falls_within B m y)) → (k : ℕ) → v y ≡ falls k → k ≤ suc m → (y : ℕ) × Objects B y
            x
            × (v y ≡ falls (suc m))
        go y o g k e h =
            let p : Ruled B y (falls k) = subst (λ w. Ruled B y w) e (ruled y o.0) in
            let d : k ≡ suc m = omega (arith, not-le k m (λ l. clash (falls_within B m y) (falls_mono B k m y l p.0) g)) in
            (y, o, e ∙ ap falls d)

    agree_stands : (n x : ℕ) → Ruled B x (stands n) → Fits B v x (stands n)
    agree_stands zero x (s, b) = (stands_read B 0 x s, (λ z o. absurd (stands_zero_at B x s (z, o))), λ m e. absurd (omega arith))
    agree_stands (suc n) x (s, b) = (
      stands_read B (suc n) x s,
      (λ z o. let (k, e, h) = falls_label n z o.0 (stands_at B n x s z o) in (k, e, omega arith)),
      λ m e. let d : n ≡ m = omega arith in subst (λ m. (y : ℕ) × Objects B y x × (v y ≡ falls m)) d (longest n x (s, b)),
    )

    agree_open : (x : ℕ) → Ruled B x is_open → Fits B v x is_open
    agree_open x (f, s) = ((λ z k o e. f (suc k) (falls_by B k x z o (stands_of k z o.0 e))), go (decide (B.unread x)))
      where
        look : (y : ℕ) → Objects B y x → T (not (falls_within B (B.size - 1) y)) → (w : Verdict) → v y ≡ w → Ruled B y w → (y : ℕ)
            × Objects B y x × (v y ≡ is_open)
        look y o g is_open e p = (y, o, e)
        look y o g (stands k) e p = absurd (f (suc k) (falls_by B k x y o p.0))
        look y o g (falls k) e p =
            absurd (clash (falls_within B (B.size - 1) y) (falls_mono B k (B.size - 1) y
            (length_bound B y o.0 (falls k) (ruled_means B y (falls k) p)) p.0) g)

        go : T (B.unread x) ⊎ T (not (B.unread x)) → Unread B x ⊎ ((y : ℕ) × Objects B y x × (v y ≡ is_open))
        go (inl u) = inl u
        go (inr r) =
            let (y, o, g) = unanswered B (B.size - 1) x r (s (suc (B.size - 1))) in inr (look y o g (v y) refl (ruled y o.0))

    agrees : Agrees B v
    agrees x l = go (v x) (ruled x l)
      where
        go : (w : Verdict) → Ruled B x w → Fits B v x w
        go is_open p = agree_open x p
        go (stands n) p = agree_stands n x p
        go (falls n) p = agree_falls n x p

  pub agrees_means : Agrees B v ↔ ((x : ℕ) → Listed B x → Means B x (v x))
  agrees_means = (λ a x l. ruled_means B x (v x) (ruled a x l), λ f. agrees (λ x l. means_ruled B x (v x) (f x l)))

-- the meaning's own verdicts agree
pub verdict_agrees : (B : Book) → Agrees B (verdict B)
verdict_agrees B = (agrees_means B (verdict B)).1 (verdict_means B)
