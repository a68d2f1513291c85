-- Every listed statement has exactly one verdict, and it can be computed round by round. No length exceeds the number of
-- statements less 1. What stands has only falling objectors, and what is open no standing one.
use mathlib.Core.Bool.{cond, not, Bool, true, false}
use mathlib.Core.Logic.{inl, inr, ◌⊎◌, ◌↔◌}
use mathlib.Core.Path.{refl, ap, sym, subst, ◌≡◌, ◌∙◌}
use Prim.Native.Nat.{ℕ, zero, suc, ◌≤◌, ◌<◌, ◌-◌}
use native.Mathlib.Decide.{dec_le}
use native.Mathlib.Omega.{arith}
use lib.Dec.{T}
use Rattle.game.specs.Book.{Book, Listed, Unread, Objects}
use Rattle.game.specs.Label.{Verdict, stands, is_open, falls, Least, Means, Falls, Stands, Open}
use Rattle.game.specs.Rules.{stands_within, falls_within}
use Rattle.game.proofs.Search.{clash, refute, decide, least}
use Rattle.game.proofs.Rules.{FallsWithin, StandsWithin, exclusive, falls_mono, stands_mono, falls_zero, stands_read}
use Rattle.game.proofs.Rules.{stands_zero_at, stands_at, falls_by}
use Rattle.game.proofs.Game.{falls_game, stands_game}
use Rattle.game.proofs.Length.{settled, settled_cases, settled_falls, settled_stands, New, new_bound}

-- The verdict after so many rounds. Less than `size` rounds are enough.
unfoldable pub verdict_by : Book → ℕ → ℕ → Verdict
verdict_by B zero x = cond (stands_within B zero x) (stands zero) is_open
verdict_by B (suc n) x =
    elim (verdict_by B n x) [
      | is_open ↦ cond (stands_within B (suc n) x) (stands (suc n))
          (cond (falls_within B (suc n) x) (falls (suc n)) is_open)
      | stands k ↦ stands k
      | falls k ↦ falls k
    ]

unfoldable pub verdict : Book → ℕ → Verdict
verdict B x = verdict_by B (B.size - 1) x

-- the verdict has no length above n
abbrev pub Within : ℕ → Verdict → Type 0
Within n is_open = Unit {0}
Within n (stands k) = k ≤ n
Within n (falls k) = k ≤ n

-- `Means`, with the rules in the game's place
abbrev pub Ruled : Book → ℕ → Verdict → Type 0
Ruled B x is_open = ((n : ℕ) → ¬ FallsWithin B n x) × ((n : ℕ) → ¬ StandsWithin B n x)
Ruled B x (stands n) = Least (λ m. StandsWithin B m x) n
Ruled B x (falls n) = Least (λ m. FallsWithin B m x) n

module _ (B : Book) where
  pub ruled_means : (x : ℕ) (v : Verdict) → Ruled B x v → Means B x v
  ruled_means x is_open (f, s) =
      (λ w. f w.0 ((falls_game B w.0 x).1 w.1), λ w. s w.0 ((stands_game B w.0 x).1 w.1))
  ruled_means x (stands n) (t, l) = ((stands_game B n x).0 t, λ m u. l m ((stands_game B m x).1 u))
  ruled_means x (falls n) (t, l) = ((falls_game B n x).0 t, λ m u. l m ((falls_game B m x).1 u))

  pub means_ruled : (x : ℕ) (v : Verdict) → Means B x v → Ruled B x v
  means_ruled x is_open (f, s) = (λ n t. f (n, (falls_game B n x).0 t), λ n t. s (n, (stands_game B n x).0 t))
  means_ruled x (stands n) (t, l) = ((stands_game B n x).1 t, λ m u. l m ((stands_game B m x).0 u))
  means_ruled x (falls n) (t, l) = ((falls_game B n x).1 t, λ m u. l m ((falls_game B m x).0 u))

  pub ruled_unique : (x : ℕ) (v w : Verdict) → Ruled B x v → Ruled B x w → v ≡ w
  ruled_unique x is_open is_open p q = refl
  ruled_unique x is_open (stands m) p q = absurd (p.1 m q.0)
  ruled_unique x is_open (falls m) p q = absurd (p.0 m q.0)
  ruled_unique x (stands n) is_open p q = absurd (q.1 n p.0)
  ruled_unique x (stands n) (stands m) p q = ap stands (omega (arith, p.1 m q.0, q.1 n p.0))
  ruled_unique x (stands n) (falls m) p q = absurd (exclusive B m n x q.0 p.0)
  ruled_unique x (falls n) is_open p q = absurd (q.0 n p.0)
  ruled_unique x (falls n) (stands m) p q = absurd (exclusive B n m x p.0 q.0)
  ruled_unique x (falls n) (falls m) p q = ap falls (omega (arith, p.1 m q.0, q.1 n p.0))

  -- one verdict at most
  pub means_unique : (x : ℕ) (v w : Verdict) → Means B x v → Means B x w → v ≡ w
  means_unique x v w p q = ruled_unique x v w (means_ruled x v p) (means_ruled x w q)

  settled_le : (n m x : ℕ) → n ≤ m → T (settled B n x) → T (settled B m x)
  settled_le n m x h t = go (settled_cases B n x t)
    where
      go : FallsWithin B n x ⊎ StandsWithin B n x → T (settled B m x)
      go (inl f) = settled_falls B m x (falls_mono B n m x h f)
      go (inr s) = settled_stands B m x (stands_mono B n m x h s)

  after : (n m x : ℕ) → T (not (settled B n x)) → T (settled B m x) → n < m
  after n m x f t = go (dec_le m n)
    where
      go : Dec (m ≤ n) → n < m
      go (yes l) = absurd (clash (settled B n x) (settled_le m n x l t) f)
      go (no g) = omega arith

  -- the verdict after n rounds
  Round : ℕ → ℕ → Verdict → Type 0
  Round n x is_open = T (not (settled B n x))
  Round n x (stands k) = (k ≤ n) × Ruled B x (stands k)
  Round n x (falls k) = (k ≤ n) × Ruled B x (falls k)

  round : (n x : ℕ) → Round n x (verdict_by B n x)
  unfolding Round verdict_by
  round zero x = go (stands_within B zero x) refl
    where
      open_at : T (not (stands_within B zero x)) → FallsWithin B zero x ⊎ StandsWithin B zero x → ⊥
      open_at w (inl f) = falls_zero B x f
      open_at w (inr s) = clash (stands_within B zero x) s w

      go : (b : Bool) → stands_within B zero x ≡ b → Round zero x (cond b (stands zero) is_open)
      go true e = (omega arith, (subst T (sym e) tt, λ m u. omega arith))
      go false e = refute (settled B zero x) (λ t. open_at (subst (λ b. T (not b)) (sym e) tt) (settled_cases B zero x t))
  round (suc n) x = go (verdict_by B n x) (round n x)
    where
      open_at : T (not (stands_within B (suc n) x)) → T (not (falls_within B (suc n) x)) → FallsWithin B (suc n) x
          ⊎ StandsWithin B (suc n) x → ⊥
      open_at w v (inl f) = clash (falls_within B (suc n) x) f v
      open_at w v (inr s) = clash (stands_within B (suc n) x) s w

      next : T (not (settled B n x)) → (a b : Bool) → stands_within B (suc n) x ≡ a → falls_within B (suc n) x ≡ b
          → Round (suc n) x (cond a (stands (suc n)) (cond b (falls (suc n)) is_open))
      next w true b d e = (omega arith, (subst T (sym d) tt, λ m u. after n m x w (settled_stands B m x u)))
      next w false true d e = (omega arith, (subst T (sym e) tt, λ m u. after n m x w (settled_falls B m x u)))
      next w false false d e =
          refute (settled B (suc n) x) (λ t. open_at (subst (λ b. T (not b)) (sym d) tt) (subst (λ b. T (not b)) (sym e) tt)
          (settled_cases B (suc n) x t))

      go : (v : Verdict) → Round n x v → Round (suc n) x (elim v [
        | is_open ↦ cond (stands_within B (suc n) x) (stands (suc n)) (cond (falls_within B (suc n) x) (falls (suc n)) is_open)
        | stands k ↦ stands k
        | falls k ↦ falls k
      ])
      go is_open w = next w (stands_within B (suc n) x) (falls_within B (suc n) x) refl refl
      go (stands k) (h, p) = (omega arith, p)
      go (falls k) (h, p) = (omega arith, p)

  -- what is settled was newly settled at some round, before `size`
  newly : (n x : ℕ) → T (settled B n x) → (k : ℕ) × T (settled B k x) × New B k x
  newly zero x t = (zero, t, t)
  newly (suc n) x t = go (decide (settled B n x)) (newly n x)
    where
      go : T (settled B n x) ⊎ T (not (settled B n x)) → (T (settled B n x) → (k : ℕ) × T (settled B k x) × New B k x) → (k : ℕ)
          × T (settled B k x) × New B k x
      go (inl u) f = f u
      go (inr w) f = (suc n, t, (t, w))

  enough : (n x : ℕ) → x < B.size → T (settled B n x) → T (settled B (B.size - 1) x)
  enough n x h t =
      let (k, u, w) = newly n x t in
      settled_le k (B.size - 1) x (omega (arith, new_bound B k x h w)) u

  ruled_verdict : (x : ℕ) → x < B.size → Ruled B x (verdict B x)
  unfolding verdict Round
  ruled_verdict x h = go (verdict_by B (B.size - 1) x) (round (B.size - 1) x)
    where
      go : (v : Verdict) → Round (B.size - 1) x v → Ruled B x v
      go is_open w = (
        λ n f. clash (settled B (B.size - 1) x) (enough n x h (settled_falls B n x f)) w,
        λ n s. clash (settled B (B.size - 1) x) (enough n x h (settled_stands B n x s)) w,
      )
      go (stands k) p = p.1
      go (falls k) p = p.1

  -- the computed verdict is the meaning's, and the only one
  pub verdict_means : (x : ℕ) → x < B.size → Means B x (verdict B x)
  verdict_means x h = ruled_means x (verdict B x) (ruled_verdict x h)

  pub means_verdict : (x : ℕ) → x < B.size → (v : Verdict) → Means B x v → v ≡ verdict B x
  means_verdict x h v p = means_unique x v (verdict B x) p (verdict_means x h)

  -- the class exercise's two questions: yes exactly where the label is so and the length is not above the turns
  pub falls_within_lem : (n x : ℕ) → FallsWithin B n x ↔ ((k : ℕ) × (k ≤ n) × Means B x (falls k))
  falls_within_lem n x = (to, λ w. falls_mono B w.0 n x w.1 (means_ruled x (falls w.0) w.2).0)
    where
      to : FallsWithin B n x → (k : ℕ) × (k ≤ n) × Means B x (falls k)
      to f = let (k, h, l) = least (λ m. falls_within B m x) n f in (k, h, ruled_means x (falls k) l)

  pub stands_within_lem : (n x : ℕ) → StandsWithin B n x ↔ ((k : ℕ) × (k ≤ n) × Means B x (stands k))
  stands_within_lem n x = (to, λ w. stands_mono B w.0 n x w.1 (means_ruled x (stands w.0) w.2).0)
    where
      to : StandsWithin B n x → (k : ℕ) × (k ≤ n) × Means B x (stands k)
      to s = let (k, h, l) = least (λ m. stands_within B m x) n s in (k, h, ruled_means x (stands k) l)

  -- a length is newly settled at its own round, so none exceeds the number of statements less 1
  pub length_bound : (x : ℕ) → Listed B x → (v : Verdict) → Means B x v → Within (B.size - 1) v
  length_bound x h is_open m = tt
  length_bound x h (stands n) m = go n (means_ruled x (stands n) m)
    where
      old : (m : ℕ) → Ruled B x (stands (suc m)) → FallsWithin B m x ⊎ StandsWithin B m x → ⊥
      old m q (inl f) = exclusive B m (suc m) x f q.0
      old m q (inr s) = omega (arith, q.1 m s)

      go : (n : ℕ) → Ruled B x (stands n) → n ≤ B.size - 1
      go zero q = omega arith
      go (suc m) q =
          omega (
            arith,
            new_bound B (suc m) x h (
              settled_stands B (suc m) x q.0,
              refute (settled B m x) (λ t. old m q (settled_cases B m x t)),
            ),
          )
  length_bound x h (falls n) m = go n (means_ruled x (falls n) m)
    where
      old : (m : ℕ) → Ruled B x (falls (suc m)) → FallsWithin B m x ⊎ StandsWithin B m x → ⊥
      old m q (inl f) = omega (arith, q.1 m f)
      old m q (inr s) = exclusive B (suc m) m x q.0 s

      go : (n : ℕ) → Ruled B x (falls n) → n ≤ B.size - 1
      go zero q = omega arith
      go (suc m) q =
          omega (
            arith,
            new_bound B (suc m) x h (
              settled_falls B (suc m) x q.0,
              refute (settled B m x) (λ t. old m q (settled_cases B m x t)),
            ),
          )

  -- what falls has a length, and so has what stands
  pub falls_length : (x : ℕ) → Falls B x ↔ ((n : ℕ) × Means B x (falls n))
  falls_length x =
      (λ w. let (k, h, m) = (falls_within_lem w.0 x).0 ((falls_game B w.0 x).1 w.1) in (k, m), λ w. (w.0, w.1.0))

  pub stands_length : (x : ℕ) → Stands B x ↔ ((n : ℕ) × Means B x (stands n))
  stands_length x =
      (λ w. let (k, h, m) = (stands_within_lem w.0 x).0 ((stands_game B w.0 x).1 w.1) in (k, m), λ w. (w.0, w.1.0))

  pub unread_stands : (x : ℕ) → Unread B x → Stands B x → ⊥
  unread_stands x u (n, s) = clash (B.unread x) u (stands_read B n x ((stands_game B n x).1 s))

  -- nothing both falls and stands
  pub falls_stands : (x : ℕ) → Falls B x → Stands B x → ⊥
  falls_stands x (n, f) (m, s) = exclusive B n m x ((falls_game B n x).1 f) ((stands_game B m x).1 s)

  -- every objector of what stands falls; no objector of what is open, or stands, stands; none of what stands is open
  pub objector_of_standing : (x y : ℕ) → Stands B x → Objects B y x → Falls B y
  objector_of_standing x y (zero, s) o = absurd (stands_zero_at B x ((stands_game B 0 x).1 s) (y, o))
  objector_of_standing x y (suc n, s) o = (n, (falls_game B n y).0 (stands_at B n x ((stands_game B (suc n) x).1 s) y o))

  pub objector_that_stands : (x y : ℕ) → Stands B y → Objects B y x → Falls B x
  objector_that_stands x y (n, s) o = (suc n, (falls_game B (suc n) x).0 (falls_by B n x y o ((stands_game B n y).1 s)))

  pub no_standing_against_standing : (x y : ℕ) → Objects B y x → Stands B x → Stands B y → ⊥
  no_standing_against_standing x y o s t = falls_stands x (objector_that_stands x y t o) s

  pub no_open_against_standing : (x y : ℕ) → Objects B y x → Stands B x → Open B y → ⊥
  no_open_against_standing x y o s t = t.0 (objector_of_standing x y s o)

  pub no_standing_against_open : (x y : ℕ) → Objects B y x → Open B x → Stands B y → ⊥
  no_standing_against_open x y o p t = p.0 (objector_that_stands x y t o)
