-- Every listed statement has exactly one line of argument, of one entry more than its length; an open one has itself
-- alone.
use mathlib.Core.Bool.{Bool, ◌&&◌}
use mathlib.Core.List.{List, [], ◌∷◌}
use mathlib.Core.Path.{subst, sym, refl, ap, ◌≡◌}
use Prim.Native.Nat.{ℕ, suc, zero, ◌-◌, ◌≤◌, ◌<◌}
use native.Mathlib.Decide.{ℕ_discrete}
use native.Mathlib.Nat.{not-suc-le-zero, le_of_suc-le-suc}
use native.Mathlib.Omega.{arith}
use lib.Dec.{ltb, ltb→lt, T, lt→ltb}
use lib.ListN.{length, get_or}
use Rattle.game.specs.Book.{Book, Objects, Listed}
use Rattle.game.specs.Label.{Verdict, is_open, stands, falls, Verdict-discrete, Means}
use Rattle.game.specs.Agree.{Fits}
use Rattle.game.specs.Argument.{Last, Earliest, Onward, Argument, ends, goes_on}
use Rattle.game.proofs.Search.{is_yes, least, both, from_yes, and_of, to_yes}
use Rattle.game.proofs.Verdict.{verdict, verdict_means, means_verdict, means_unique, length_bound, Within}
use Rattle.game.proofs.Agree.{verdict_agrees}

-- how many turns a verdict takes
abbrev pub turns : Verdict → ℕ
turns is_open = 0
turns (stands n) = n
turns (falls n) = n

pub last : (v : Verdict) → turns v ≡ 0 → Last v
last is_open e = tt
last (stands n) e = e
last (falls n) e = e

module _ (B : Book) where
  said : Verdict → ℕ → Bool
  said w y = is_yes (Verdict-discrete ℕ_discrete (verdict B y) w)

  objector : ℕ → Verdict → ℕ → Bool
  objector x w y = (ltb y B.size && B.objects y x) && said w y

  -- where some objector has the verdict w, there is an earliest
  earliest : (x : ℕ) (w : Verdict) (y : ℕ) → Objects B y x → verdict B y ≡ w → (z : ℕ) × Earliest B x w z
  unfolding objector said
  earliest x w y o e =
      let (z, h, (t, low)) = least (objector x w) y (here y o e) in
      let (p, q) = both (ltb z B.size && B.objects z x) (said w z) t in
      let (p₁, p₂) = both (ltb z B.size) (B.objects z x) p in
      let l : z < B.size = ltb→lt z B.size p₁ in (
        z,
        record {
          objects = (l, p₂);
          means = subst (λ v. Means B z v) (from_yes (Verdict-discrete ℕ_discrete (verdict B z) w) q) (verdict_means B z l);
          first = λ i j m. low i (here i j (sym (means_verdict B i j.0 w m)));
        },
      )
    where
      here : (y : ℕ) → Objects B y x → verdict B y ≡ w → T (objector x w y)
      here y o e =
          and_of (ltb y B.size && B.objects y x) (said w y)
          (and_of (ltb y B.size) (B.objects y x) (lt→ltb y B.size o.0) o.1)
          (to_yes (Verdict-discrete ℕ_discrete (verdict B y) w) e)

  -- what has turns left has an objector that takes one turn less
  pub next : (x n : ℕ) (v : Verdict) → Fits B (verdict B) x v → turns v ≡ suc n → (y : ℕ) × (w : Verdict) × Objects B y x
      × (verdict B y ≡ w) × Onward v w × (turns w ≡ n)
  next x n is_open a e = absurd (omega arith)
  next x n (falls k) (m, d, (y, o, f), c) e = (y, stands m, o, f, d, omega arith)
  next x n (stands k) (r, a, top) e = let (y, o, f) = top n e in (y, falls n, o, f, e, refl)

  found : (n x : ℕ) → Listed B x → turns (verdict B x) ≡ n → (l : List ℕ) × Argument B x l × (length l ≡ suc n)
  found zero x h e = (x ∷ [], ends (verdict B x) (verdict_means B x h) (last (verdict B x) e), refl)
  found (suc n) x h e =
      let (y, w, o, d, on, t) = next x n (verdict B x) (verdict_agrees B x h) e in
      let (z, f) = earliest x w y o d in
      let g : verdict B z ≡ w = sym (means_verdict B z f.objects.0 w f.means) in
      let (r, s, c) = found n z f.objects.0 (subst (λ u. turns u ≡ n) (sym g) t) in
      (x ∷ r, goes_on {l = r} (verdict B x) w (verdict_means B x h) on f s, ap suc {x = length r} c)

  pub line : (x : ℕ) (v : Verdict) → Listed B x → Means B x v → (l : List ℕ) × Argument B x l × (length l ≡ suc (turns v))
  line x v h m = found (turns v) x h (ap turns (sym (means_verdict B x h v m)))

  onward_unique : (v w w' : Verdict) → Onward v w → Onward v w' → w ≡ w'
  onward_unique (falls n) (stands m) (stands k) p q = ap stands (omega arith)
  onward_unique (falls n) (stands m) (falls k) p q = absurd q
  onward_unique (falls n) (stands m) is_open p q = absurd q
  onward_unique (falls n) (falls m) w' p q = absurd p
  onward_unique (falls n) is_open w' p q = absurd p
  onward_unique (stands n) (falls m) (falls k) p q = ap falls (omega arith)
  onward_unique (stands n) (falls m) (stands k) p q = absurd q
  onward_unique (stands n) (falls m) is_open p q = absurd q
  onward_unique (stands n) (stands m) w' p q = absurd p
  onward_unique (stands n) is_open w' p q = absurd p
  onward_unique is_open w w' p q = absurd p

  last_onward : (v w : Verdict) → Last v → Onward v w → ⊥
  last_onward (falls n) (stands m) p q = omega arith
  last_onward (falls n) (falls m) p q = q
  last_onward (falls n) is_open p q = q
  last_onward (stands n) (falls m) p q = omega arith
  last_onward (stands n) (stands m) p q = q
  last_onward (stands n) is_open p q = q
  last_onward is_open w p q = q

  same_earliest : (x y y' : ℕ) (w w' : Verdict) → w ≡ w' → Earliest B x w y → Earliest B x w' y' → y ≡ y'
  same_earliest x y y' w w' e f g =
      let g' : Earliest B x w y' = subst (λ u. Earliest B x u y') (sym e) g in
      omega (arith, f.first y' g'.objects g'.means, g'.first y f.objects f.means)

  pub line_unique : {x : ℕ} {l l' : List ℕ} → Argument B x l → Argument B x l' → l ≡ l'
  line_unique (ends v m p) (ends v' m' p') = refl
  line_unique {x} (ends v m p) (goes_on v' w' m' o' f' r') =
      absurd (last_onward v' w' (subst Last (means_unique B x v v' m m') p) o')
  line_unique {x} (goes_on v w m o f r) (ends v' m' p') = absurd (last_onward v w (subst Last (means_unique B x v' v m' m) p') o)
  line_unique {x} (goes_on {y = y} {l = l} v w m o f r) (goes_on {y = y'} {l = l'} v' w' m' o' f' r') =
      let d : w ≡ w' = onward_unique v w w' o (subst (λ u. Onward u w') (means_unique B x v' v m' m) o') in
      ap (λ k. x ∷ k) (line_unique r (subst (λ z. Argument B z l') (sym (same_earliest x y y' w w' d f f')) r'))

  -- no line is longer than the register
  pub line_bound : (x : ℕ) (l : List ℕ) → Listed B x → Argument B x l → length l ≤ B.size
  line_bound x l h r =
      let (k, t, c) = line x (verdict B x) h (verdict_means B x h) in
      omega (
        arith,
        ap length (line_unique r t),
        c,
        few (B.size - 1) (verdict B x)
            (length_bound B x h (verdict B x) (verdict_means B x h)),
      )
    where
      few : (n : ℕ) (v : Verdict) → Within n v → turns v ≤ n
      few n is_open w = omega arith
      few n (stands k) w = w
      few n (falls k) w = w

  -- and all of it is listed
  pub line_listed : {x : ℕ} {l : List ℕ} → Listed B x → Argument B x l → (k : ℕ) → k < length l → Listed B (get_or l k 0)
  line_listed h (ends v m p) zero i = h
  line_listed h (ends v m p) (suc k) i = absurd (not-suc-le-zero (le_of_suc-le-suc i))
  line_listed h (goes_on v w m o f r) zero i = h
  line_listed h (goes_on v w m o f r) (suc k) i = line_listed f.objects.0 r k (le_of_suc-le-suc i)
