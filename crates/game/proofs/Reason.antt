-- Laws of reasons: what a reason reaches can be decided, its statements are those that it reaches, and the register of nothing
-- else gives each of them the same label and length.
use mathlib.Core.Bool.{Bool, false, true, not, ◌&&◌, ◌||◌}
use mathlib.Core.Logic.{inl, inr, ◌⊎◌, ◌↔◌}
use mathlib.Core.Option.{Option, none, some}
use mathlib.Core.Path.{refl, subst, subst₂, sym, ◌≡◌, ◌∙◌}
use Prim.Native.Nat.{ℕ, zero, suc, ◌≤◌, ◌<◌}
use native.Mathlib.Decide.{le_ind}
use native.Mathlib.Omega.{arith}
use lib.Dec.{T, ltb, ltb→lt, lt→ltb, eqb, eqb→eq, eqb_refl}
use Rattle.game.specs.Book.{Book, Objects, Listed, any, count}
use Rattle.game.specs.Label.{Verdict, Means, falls, stands, is_open}
use Rattle.game.specs.Objection.{kind_of, OfKind}
use Rattle.game.specs.Questions.{Decides}
use Rattle.game.specs.Reason.{hangs_on, Belongs, Reaches, asked, onward, InReason, OfReason, OnlyReason}
use Rattle.game.specs.declared.Kind.{Kind}
use Rattle.game.specs.declared.Kind.TheVariants.{Felling, Delaying, Standoff}
use Rattle.game.proofs.Search.{both, and_of, or_cases, any_at, or_left, or_right, any_of, decide, clash}
use Rattle.game.proofs.Count.{count_strict, count_le}
use Rattle.game.proofs.Verdict.{verdict, verdict_means, means_verdict, means_unique}
use Rattle.game.proofs.Objection.{kind_unique}
use Rattle.game.proofs.Transfer.{Needed, transfer}

-- Whether an objection belongs to reasons, by the verdict of its target and its kind, where it has one.
unfoldable pub counts : Verdict → Option Kind → Bool
counts v none = false
counts v (some κ) = hangs_on v κ

-- An objection belongs to reasons if its target hangs on its kind, by the verdicts of its two ends.
pub belongs_by : (B : Book) (y x : ℕ) (v w : Verdict) (κ : Kind) → Objects B y x → Means B x v → Means B y w → kind_of v w ≡ some
    κ
    → T (hangs_on v κ) → Belongs B y x
belongs_by B y x v w κ o p q e h = record {
  kind = κ;
  of_kind = record { target = v; objector = w; objects = o; target_means = p; objector_means = q; is = e };
  hangs = h;
}

module _ (B : Book) where
  unfoldable pub belonging : ℕ → ℕ → Bool
  belonging y x = (ltb y B.size && B.objects y x) && counts (verdict B x) (kind_of (verdict B x) (verdict B y))

  pub belonging_exactly : (y x : ℕ) → Listed B x → T (belonging y x) ↔ Belongs B y x
  unfolding belonging counts
  belonging_exactly y x l = (to, from)
    where
      of_kind : Objects B y x → (k : Option Kind) → kind_of (verdict B x) (verdict B y) ≡ k → T (counts (verdict B x) k)
          → Belongs B y x
      of_kind o none e c = absurd c
      of_kind o (some κ) e c =
          belongs_by B y x (verdict B x) (verdict B y) κ o (verdict_means B x l) (verdict_means B y o.0) e c

      to : T ((ltb y B.size && B.objects y x) && counts (verdict B x) (kind_of (verdict B x) (verdict B y))) → Belongs B y x
      to t =
          let (a, c) = both (ltb y B.size && B.objects y x) (counts (verdict B x) (kind_of (verdict B x) (verdict B y))) t in
          let (h, o) = both (ltb y B.size) (B.objects y x) a in
          of_kind (ltb→lt y B.size h, o) (kind_of (verdict B x) (verdict B y)) refl c

      from : Belongs B y x → T ((ltb y B.size && B.objects y x) && counts (verdict B x) (kind_of (verdict B x) (verdict B y)))
      from b =
          let o : Objects B y x = b.of_kind.objects in
          let e : kind_of (verdict B x) (verdict B y) ≡ some b.kind =
          rw (
            ← means_verdict B x l b.of_kind.target b.of_kind.target_means,
            ← means_verdict B y o.0 b.of_kind.objector b.of_kind.objector_means,
          ) b.of_kind.is in
          and_of (ltb y B.size && B.objects y x) (counts (verdict B x) (kind_of (verdict B x) (verdict B y)))
          (and_of (ltb y B.size) (B.objects y x) (lt→ltb y B.size o.0) o.1)
          (subst (λ k. T (counts (verdict B x) k)) (sym e) (subst (λ v. T (hangs_on v b.kind))
          (means_verdict B x l b.of_kind.target b.of_kind.target_means) b.hangs))

  -- What the reason for a reaches, all of it within so many objections.
  module _ (a : ℕ) where
    unfoldable pub reaching : ℕ → ℕ → Bool
    reaching zero z = eqb z a
    reaching (suc k) z = reaching k z || any B.size (λ x. reaching k x && belonging z x)

    sound : (k z : ℕ) → T (reaching k z) → Reaches B a z
    unfolding reaching
    sound zero z t = subst (λ u. Reaches B a u) (sym (eqb→eq z a t)) asked
    sound (suc k) z t = go (or_cases (reaching k z) (any B.size (λ x. reaching k x && belonging z x)) t) (sound k)
      where
        go : T (reaching k z) ⊎ T (any B.size (λ x. reaching k x && belonging z x))
            → ((x : ℕ) → T (reaching k x) → Reaches B a x) → Reaches B a z
        go (inl u) f = f z u
        go (inr u) f =
            let (x, h, w) = any_at B.size (λ x. reaching k x && belonging z x) u in
            let (r, b) = both (reaching k x) (belonging z x) w in
            onward (f x r) ((belonging_exactly z x h).0 b)

    more : (k z : ℕ) → T (reaching k z) → T (reaching (suc k) z)
    unfolding reaching
    more k z t = or_left (reaching k z) (any B.size (λ x. reaching k x && belonging z x)) t

    step : (k x z : ℕ) → x < B.size → T (reaching k x) → T (belonging z x) → T (reaching (suc k) z)
    unfolding reaching
    step k x z h r b =
        or_right (reaching k z) (any B.size (λ x. reaching k x && belonging z x))
        (any_of B.size (λ x. reaching k x && belonging z x) x h (and_of (reaching k x) (belonging z x) r b))

    longer : (k m z : ℕ) → k ≤ m → T (reaching k z) → T (reaching m z)
    longer k m z h t = le_ind (λ i. T (reaching i z)) t (λ i l u. more i z u) m h

    -- one objection more reaches nothing new
    Closed : ℕ → Type 0
    Closed k = (z : ℕ) → z < B.size → T (reaching (suc k) z) → T (reaching k z)

    module _ (l : Listed B a) where
      -- each objection more reaches something new, until nothing is
      grown : (k : ℕ) → (k < count B.size (reaching k)) ⊎ ((j : ℕ) × (j ≤ k) × Closed j)
      unfolding Closed reaching
      grown zero =
          inl (omega (arith, count_strict (λ z. false) (reaching zero) B.size a (λ y h t. absurd t) l tt (eqb_refl a)))
      grown (suc k) = go (grown k) (decide (any B.size new))
        where
          new : ℕ → Bool
          new z = reaching (suc k) z && not (reaching k z)

          closed : T (not (any B.size new)) → (z : ℕ) → z < B.size → T (reaching (suc k) z)
              → T (reaching k z) ⊎ T (not (reaching k z)) → T (reaching k z)
          closed w z h t (inl u) = u
          closed w z h t (inr u) =
              absurd (clash (any B.size new)
              (any_of B.size new z h (and_of (reaching (suc k) z) (not (reaching k z)) t u)) w)

          go : (k < count B.size (reaching k)) ⊎ ((j : ℕ) × (j ≤ k) × Closed j)
              → T (any B.size new) ⊎ T (not (any B.size new))
              → (suc k < count B.size (reaching (suc k))) ⊎ ((j : ℕ) × (j ≤ suc k) × Closed j)
          go (inr (j, h, c)) d = inr (j, omega arith, c)
          go (inl h) (inl t) =
              let (z, m, u) = any_at B.size new t in
              let (p, q) = both (reaching (suc k) z) (not (reaching k z)) u in
              inl (omega (arith, count_strict (reaching k) (reaching (suc k)) B.size z (λ y i t. more k y t) m q p))
          go (inl h) (inr w) = inr (k, omega arith, λ z i t. closed w z i t (decide (reaching k z)))

      pub reaches_listed : (z : ℕ) → Reaches B a z → Listed B z
      reaches_listed z asked = l
      reaches_listed z (onward r b) = b.of_kind.objects.0

      complete : (j : ℕ) → Closed j → (z : ℕ) → Reaches B a z → T (reaching j z)
      unfolding Closed reaching
      complete j c z asked = longer zero j a (omega arith) (eqb_refl a)
      complete j c z (onward {x} r b) =
          let h : Listed B x = reaches_listed x r in
          c z b.of_kind.objects.0 (step j x z h (complete j c x r) ((belonging_exactly z x h).1 b))

      -- whether a reason comes to a statement can be decided
      pub reaches_exactly : (z : ℕ) → T (reaching B.size z) ↔ Reaches B a z
      reaches_exactly z = (sound B.size z, λ r. go r (grown B.size))
        where
          go : Reaches B a z → (B.size < count B.size (reaching B.size)) ⊎ ((j : ℕ) × (j ≤ B.size) × Closed j)
              → T (reaching B.size z)
          go r (inl h) = absurd (omega (arith, count_le B.size (reaching B.size)))
          go r (inr (j, h, c)) = longer j B.size z h (complete j c z r)

      -- and so can whether an objection is in it
      pub within_exactly : (y x : ℕ) → T (reaching B.size x && belonging y x) ↔ InReason B a y x
      within_exactly y x = (to, from)
        where
          to : T (reaching B.size x && belonging y x) → InReason B a y x
          to t =
              let (r, b) = both (reaching B.size x) (belonging y x) t in
              let w : Reaches B a x = (reaches_exactly x).0 r in
              (w, (belonging_exactly y x (reaches_listed x w)).0 b)

          from : InReason B a y x → T (reaching B.size x && belonging y x)
          from (r, b) =
              and_of (reaching B.size x) (belonging y x) ((reaches_exactly x).1 r)
              ((belonging_exactly y x (reaches_listed x r)).1 b)

    -- the reason's statements are those that it comes to
    pub of_reaches : (z : ℕ) → OfReason B a z ↔ Reaches B a z
    of_reaches z = (to, from z)
      where
        to : OfReason B a z → Reaches B a z
        to (inl e) = subst (λ u. Reaches B a u) (sym e) asked
        to (inr (y, x, (r, b), inl e)) = subst (λ u. Reaches B a u) (sym e) (onward r b)
        to (inr (y, x, (r, b), inr e)) = subst (λ u. Reaches B a u) (sym e) r

        from : (z : ℕ) → Reaches B a z → OfReason B a z
        from z asked = inl refl
        from z (onward {x} r b) = inr (z, x, (r, b), inl refl)

-- What decides a target belongs to every reason that comes to it.
needed_belongs : (B : Book) (y x : ℕ) (v w : Verdict) → Objects B y x → Means B x v → Means B y w → Needed v w → Belongs B y x
needed_belongs B y x (falls n) (stands m) o p q h = belongs_by B y x (falls n) (stands m) (Felling (suc m)) o p q refl
    (subst (λ k. T (hangs_on (falls k) (Felling (suc m)))) (sym h) (eqb_refl (suc m)))
needed_belongs B y x (falls n) (falls m) o p q h = absurd h
needed_belongs B y x (falls n) is_open o p q h = absurd h
needed_belongs B y x (stands n) (stands m) o p q h = absurd h
needed_belongs B y x (stands n) (falls m) o p q h = belongs_by B y x (stands n) (falls m) (Delaying (suc m)) o p q refl tt
needed_belongs B y x (stands n) is_open o p q h = absurd h
needed_belongs B y x is_open (stands m) o p q h = absurd h
needed_belongs B y x is_open (falls m) o p q h = absurd h
needed_belongs B y x is_open is_open o p q h = belongs_by B y x is_open is_open Standoff o p q refl tt

-- "A register of only the reason's statements, with their marks, and its objections gives the asked statement the same label
-- and length", and each other statement of it too.
pub reason_enough : (B C : Book) (a : ℕ) (f : ℕ → ℕ) → Listed B a → OnlyReason B C a f → (x : ℕ) (w : Verdict) → Listed C x
    → Means B (f x) w ↔ Means C x w
reason_enough B C a f l only = transfer B C f (record {
  listed = λ x h. reaches_listed B a l (f x) (come x h);
  marks = only.marks;
  old = λ y x h o. ((only.objections y x o.0 h).0 o.1).1.of_kind.objects;
  needed = λ y x v w h o p q n. kept y x h (needed_belongs B y (f x) v w o p q n);
})
  where
    come : (x : ℕ) → Listed C x → Reaches B a (f x)
    come x h = (of_reaches B a (f x)).0 (only.only x h)

    kept : (y x : ℕ) → Listed C x → Belongs B y (f x) → (z : ℕ) × Objects C z x × (f z ≡ y)
    kept y x h b =
        let (z, k, e) = only.every y ((of_reaches B a y).1 (onward (come x h) b)) in
        (z, (k, (only.objections z x k h).1 (come x h, subst (λ u. Belongs B u (f x)) (sym e) b)), e)

-- Whether an objection belongs, by its kind and the verdict of its target.
pub belongs_decided : (B : Book) (y x : ℕ) (κ : Kind) (o : OfKind B y x κ) (κ' : Kind) → κ ≡ κ' → (b : Bool)
    → b ≡ hangs_on o.target κ' → Decides (Belongs B y x) b
belongs_decided B y x κ o κ' e true h = record { kind = κ; of_kind = o; hangs = rw (e, ← h) tt }
belongs_decided B y x κ o κ' e false h =
    λ b. subst T (sym h) (subst₂ (λ v k. T (hangs_on v k)) (means_unique B x b.of_kind.target o.target
    b.of_kind.target_means o.target_means) (kind_unique B y x b.kind κ b.of_kind o ∙ e) b.hangs)
