-- What a reason passes: which objections are in it, said by kind; that the reason for what falls or stands goes on to ever
-- smaller lengths, so that it never returns; and that the reason for what is open has standoffs only, which may.
use mathlib.Core.Bool.{false, not}
use mathlib.Core.Logic.{inl, inr, ◌⊎◌, ◌↔◌}
use mathlib.Core.Option.{some}
use mathlib.Core.Path.{refl, ap, subst, sym, ◌≡◌, ◌∙◌}
use Prim.Native.Nat.{ℕ, suc, ◌<◌}
use native.Mathlib.Omega.{arith}
use lib.Dec.{T, eqb, eqb→eq, eqb_refl}
use Rattle.game.specs.Book.{Book, Objects, Listed, any, all}
use Rattle.game.specs.Label.{Verdict, Means, Falls, Stands, Open, falls, stands, is_open}
use Rattle.game.specs.Account.{length_number}
use Rattle.game.specs.Rules.{stands_within, falls_within}
use Rattle.game.specs.Agree.{Fits}
use Rattle.game.specs.Objection.{kind_of, OfKind}
use Rattle.game.specs.Reason.{hangs_on, Belongs, Reaches, asked, onward, InReason, PassesOn, at_once, further}
use Rattle.game.specs.declared.Kind.{Kind}
use Rattle.game.specs.declared.Kind.TheVariants.{Idle, Felling, Delaying, Standoff}
use Rattle.game.proofs.Verdict.{verdict, verdict_by, verdict_means, means_verdict, means_unique}
use Rattle.game.proofs.Agree.{verdict_agrees}
use Rattle.game.proofs.Reason.{belongs_by, reaches_listed}

-- a verdict with a length
abbrev HasLength : Verdict → Type 0
HasLength is_open = ⊥
HasLength (stands n) = Unit {0}
HasLength (falls n) = Unit {0}

-- what a felling objection is against falls
felling_target : (v w : Verdict) (n : ℕ) → kind_of v w ≡ some (Felling n) → (k : ℕ) × (v ≡ falls k)
felling_target (falls k) w n e = (k, refl)
felling_target (stands k) (stands m) n e = let z : ◌≡◌ {A = ℕ} 0 1 = cc in absurd (omega arith)
felling_target (stands k) (falls m) n e = let z : ◌≡◌ {A = ℕ} 0 1 = cc in absurd (omega arith)
felling_target (stands k) is_open n e = let z : ◌≡◌ {A = ℕ} 0 1 = cc in absurd (omega arith)
felling_target is_open (stands m) n e = let z : ◌≡◌ {A = ℕ} 0 1 = cc in absurd (omega arith)
felling_target is_open (falls m) n e = let z : ◌≡◌ {A = ℕ} 0 1 = cc in absurd (omega arith)
felling_target is_open is_open n e = let z : ◌≡◌ {A = ℕ} 0 1 = cc in absurd (omega arith)

-- An objection on which a target with a length hangs: its objector has a length too, and a smaller one.
smaller : (v w : Verdict) (κ : Kind) → kind_of v w ≡ some κ → T (hangs_on v κ) → HasLength v
    → ((n m : ℕ) → v ≡ stands n → w ≡ falls m → m < n) → HasLength w × (length_number w < length_number v)
smaller (falls n) (stands m) κ e h l f =
    let q : κ ≡ Felling (suc m) = cc in
    let t : T (hangs_on (falls n) (Felling (suc m))) = subst (λ k. T (hangs_on (falls n) k)) q h in
    (tt, omega (arith, eqb→eq (suc m) n t))
smaller (falls n) (falls m) κ e h l f = let q : κ ≡ Idle = cc in absurd (subst (λ k. T (hangs_on (falls n) k)) q h)
smaller (falls n) is_open κ e h l f = let q : κ ≡ Idle = cc in absurd (subst (λ k. T (hangs_on (falls n) k)) q h)
smaller (stands n) (stands m) κ e h l f = let z : ◌≡◌ {A = ℕ} 0 1 = cc in absurd (omega arith)
smaller (stands n) (falls m) κ e h l f = (tt, f n m refl refl)
smaller (stands n) is_open κ e h l f = let z : ◌≡◌ {A = ℕ} 0 1 = cc in absurd (omega arith)
smaller is_open w κ e h l f = absurd l

-- An objection against what is open is idle, or a standoff of what is open.
against_open : (w : Verdict) (κ : Kind) → kind_of is_open w ≡ some κ → (κ ≡ Idle) ⊎ ((κ ≡ Standoff) × (w ≡ is_open))
against_open (stands m) κ e = let z : ◌≡◌ {A = ℕ} 0 1 = cc in absurd (omega arith)
against_open (falls m) κ e = inl cc
against_open is_open κ e = inr (cc, refl)

module _ (B : Book) where
  -- a delaying one, a standoff, or a felling one of its target's length
  abbrev pub Weighs : (y x : ℕ) → Type 0
  Weighs y x =
      ((n : ℕ) × OfKind B y x (Delaying n))
      ⊎ (OfKind B y x Standoff ⊎ ((n : ℕ) × OfKind B y x (Felling n) × Means B x (falls n)))

  belongs_exactly : (y x : ℕ) → Belongs B y x ↔ Weighs y x
  belongs_exactly y x = (λ b. to b.kind b.of_kind b.hangs, from)
    where
      to : (κ : Kind) (o : OfKind B y x κ) → T (hangs_on o.target κ) → Weighs y x
      to Idle o h = absurd h
      to (Felling n) o h =
          let (k, e) = felling_target o.target o.objector n o.is in
          let t : T (hangs_on (falls k) (Felling n)) = subst (λ v. T (hangs_on v (Felling n))) e h in
          inr (inr (n, o, subst (Means B x) (e ∙ ap falls (sym (eqb→eq n k t))) o.target_means))
      to (Delaying n) o h = inl (n, o)
      to Standoff o h = inr (inl o)

      from : Weighs y x → Belongs B y x
      from (inl (n, o)) = record { kind = Delaying n; of_kind = o; hangs = tt }
      from (inr (inl o)) = record { kind = Standoff; of_kind = o; hangs = tt }
      from (inr (inr (n, o, m))) =
          let e : falls n ≡ o.target = means_unique B x (falls n) o.target m o.target_means in
          record { kind = Felling n; of_kind = o; hangs = subst (λ v. T (hangs_on v (Felling n))) e (eqb_refl n) }

  pub in_reason_exactly : (a y x : ℕ) → InReason B a y x ↔ (Reaches B a x × Weighs y x)
  in_reason_exactly a y x =
      (λ i. (i.0, (belongs_exactly y x).0 i.1), λ i. (i.0, (belongs_exactly y x).1 i.1))

  -- what falls or stands has a length, and the other way round
  to_length : (x : ℕ) → Falls B x ⊎ Stands B x → (v : Verdict) → Means B x v → HasLength v
  to_length x (inl f) is_open m = m.0 f
  to_length x (inr s) is_open m = m.1 s
  to_length x s (stands n) m = tt
  to_length x s (falls n) m = tt

  of_length : (x : ℕ) (v : Verdict) → Means B x v → HasLength v → Falls B x ⊎ Stands B x
  of_length x is_open m h = absurd h
  of_length x (stands n) m h = inr (n, m.0)
  of_length x (falls n) m h = inl (n, m.0)

  -- an objector of what stands falls sooner
  sooner : (y x n m : ℕ) → Listed B x → Objects B y x → Means B x (stands n) → Means B y (falls m) → m < n
  sooner y x n m l o p q =
      let fits : Fits B (verdict B) x (stands n) =
      subst (Fits B (verdict B) x) (sym (means_verdict B x l (stands n) p)) (verdict_agrees B x l) in
      let (k, e, h) = fits.1 y o in
      let same : falls m ≡ verdict B y = means_verdict B y o.0 (falls m) q in
      let i : m ≡ k = cc in
      omega arith

  belongs_smaller : (y x : ℕ) → Listed B x → (b : Belongs B y x) → HasLength b.of_kind.target
      → HasLength b.of_kind.objector × (length_number b.of_kind.objector < length_number b.of_kind.target)
  belongs_smaller y x l b h =
      let o : OfKind B y x b.kind = b.of_kind in
      smaller o.target o.objector b.kind o.is b.hangs h
      (λ n m e i. sooner y x n m l o.objects (subst (Means B x) e o.target_means) (subst (Means B y) i o.objector_means))

  -- an objection against what is open, by its kind; and one that belongs
  open_target : (y x : ℕ) (κ : Kind) → Open B x → (o : OfKind B y x κ) → (κ ≡ Idle) ⊎ ((κ ≡ Standoff) × Open B y)
  open_target y x κ p o =
      let e : o.target ≡ is_open = means_unique B x o.target is_open o.target_means p in
      go (against_open o.objector κ (subst (λ v. kind_of v o.objector ≡ some κ) e o.is))
    where
      go : (κ ≡ Idle) ⊎ ((κ ≡ Standoff) × (o.objector ≡ is_open)) → (κ ≡ Idle) ⊎ ((κ ≡ Standoff) × Open B y)
      go (inl i) = inl i
      go (inr (i, e)) = inr (i, subst (Means B y) e o.objector_means)

  open_belongs : (y x : ℕ) → Open B x → (b : Belongs B y x) → (b.kind ≡ Standoff) × Open B y
  open_belongs y x p b = go (open_target y x b.kind p b.of_kind)
    where
      go : (b.kind ≡ Idle) ⊎ ((b.kind ≡ Standoff) × Open B y) → (b.kind ≡ Standoff) × Open B y
      go (inl i) = absurd (subst (λ κ. T (hangs_on b.of_kind.target κ)) i b.hangs)
      go (inr i) = i

  module _ (a : ℕ) (l : Listed B a) where
    -- "A falling or standing statement's reason"
    module _ (s : Falls B a ⊎ Stands B a) where
      reaches_length : (x : ℕ) → Reaches B a x → Falls B x ⊎ Stands B x
      reaches_length x asked = s
      reaches_length y (onward {x} r b) =
          let o : OfKind B y x b.kind = b.of_kind in
          of_length y o.objector o.objector_means (belongs_smaller y x (reaches_listed B a l x r) b
          (to_length x (reaches_length x r) o.target o.target_means)).0

      -- each of its objections has two ends that fall or stand, and its objector's length is below its target's
      pub reason_descends : (y x : ℕ) → InReason B a y x → (Falls B x ⊎ Stands B x) × (Falls B y ⊎ Stands B y)
          × ((v w : Verdict) → Means B x v → Means B y w → length_number w < length_number v)
      reason_descends y x (r, b) = (reaches_length x r, reaches_length y (onward r b), below)
        where
          below : (v w : Verdict) → Means B x v → Means B y w → length_number w < length_number v
          below v w p q =
              let o : OfKind B y x b.kind = b.of_kind in
              rw (means_unique B x v o.target p o.target_means, means_unique B y w o.objector q o.objector_means)
              (belongs_smaller y x (reaches_listed B a l x r) b
              (to_length x (reaches_length x r) o.target o.target_means)).1

      passes_below : (x y : ℕ) → PassesOn B a x y → length_number (verdict B y) < length_number (verdict B x)
      passes_below x y (at_once i) =
          (reason_descends y x i).2 (verdict B x) (verdict B y) (verdict_means B x (reaches_listed B a l x i.0))
          (verdict_means B y i.1.of_kind.objects.0)
      passes_below x z (further {y = y} w i) =
          omega (
            arith,
            passes_below x y w,
            (reason_descends z y i).2 (verdict B y) (verdict B z) (verdict_means B y (reaches_listed B a l y i.0))
                (verdict_means B z i.1.of_kind.objects.0),
          )

      -- it "never returns to a statement it has passed"
      pub never_returns : (x : ℕ) → ¬ PassesOn B a x x
      never_returns x w = omega (arith, passes_below x x w)

    -- the reason for an open statement
    module _ (s : Open B a) where
      reaches_open : (x : ℕ) → Reaches B a x → Open B x
      reaches_open x asked = s
      reaches_open y (onward {x} r b) = (open_belongs y x (reaches_open x r) b).1

      -- it has the standoffs against what it comes to, and no other objection
      pub open_standoffs : (y x : ℕ) → InReason B a y x ↔ (Reaches B a x × OfKind B y x Standoff)
      open_standoffs y x = (
        λ (r, b). (r, subst (OfKind B y x) (open_belongs y x (reaches_open x r) b).0 b.of_kind),
        λ (r, o). (r, record { kind = Standoff; of_kind = o; hangs = tt }),
      )

      -- and whatever else is against what it comes to is idle: nothing that is not idle is left out
      pub open_not_idle : (y x : ℕ) (κ : Kind) → Reaches B a x → OfKind B y x κ → (κ ≡ Idle) ⊎ (κ ≡ Standoff)
      open_not_idle y x κ r o = go (open_target y x κ (reaches_open x r) o)
        where
          go : (κ ≡ Idle) ⊎ ((κ ≡ Standoff) × Open B y) → (κ ≡ Idle) ⊎ (κ ≡ Standoff)
          go (inl i) = inl i
          go (inr (i, p)) = inr i

-- It may return: of two read statements that object to each other both are open, and the reason for the first passes on from it
-- to the other and back.
abbrev pub each_other : Book
each_other = record { size = 2; unread = λ x. false; objects = λ y x. not (eqb y x) }

pub open_returns : Open each_other 0 × PassesOn each_other 0 0 0
unfolding verdict verdict_by stands_within falls_within any all
open_returns = (first, further (at_once (asked, back)) (onward asked back, forth))
  where
    first : Open each_other 0
    first = verdict_means each_other 0 (omega arith)

    other : Open each_other 1
    other = verdict_means each_other 1 (omega arith)

    standoff : (y x : ℕ) → Objects each_other y x → Open each_other x → Open each_other y → Belongs each_other y x
    standoff y x o p q = belongs_by each_other y x is_open is_open Standoff o p q refl tt

    back : Belongs each_other 1 0
    back = standoff 1 0 (omega arith, tt) first other

    forth : Belongs each_other 0 1
    forth = standoff 0 1 (omega arith, tt) other first
