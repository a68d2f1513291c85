-- The transfer law, one for every change of a book that changes no label and no length: it is enough that the marks
-- stay, that no objection is new, and that the objections that decide are kept.
use mathlib.Core.Bool.{not}
use mathlib.Core.Logic.{inl, inr, ◌⊎◌, ◌↔◌}
use mathlib.Core.Path.{refl, subst, ap, sym, ◌≡◌, ◌∙◌}
use Prim.Native.Nat.{suc, ℕ, ◌<◌}
use lib.Dec.{T}
use Rattle.game.specs.Book.{Book, Listed, Objects, Unread}
use Rattle.game.specs.Label.{Verdict, falls, stands, is_open, Means}
use Rattle.game.specs.Agree.{Agrees, Fits}
use Rattle.game.proofs.Verdict.{verdict, verdict_means, means_verdict}
use Rattle.game.proofs.Agree.{verdict_agrees, agrees_means}

-- What decides a target, by its verdict and then the objector's: the felling objections that give it its length, the
-- delaying ones and the standoffs.
abbrev pub Needed : Verdict → Verdict → Type 0
Needed (falls n) (stands m) = n ≡ suc m
Needed (falls n) (falls m) = ⊥
Needed (falls n) is_open = ⊥
Needed (stands n) (stands m) = ⊥
Needed (stands n) (falls m) = Unit {0}
Needed (stands n) is_open = ⊥
Needed is_open (stands m) = ⊥
Needed is_open (falls m) = ⊥
Needed is_open is_open = Unit {0}

-- C is a part of B: its statement x is B's f x, with its mark, and among its objections are those that decide.
pub record Part (B C : Book) (f : ℕ → ℕ) : Type 0 where
  pub listed : (x : ℕ) → Listed C x → Listed B (f x)
  pub marks : (x : ℕ) → Listed C x → C.unread x ≡ B.unread (f x)
  pub old : (y x : ℕ) → Listed C x → Objects C y x → Objects B (f y) (f x)
  pub needed : (y x : ℕ) (v w : Verdict) → Listed C x → Objects B y (f x) → Means B (f x) v → Means B y w → Needed v w → (z : ℕ)
      × Objects C z x × (f z ≡ y)

module _ (B C : Book) (f : ℕ → ℕ) (p : Part B C f) where
  v : ℕ → Verdict
  v x = verdict B (f x)

  agree : Agrees C v
  unfolding v
  agree x l = go (verdict B (f x)) refl (verdict_agrees B (f x) (p.listed x l))
    where
      lift : (y : ℕ) (a b : Verdict) → Objects B y (f x) → verdict B (f x) ≡ a → verdict B y ≡ b → Needed a b → (z : ℕ)
          × Objects C z x × (verdict B (f z) ≡ b)
      lift y a b o c d n =
          let m : Means B (f x) a = subst (λ w. Means B (f x) w) c (verdict_means B (f x) (p.listed x l)) in
          let k : Means B y b = subst (λ w. Means B y w) d (verdict_means B y o.0) in
          let (z, q, e) = p.needed y x a b l o m k n in
          (z, q, ap (verdict B) e ∙ d)

      go : (w : Verdict) → verdict B (f x) ≡ w → Fits B (verdict B) (f x) w → Fits C v x w
      go (falls n) c (m, e, (y, o, d), least) =
          (m, e, lift y (falls n) (stands m) o c d e, λ z k q g. least (f z) k (p.old z x l q) g)
      go (stands n) c (r, all, top) = (
        subst (λ b. T (not b)) (sym (p.marks x l)) r,
        (λ z q. all (f z) (p.old z x l q)),
        λ m e. let (y, o, d) = top m e in lift y (stands n) (falls m) o c d tt,
      )
      go is_open c (none, why) = ((λ z k q g. none (f z) k (p.old z x l q) g), because why)
        where
          because : Unread B (f x) ⊎ ((y : ℕ) × Objects B y (f x) × (verdict B y ≡ is_open)) → Unread C x
              ⊎ ((y : ℕ) × Objects C y x × (v y ≡ is_open))
          because (inl u) = inl (subst T (sym (p.marks x l)) u)
          because (inr (y, o, d)) = inr (lift y is_open is_open o c d tt)

  same_verdict_lem : (x : ℕ) → Listed C x → verdict C x ≡ verdict B (f x)
  unfolding v
  same_verdict_lem x l = sym (means_verdict C x l (v x) ((agrees_means C v).0 agree x l))

  pub transfer : (x : ℕ) (w : Verdict) → Listed C x → Means B (f x) w ↔ Means C x w
  transfer x w l = (
    λ m. subst (λ u. Means C x u) (same_verdict_lem x l ∙ sym (means_verdict B (f x) (p.listed x l) w m)) (verdict_means C x l),
    λ m. subst (λ u. Means B (f x) u) (sym (same_verdict_lem x l) ∙ sym (means_verdict C x l w m))
        (verdict_means B (f x) (p.listed x l)),
  )

-- Two books that are the same as far as they list anything.
pub record Same (B C : Book) : Type 0 where
  pub size : C.size ≡ B.size
  pub marks : (x : ℕ) → Listed C x → C.unread x ≡ B.unread x
  pub objects : (y x : ℕ) → Listed C y → Listed C x → C.objects y x ≡ B.objects y x

pub same_means : (B C : Book) → Same B C → (x : ℕ) (w : Verdict) → Listed C x → Means B x w ↔ Means C x w
same_means B C s = transfer B C (λ x. x) (record {
  listed = λ x l. to x l;
  marks = s.marks;
  old = λ y x l o. (to y o.0, subst T (s.objects y x o.0 l) o.1);
  needed = λ y x v w l o m k n. let h = back y o.0 in (y, (h, subst T (sym (s.objects y x h l)) o.1), refl);
})
  where
    to : (x : ℕ) → Listed C x → Listed B x
    to x l = subst (λ n. x < n) s.size l

    back : (x : ℕ) → Listed B x → Listed C x
    back x l = subst (λ n. x < n) (sym s.size) l
