-- Lists by their first entry: what stands in one, what stands in it once, what holds of each; and the objectors of a number. A
-- register has an objection exactly if its objector is among the objectors of its target, and has none twice exactly if nobody
-- stands there twice. Cards are left to others: this goes by the first entry, so that their laws need no places.
use mathlib.Core.List.{List, map, [], ◌∷◌, ◌++◌}
use mathlib.Core.Logic.{inl, inr, ◌⊎◌, ⊎_elim}
use mathlib.Core.Path.{refl, ap, sym, subst, ◌≡◌, ◌∙◌}
use Prim.Native.Nat.{ℕ, suc, zero, ◌<◌}
use native.Mathlib.Nat.{not-suc-le-zero, le_of_suc-le-suc}
use native.Mathlib.Decide.{ℕ_discrete}
use native.Mathlib.Omega.{arith}
use lib.ListN.{length, get_or}
use borrow.Author.Tests.{eq-eqb, ne_eqb}
use Rattle.register.specs.declared.ObjectionLine.{ObjectionLine}
use Rattle.register.specs.Register.{Register, Has}
use Rattle.catalogue.specs.Cards.{Each}
use Rattle.catalogue.specs.Regrouped.{against}

-- v stands in l
abbrev pub Among : List ℕ → ℕ → Type 0
Among l v = (i : ℕ) × (i < length l) × (get_or l i 0 ≡ v)

pub among_later : (a : ℕ) (l : List ℕ) (v : ℕ) → Among l v → Among (a ∷ l) v
among_later a l v (i, h, e) = (suc i, omega arith, e)

pub among_cases : (a : ℕ) (l : List ℕ) (v : ℕ) → Among (a ∷ l) v → (a ≡ v) ⊎ Among l v
among_cases a l v (zero, h, e) = inl e
among_cases a l v (suc i, h, e) = inr (i, le_of_suc-le-suc h, e)

pub among_or_not : (l : List ℕ) (v : ℕ) → Dec (Among l v)
among_or_not [] v = no (λ w. not-suc-le-zero w.1)
among_or_not (a ∷ l) v = go (ℕ_discrete a v) (among_or_not l v)
  where
    go : Dec (a ≡ v) → Dec (Among l v) → Dec (Among (a ∷ l) v)
    go (yes e) d = yes (0, omega arith, e)
    go (no n) (yes w) = yes (among_later a l v w)
    go (no n) (no m) = no (λ w. ⊎_elim n m (among_cases a l v w))

-- no entry of l stands in it twice
abbrev pub Once : List ℕ → Type 0
Once l = (i j : ℕ) → i < j → j < length l → get_or l i 0 ≡ get_or l j 0 → ⊥

pub once_first : (a : ℕ) (l : List ℕ) → Once (a ∷ l) → ¬ Among l a
once_first a l f (i, h, e) = f 0 (suc i) (omega arith) (omega arith) (sym e)

pub once_later : (a : ℕ) (l : List ℕ) → Once (a ∷ l) → Once l
once_later a l f i j h k = f (suc i) (suc j) (omega arith) (omega arith)

once_more : (a : ℕ) (l : List ℕ) → ¬ Among l a → Once l → Once (a ∷ l)
once_more a l n f zero zero h k e = omega arith
once_more a l n f zero (suc j) h k e = n (j, le_of_suc-le-suc k, sym e)
once_more a l n f (suc i) zero h k e = omega arith
once_more a l n f (suc i) (suc j) h k e = f i j (le_of_suc-le-suc h) (le_of_suc-le-suc k) e

-- What holds of each, and a weaker fact; of each of two lists, and of both; of each, and by places.
pub each_weaker : {A : Type 0} (P Q : A → Type 0) → ((a : A) → P a → Q a) → (l : List A) → Each P l → Each Q l
each_weaker P Q f [] p = tt
each_weaker P Q f (a ∷ l) p = (f a p.0, each_weaker P Q f l p.1)

pub each_append : {A : Type 0} (P : A → Type 0) (l m : List A) → Each P l → Each P m → Each P (l ++ m)
each_append P [] m p q = q
each_append P (a ∷ l) m p q = (p.0, each_append P l m p.1 q)

module _ {A : Type 0} (f : A → ℕ) (P : ℕ → Type 0) where
  pub each_at : (l : List A) → Each (λ (a : A). P (f a)) l → (k : ℕ) → k < length l → P (get_or (map f l) k 0)
  each_at [] p k h = absurd (not-suc-le-zero h)
  each_at (a ∷ l) p zero h = p.0
  each_at (a ∷ l) p (suc k) h = each_at l p.1 k (le_of_suc-le-suc h)

  pub each_of : (l : List A) → ((k : ℕ) → k < length l → P (get_or (map f l) k 0)) → Each (λ (a : A). P (f a)) l
  each_of [] p = tt
  each_of (a ∷ l) p = (p 0 (omega arith), each_of l (λ k h. p (suc k) (omega arith)))

-- The objectors of x, with one objection more, on x or on another; of two lists of objections.
pub against_on : (o : ObjectionLine) (O : List ObjectionLine) (x : ℕ) → o.target ≡ x
    → against (o ∷ O) x ≡ o.objector ∷ against O x
unfolding against
against_on o O x e = rw (eq-eqb o.target x e) refl

pub against_other : (o : ObjectionLine) (O : List ObjectionLine) (x : ℕ) → (o.target ≡ x → ⊥)
    → against (o ∷ O) x ≡ against O x
unfolding against
against_other o O x n = rw (ne_eqb o.target x n) refl

pub against_append : (O P : List ObjectionLine) (x : ℕ) → against (O ++ P) x ≡ against O x ++ against P x
unfolding against
against_append [] P x = refl
against_append (o ∷ O) P x = go (ℕ_discrete o.target x) (against_append O P x)
  where
    go : Dec (o.target ≡ x) → against (O ++ P) x ≡ against O x ++ against P x
        → against (o ∷ (O ++ P)) x ≡ against (o ∷ O) x ++ against P x
    go (yes p) e =
        against_on o (O ++ P) x p ∙ ap (λ u. o.objector ∷ u) e ∙ sym (ap (λ u. u ++ against P x) (against_on o O x p))
    go (no n) e = against_other o (O ++ P) x n ∙ e ∙ sym (ap (λ u. u ++ against P x) (against_other o O x n))

-- what holds of each target, and not of x: then x has no objector
pub against_none : (P : ℕ → Type 0) (O : List ObjectionLine) (x : ℕ) → Each (λ (o : ObjectionLine). P o.target) O → ¬ P x
    → against O x ≡ []
unfolding against
against_none P [] x p n = refl
against_none P (o ∷ O) x p n = against_other o O x (λ e. n (subst P e p.0)) ∙ against_none P O x p.1 n

-- what holds of each objector holds of those of x
pub each_against : (P : ℕ → Type 0) (O : List ObjectionLine) (x : ℕ) → Each (λ (o : ObjectionLine). P o.objector) O
    → Each P (against O x)
unfolding against
each_against P [] x p = tt
each_against P (o ∷ O) x p = go (ℕ_discrete o.target x) (each_against P O x p.1)
  where
    go : Dec (o.target ≡ x) → Each P (against O x) → Each P (against (o ∷ O) x)
    go (yes e) q = rw (against_on o O x e) (p.0, q)
    go (no n) q = rw (against_other o O x n) q

-- a register of objections only
abbrev pub objected : List ObjectionLine → Register
objected O = record { statements = []; objections = O }

-- y objects to x exactly if it is among the objectors of x
pub has_among : (O : List ObjectionLine) (y x : ℕ) → Has (objected O) y x → Among (against O x) y
has_among [] y x (k, h, a, b) = absurd (not-suc-le-zero h)
has_among (o ∷ O) y x (zero, h, a, b) = rw (against_on o O x b) (0, omega arith, a)
has_among (o ∷ O) y x (suc k, h, a, b) = go (ℕ_discrete o.target x) (has_among O y x (k, le_of_suc-le-suc h, a, b))
  where
    go : Dec (o.target ≡ x) → Among (against O x) y → Among (against (o ∷ O) x) y
    go (yes e) w = rw (against_on o O x e) (among_later o.objector (against O x) y w)
    go (no n) w = rw (against_other o O x n) w

pub among_has : (O : List ObjectionLine) (y x : ℕ) → Among (against O x) y → Has (objected O) y x
unfolding against
among_has [] y x (k, h, e) = absurd (not-suc-le-zero h)
among_has (o ∷ O) y x w = go (ℕ_discrete o.target x) (λ u. later (among_has O y x u))
  where
    later : Has (objected O) y x → Has (objected (o ∷ O)) y x
    later (k, h, a, b) = (suc k, omega arith, a, b)

    go : Dec (o.target ≡ x) → (Among (against O x) y → Has (objected (o ∷ O)) y x) → Has (objected (o ∷ O)) y x
    go (yes p) f =
        ⊎_elim (λ (e : o.objector ≡ y). (0, omega arith, e, p)) f
        (among_cases o.objector (against O x) y (rw (against_on o O x p) at w))
    go (no n) f = f (rw (against_other o O x n) at w)

-- no objection stands twice
abbrev pub Distinct : List ObjectionLine → Type 0
Distinct O =
    (j k : ℕ) → j < k → k < length O → get_or (map (λ (o : ObjectionLine). o.objector) O) j 0
    ≡ get_or (map (λ (o : ObjectionLine). o.objector) O) k 0 → get_or (map (λ (o : ObjectionLine). o.target) O) j 0
    ≡ get_or (map (λ (o : ObjectionLine). o.target) O) k 0 → ⊥

pub distinct_once : (O : List ObjectionLine) (x : ℕ) → Distinct O → Once (against O x)
unfolding against
distinct_once [] x d = λ i j h k. absurd (not-suc-le-zero k)
distinct_once (o ∷ O) x d =
    go (ℕ_discrete o.target x) (distinct_once O x (λ j k h l. d (suc j) (suc k) (omega arith) (omega arith)))
  where
    go : Dec (o.target ≡ x) → Once (against O x) → Once (against (o ∷ O) x)
    go (yes p) f = rw (against_on o O x p) (once_more o.objector (against O x) (λ w. new (among_has O o.objector x w)) f)
      where
        new : ¬ Has (objected O) o.objector x
        new (k, h, a, b) = d 0 (suc k) (omega arith) (omega arith) (sym a) (p ∙ sym b)
    go (no n) f = rw (against_other o O x n) f

pub once_distinct : (O : List ObjectionLine) → ((x : ℕ) → Once (against O x)) → Distinct O
once_distinct [] f j k h l a b = absurd (not-suc-le-zero l)
once_distinct (o ∷ O) f zero zero h l a b = omega arith
once_distinct (o ∷ O) f zero (suc k) h l a b =
    once_first o.objector (against O o.target) (rw (against_on o O o.target refl) at (f o.target))
    (has_among O o.objector o.target (k, le_of_suc-le-suc l, sym a, sym b))
once_distinct (o ∷ O) f (suc j) zero h l a b = omega arith
once_distinct (o ∷ O) f (suc j) (suc k) h l a b =
    once_distinct O (λ x. less x (ℕ_discrete o.target x)) j k (le_of_suc-le-suc h) (le_of_suc-le-suc l) a b
  where
    less : (x : ℕ) → Dec (o.target ≡ x) → Once (against O x)
    less x (yes p) = once_later o.objector (against O x) (rw (against_on o O x p) at (f x))
    less x (no n) = rw (against_other o O x n) at (f x)
