-- What the numbers that are told of a statement and of an objection say, by the game and in every finish.
use mathlib.Core.Logic.{⊎_elim, inl, inr, ◌⊎◌, ◌↔◌}
use mathlib.Core.Option.{none, Option, some}
use mathlib.Core.Path.{refl, sym, ◌≡◌, subst, ap}
use Prim.Native.Nat.{ℕ, suc}
use native.Mathlib.Omega.{arith}
use Rattle.game.specs.Book.{Book, Listed}
use Rattle.game.specs.Label.{falls, Falls, stands, Stands, is_open, Open, Verdict, Means}
use Rattle.game.specs.Account.{Account, OfStatement, OfObjection, account_number, account_length, label_number, length_number}
use Rattle.game.specs.Account.{kind_number, kind_length}
use Rattle.game.specs.Objection.{kind_of, OfKind}
use Rattle.game.specs.declared.Kind.{Kind}
use Rattle.game.specs.declared.Kind.TheVariants.{Idle, Felling, Delaying, Standoff}
use Rattle.game.proofs.BookDemands.{demand_2, demand_3}
use Rattle.answer.proofs.Promises.{through}
use Rattle.promises.specs.Demands.{LabelSays, LengthSays, KindSays}

module _ (B : Book) (x : ℕ) where
  -- by the game alone
  record Label (label : ℕ) : Type 0 where
    pub falls : (label ≡ 2) ↔ Falls B x
    pub stands : (label ≡ 1) ↔ Stands B x
    pub is_open : (label ≡ 0) ↔ Open B x

  label : (v : Verdict) → Means B x v → Label (label_number v)
  label (falls n) m = record {
    falls = (λ e. (n, m.0), λ f. refl);
    stands = (λ e. absurd (omega (arith, e)), λ s. absurd ((demand_2 B).apart x (n, m.0) s));
    is_open = (λ e. absurd (omega (arith, e)), λ o. absurd (o.0 (n, m.0)));
  }
  label (stands n) m = record {
    falls = (λ e. absurd (omega (arith, e)), λ f. absurd ((demand_2 B).apart x f (n, m.0)));
    stands = (λ e. (n, m.0), λ s. refl);
    is_open = (λ e. absurd (omega (arith, e)), λ o. absurd (o.1 (n, m.0)));
  }
  label is_open m = record {
    falls = (λ e. absurd (omega (arith, e)), λ f. absurd (m.0 f));
    stands = (λ e. absurd (omega (arith, e)), λ s. absurd (m.1 s));
    is_open = (λ e. m, λ o. refl);
  }

  module _ (h : Listed B x) where
    verdict_label : (v : Verdict) → Means B x v → LabelSays B x (label_number v)
    verdict_label v m =
        let l = label v m in
        record {
          falls = l.falls;
          stands = l.stands;
          is_open = l.is_open;
          falls_finishes = through l.falls ((demand_3 B).falls_exactly x h);
          stands_finishes = through l.stands ((demand_3 B).stands_exactly x h);
        }

    verdict_length : (v : Verdict) → Means B x v → LengthSays B x (length_number v)
    verdict_length (falls n) m = record {
      falls = λ f. m;
      stands = λ s. absurd ((demand_2 B).apart x (n, m.0) s);
      none = λ o. absurd (o.0 (n, m.0));
      falls_finishes = λ f F e. (demand_3 B).falls_no_later F e n x h m;
      stands_finishes = λ s. absurd ((demand_2 B).apart x (n, m.0) s);
    }
    verdict_length (stands n) m = record {
      falls = λ f. absurd ((demand_2 B).apart x f (n, m.0));
      stands = λ s. m;
      none = λ o. absurd (o.1 (n, m.0));
      falls_finishes = λ f. absurd ((demand_2 B).apart x f (n, m.0));
      stands_finishes = λ s F e. (demand_3 B).stands_no_later F e n x h m;
    }
    verdict_length is_open m = record {
      falls = λ f. absurd (m.0 f);
      stands = λ s. absurd (m.1 s);
      none = λ o. refl;
      falls_finishes = λ f. absurd (m.0 f);
      stands_finishes = λ s. absurd (m.1 s);
    }

    pub label_says : (a : Account) → OfStatement B x a → LabelSays B x (account_number a)
    label_says a (v, m, e) = subst (λ u. LabelSays B x (account_number u)) (sym e) (verdict_label v m)

    pub length_says : (a : Account) → OfStatement B x a → LengthSays B x (account_length a)
    length_says a (v, m, e) = subst (λ u. LengthSays B x (account_length u)) (sym e) (verdict_length v m)

-- the kind that the table gives is the one it is said to give
pub same_kind : (P : Kind → Type 0) (κ κ' : Kind) → ◌≡◌ {A = Option Kind} (some κ) (some κ') → P κ → P κ'
same_kind P κ κ' e p = subst P (ap kind e) p
  where
    kind : Option Kind → Kind
    kind none = Idle
    kind (some κ) = κ

-- The table of kinds by numbers: a is the target's label, b the objector's.
record Rows (k a b : ℕ) : Type 0 where
  pub idle : (k ≡ 0) ↔ (((a ≡ 2) × ((b ≡ 2) ⊎ (b ≡ 0))) ⊎ ((a ≡ 0) × (b ≡ 2)))
  pub felling : (k ≡ 1) ↔ ((a ≡ 2) × (b ≡ 1))
  pub delaying : (k ≡ 2) ↔ ((a ≡ 1) × (b ≡ 2))
  pub standoff : (k ≡ 3) ↔ ((a ≡ 0) × (b ≡ 0))

-- a row that is not idle, or is, and the other three, which are arithmetic
busy : (k a b : ℕ) → (k ≡ 0 → ⊥) → ((a ≡ 2) × ((b ≡ 2) ⊎ (b ≡ 0)) → ⊥) → ((a ≡ 0) × (b ≡ 2) → ⊥)
    → (k ≡ 0) ↔ (((a ≡ 2) × ((b ≡ 2) ⊎ (b ≡ 0))) ⊎ ((a ≡ 0) × (b ≡ 2)))
busy k a b n p q = (λ e. absurd (n e), λ s. absurd (⊎_elim p q s))

rows : (v w : Verdict) (κ : Kind) → kind_of v w ≡ some κ → Rows (kind_number κ) (label_number v) (label_number w)
rows v w κ e = go v w κ e
  where
    at : (κ κ' : Kind) (a b : ℕ) → ◌≡◌ {A = Option Kind} (some κ) (some κ') → Rows (kind_number κ) a b → Rows (kind_number κ') a b
    at κ κ' a b = same_kind (λ u. Rows (kind_number u) a b) κ κ'

    go : (v w : Verdict) (κ : Kind) → kind_of v w ≡ some κ → Rows (kind_number κ) (label_number v) (label_number w)
    go (falls n) (stands m) κ e =
        at (Felling (suc m)) κ 2 1 e record {
          idle = busy 1 2 1 (λ z. omega (arith, z))
              (λ p. ⊎_elim (λ q. omega (arith, q)) (λ q. omega (arith, q)) p.1) (λ p. omega (arith, p.0));
          felling = (λ z. (refl, refl), λ p. refl);
          delaying = (λ z. absurd (omega (arith, z)), λ p. omega (arith, p.0));
          standoff = (λ z. absurd (omega (arith, z)), λ p. omega (arith, p.0));
        }
    go (falls n) (falls m) κ e =
        at Idle κ 2 2 e record {
          idle = (λ z. inl (refl, inl refl), λ p. refl);
          felling = (λ z. absurd (omega (arith, z)), λ p. omega (arith, p.1));
          delaying = (λ z. absurd (omega (arith, z)), λ p. omega (arith, p.0));
          standoff = (λ z. absurd (omega (arith, z)), λ p. omega (arith, p.0));
        }
    go (falls n) is_open κ e =
        at Idle κ 2 0 e record {
          idle = (λ z. inl (refl, inr refl), λ p. refl);
          felling = (λ z. absurd (omega (arith, z)), λ p. omega (arith, p.1));
          delaying = (λ z. absurd (omega (arith, z)), λ p. omega (arith, p.0));
          standoff = (λ z. absurd (omega (arith, z)), λ p. omega (arith, p.0));
        }
    go (stands n) (falls m) κ e =
        at (Delaying (suc m)) κ 1 2 e record {
          idle = busy 2 1 2 (λ z. omega (arith, z)) (λ p. omega (arith, p.0))
              (λ p. omega (arith, p.0));
          felling = (λ z. absurd (omega (arith, z)), λ p. omega (arith, p.0));
          delaying = (λ z. (refl, refl), λ p. refl);
          standoff = (λ z. absurd (omega (arith, z)), λ p. omega (arith, p.0));
        }
    go is_open (falls m) κ e =
        at Idle κ 0 2 e record {
          idle = (λ z. inr (refl, refl), λ p. refl);
          felling = (λ z. absurd (omega (arith, z)), λ p. omega (arith, p.0));
          delaying = (λ z. absurd (omega (arith, z)), λ p. omega (arith, p.0));
          standoff = (λ z. absurd (omega (arith, z)), λ p. omega (arith, p.1));
        }
    go is_open is_open κ e =
        at Standoff κ 0 0 e record {
          idle = busy 3 0 0 (λ z. omega (arith, z)) (λ p. omega (arith, p.0))
              (λ p. omega (arith, p.1));
          felling = (λ z. absurd (omega (arith, z)), λ p. omega (arith, p.0));
          delaying = (λ z. absurd (omega (arith, z)), λ p. omega (arith, p.0));
          standoff = (λ z. (refl, refl), λ p. refl);
        }
    go (stands n) (stands m) κ e = let z : ◌≡◌ {A = ℕ} 0 1 = cc in absurd (omega arith)
    go (stands n) is_open κ e = let z : ◌≡◌ {A = ℕ} 0 1 = cc in absurd (omega arith)
    go is_open (stands m) κ e = let z : ◌≡◌ {A = ℕ} 0 1 = cc in absurd (omega arith)

-- the length of a kind, from the objector's verdict
record Lengths (B : Book) (y k length : ℕ) : Type 0 where
  pub felling : k ≡ 1 → (m : ℕ) × Means B y (stands m) × (length ≡ suc m)
  pub delaying : k ≡ 2 → (m : ℕ) × Means B y (falls m) × (length ≡ suc m)
  pub none : (k ≡ 0) ⊎ (k ≡ 3) → length ≡ 65535

lengths : (B : Book) (y : ℕ) (v w : Verdict) (κ : Kind) → kind_of v w ≡ some κ → Means B y w
    → Lengths B y (kind_number κ) (kind_length κ)
lengths B y v w κ e m = go v w κ e m
  where
    at : (κ κ' : Kind) → ◌≡◌ {A = Option Kind} (some κ) (some κ') → Lengths B y (kind_number κ) (kind_length κ)
        → Lengths B y (kind_number κ') (kind_length κ')
    at = same_kind (λ u. Lengths B y (kind_number u) (kind_length u))

    dash : (κ κ' : Kind) → ◌≡◌ {A = Option Kind} (some κ) (some κ') → (kind_number κ ≡ 1 → ⊥) → (kind_number κ ≡ 2 → ⊥)
        → kind_length κ ≡ 65535 → Lengths B y (kind_number κ') (kind_length κ')
    dash κ κ' e p q d = at κ κ' e record { felling = λ z. absurd (p z); delaying = λ z. absurd (q z); none = λ z. d }

    go : (v w : Verdict) (κ : Kind) → kind_of v w ≡ some κ → Means B y w → Lengths B y (kind_number κ) (kind_length κ)
    go (falls n) (stands k) κ e m =
        at (Felling (suc k)) κ e record {
          felling = λ z. (k, m, refl);
          delaying = λ z. absurd (omega (arith, z));
          none = λ s. absurd (⊎_elim (λ z. omega (arith, z)) (λ z. omega (arith, z)) s);
        }
    go (stands n) (falls k) κ e m =
        at (Delaying (suc k)) κ e record {
          felling = λ z. absurd (omega (arith, z));
          delaying = λ z. (k, m, refl);
          none = λ s. absurd (⊎_elim (λ z. omega (arith, z)) (λ z. omega (arith, z)) s);
        }
    go (falls n) (falls k) κ e m = dash Idle κ e (λ z. omega (arith, z)) (λ z. omega (arith, z)) refl
    go (falls n) is_open κ e m = dash Idle κ e (λ z. omega (arith, z)) (λ z. omega (arith, z)) refl
    go is_open (falls k) κ e m = dash Idle κ e (λ z. omega (arith, z)) (λ z. omega (arith, z)) refl
    go is_open is_open κ e m = dash Standoff κ e (λ z. omega (arith, z)) (λ z. omega (arith, z)) refl
    go (stands n) (stands k) κ e m = let z : ◌≡◌ {A = ℕ} 0 1 = cc in absurd (omega arith)
    go (stands n) is_open κ e m = let z : ◌≡◌ {A = ℕ} 0 1 = cc in absurd (omega arith)
    go is_open (stands k) κ e m = let z : ◌≡◌ {A = ℕ} 0 1 = cc in absurd (omega arith)

both : {A B C D : Type 0} → A ↔ C → B ↔ D → (A × B) ↔ (C × D)
both (f, g) (h, k) = (λ p. (f p.0, h p.1), λ p. (g p.0, k p.1))

either : {A B C D : Type 0} → A ↔ C → B ↔ D → (A ⊎ B) ↔ (C ⊎ D)
either (f, g) (h, k) = (⊎_elim (λ a. inl (f a)) (λ b. inr (h b)), ⊎_elim (λ c. inl (g c)) (λ d. inr (k d)))

of_kind_says : (B : Book) (y x : ℕ) (κ : Kind) → OfKind B y x κ → KindSays B y x (kind_number κ) (kind_length κ)
of_kind_says B y x κ o =
    let a = label B x o.target o.target_means in
    let b = label B y o.objector o.objector_means in
    let r = rows o.target o.objector κ o.is in
    let l = lengths B y o.target o.objector κ o.is o.objector_means in
    record {
      objects = o.objects;
      idle = through r.idle (either (both a.falls (either b.falls b.is_open)) (both a.is_open b.falls));
      felling = through r.felling (both a.falls b.stands);
      delaying = through r.delaying (both a.stands b.falls);
      standoff = through r.standoff (both a.is_open b.is_open);
      felling_length = l.felling;
      delaying_length = l.delaying;
      no_length = l.none;
    }

pub kind_says : (B : Book) (y x : ℕ) (a : Account) → OfObjection B y x a → KindSays B y x (account_number a) (account_length a)
kind_says B y x a (κ, o, e) = subst (λ u. KindSays B y x (account_number u) (account_length u)) (sym e) (of_kind_says B y x κ o)
