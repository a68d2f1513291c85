-- Every objection between listed statements has exactly one kind, and none stands at a place of the table that says
-- "never occurs". The table by the numbers of labels is here too.
use mathlib.Core.Bool.{Bool, true, false}
use mathlib.Core.Option.{none, Option, some}
use mathlib.Core.Path.{◌≡◌, refl, ap₂, ap}
use Prim.Native.Nat.{ℕ, ◌+◌, ◌≤◌}
use native.Mathlib.Numerals.{add-one}
use native.Mathlib.Omega.{arith}
use lib.Dec.{eqb}
use Rattle.game.specs.Book.{Book, Objects, Listed}
use Rattle.game.specs.Label.{Verdict, Means, falls, stands, is_open}
use Rattle.game.specs.Account.{label_number, length_number}
use Rattle.game.specs.Objection.{kind_of, OfKind}
use Rattle.game.specs.declared.Kind.{Kind}
use Rattle.game.specs.declared.Kind.TheVariants.{Felling, Idle, Delaying, Standoff}
use Rattle.game.proofs.Verdict.{no_standing_against_standing, no_open_against_standing, no_standing_against_open, verdict}
use Rattle.game.proofs.Verdict.{verdict_means, means_unique}

-- the kind of the table; idle where the table says "never occurs"
abbrev pub or_idle : Option Kind → Kind
or_idle (some κ) = κ
or_idle none = Idle

module _ (B : Book) (y x : ℕ) where
  -- the three impossible places, whether the target is read or unread
  pub never_occurs : (v w : Verdict) → Objects B y x → Means B x v → Means B y w → kind_of v w ≡ none → ⊥
  never_occurs (falls n) (stands m) o p q e = let z : ◌≡◌ {A = ℕ} 0 1 = cc in omega arith
  never_occurs (falls n) (falls m) o p q e = let z : ◌≡◌ {A = ℕ} 0 1 = cc in omega arith
  never_occurs (falls n) is_open o p q e = let z : ◌≡◌ {A = ℕ} 0 1 = cc in omega arith
  never_occurs (stands n) (stands m) o p q e = no_standing_against_standing B x y o (n, p.0) (m, q.0)
  never_occurs (stands n) (falls m) o p q e = let z : ◌≡◌ {A = ℕ} 0 1 = cc in omega arith
  never_occurs (stands n) is_open o p q e = no_open_against_standing B x y o (n, p.0) q
  never_occurs is_open (stands m) o p q e = no_standing_against_open B x y o p (m, q.0)
  never_occurs is_open (falls m) o p q e = let z : ◌≡◌ {A = ℕ} 0 1 = cc in omega arith
  never_occurs is_open is_open o p q e = let z : ◌≡◌ {A = ℕ} 0 1 = cc in omega arith

  pub kind_exists : Listed B x → Objects B y x → (κ : Kind) × OfKind B y x κ
  kind_exists l o = go (kind_of (verdict B x) (verdict B y)) refl
    where
      go : (k : Option Kind) → kind_of (verdict B x) (verdict B y) ≡ k → (κ : Kind) × OfKind B y x κ
      go none e = absurd (never_occurs (verdict B x) (verdict B y) o (verdict_means B x l) (verdict_means B y o.0) e)
      go (some κ) e = (
        κ,
        record {
          target = verdict B x;
          objector = verdict B y;
          objects = o;
          target_means = verdict_means B x l;
          objector_means = verdict_means B y o.0;
          is = e;
        },
      )

  pub kind_unique : (κ κ' : Kind) → OfKind B y x κ → OfKind B y x κ' → κ ≡ κ'
  kind_unique κ κ' a b =
      let e : kind_of a.target a.objector ≡ kind_of b.target b.objector =
      ap₂ kind_of (means_unique B x a.target b.target a.target_means b.target_means)
      (means_unique B y a.objector b.objector a.objector_means b.objector_means) in
      let p : kind_of a.target a.objector ≡ some κ = a.is in
      let q : kind_of b.target b.objector ≡ some κ' = b.is in
      cc

-- The table by the label numbers, as the program goes through it.
abbrev pick : Bool → Option Kind → Option Kind → Option Kind
pick true a b = a
pick false a b = b

abbrev pub kind_by : (target objector length : ℕ) → Option Kind
kind_by target objector length =
    pick (eqb target 2) (pick (eqb objector 1) (some (Felling (length + 1))) (some Idle))
    (pick (eqb target 1) (pick (eqb objector 2) (some (Delaying (length + 1))) none)
    (pick (eqb objector 1) none (pick (eqb objector 2) (some Idle) (some Standoff))))

pub kind_by_lem : (v w : Verdict) → kind_by (label_number v) (label_number w) (length_number w) ≡ kind_of v w
kind_by_lem (falls n) (stands m) = ap (λ k. some (Felling k)) (add-one m)
kind_by_lem (falls n) (falls m) = refl
kind_by_lem (falls n) is_open = refl
kind_by_lem (stands n) (stands m) = refl
kind_by_lem (stands n) (falls m) = ap (λ k. some (Delaying k)) (add-one m)
kind_by_lem (stands n) is_open = refl
kind_by_lem is_open (stands m) = refl
kind_by_lem is_open (falls m) = refl
kind_by_lem is_open is_open = refl

pub label_low : (v : Verdict) → label_number v ≤ 2
label_low is_open = omega arith
label_low (stands n) = omega arith
label_low (falls n) = omega arith
