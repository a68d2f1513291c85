-- The reason for a statement, and the register of nothing else. "The reason for a statement is that statement with every
-- objection reachable from it, target to objector, along felling, delaying and standoff objections", of which E5 keeps those
-- that a target hangs on. Which objections those are is said by `Belongs` alone.
use Rattle.std.specs.Prelude.{Bool, true, false, ◌⊎◌, ◌↔◌, ◌≡◌, ℕ, T, eqb}
use Rattle.game.specs.Book.{Book, Listed}
use Rattle.game.specs.Label.{Verdict}
use Rattle.game.specs.Account.{length_number}
use Rattle.game.specs.Objection.{OfKind}
use Rattle.game.specs.declared.Kind.{Kind}
use Rattle.game.specs.declared.Kind.TheVariants.{Idle, Felling, Delaying, Standoff}

-- Whether a target of this verdict hangs on an objection of this kind: "a felling objection belongs to a reason only if its
-- length equals the length of its target".
abbrev pub hangs_on : Verdict → Kind → Bool
hangs_on v Idle = false
hangs_on v (Felling n) = eqb n (length_number v)
hangs_on v (Delaying n) = true
hangs_on v Standoff = true

-- the objection of y against x belongs to every reason that comes to x
pub record Belongs (B : Book) (y x : ℕ) : Type 0 where
  pub kind : Kind
  pub of_kind : OfKind B y x kind
  pub hangs : T (hangs_on of_kind.target kind)

-- the reason for a comes to the statement x
pub data Reaches (B : Book) (a : ℕ) : ℕ → Type 0 where
  asked : Reaches B a a
  onward : {x y : ℕ} → Reaches B a x → Belongs B y x → Reaches B a y

-- the objection of y against x is in the reason for a
abbrev pub InReason : Book → ℕ → ℕ → ℕ → Type 0
InReason B a y x = Reaches B a x × Belongs B y x

-- z is a statement of the reason for a: the asked one, or an end of one of the reason's objections
abbrev pub OfReason : Book → ℕ → ℕ → Type 0
OfReason B a z = (z ≡ a) ⊎ ((y : ℕ) × (x : ℕ) × InReason B a y x × ((z ≡ y) ⊎ (z ≡ x)))

-- "A register of only the reason's statements, with their marks, and its objections": C, whose statement x is the f x of B.
pub record OnlyReason (B C : Book) (a : ℕ) (f : ℕ → ℕ) : Type 0 where
  pub only : (x : ℕ) → Listed C x → OfReason B a (f x)
  pub every : (z : ℕ) → OfReason B a z → (x : ℕ) × Listed C x × (f x ≡ z)
  pub once : (x x' : ℕ) → Listed C x → Listed C x' → f x ≡ f x' → x ≡ x'
  pub marks : (x : ℕ) → Listed C x → C.unread x ≡ B.unread (f x)
  pub objections : (y x : ℕ) → Listed C y → Listed C x → T (C.objects y x) ↔ InReason B a (f y) (f x)

-- One or more objections in the reason for a, each against the objector of the one before, pass on from x to y. "A falling or
-- standing statement's reason never returns to a statement it has passed": none pass on from x to x.
pub data PassesOn (B : Book) (a : ℕ) : ℕ → ℕ → Type 0 where
  at_once : {x y : ℕ} → InReason B a y x → PassesOn B a x y
  further : {x y z : ℕ} → PassesOn B a x y → InReason B a z y → PassesOn B a x z
