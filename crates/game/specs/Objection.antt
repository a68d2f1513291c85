-- The kinds of objection, "fixed by the label of the target, then of the objector" (000, Figure 2), and their
-- lengths. What is told of them, `Account` says. The kind is the enum of the program itself: a felling or delaying one holds its
-- length.
use Rattle.std.proofs.Math.Option.{Option, some, none}
use Rattle.std.specs.Prelude.{◌≡◌, suc, ℕ}
use Rattle.game.specs.Book.{Book, Objects}
use Rattle.game.specs.Label.{Verdict, falls, stands, is_open, Means}
use Rattle.game.specs.declared.Kind.{Kind}
use Rattle.game.specs.declared.Kind.TheVariants.{Felling, Idle, Delaying, Standoff}

-- The table of 01: the target's verdict, then the objector's. `none` stands where the table says "never occurs".
-- "A felling or delaying objection has length 1 plus the objector's length."
abbrev pub kind_of : Verdict → Verdict → Option Kind
kind_of (falls n) (stands m) = some (Felling (suc m))
kind_of (falls n) (falls m) = some Idle
kind_of (falls n) is_open = some Idle
kind_of (stands n) (stands m) = none
kind_of (stands n) (falls m) = some (Delaying (suc m))
kind_of (stands n) is_open = none
kind_of is_open (stands m) = none
kind_of is_open (falls m) = some Idle
kind_of is_open is_open = some Standoff

-- the objection of y against x is of the kind κ
pub record OfKind (B : Book) (y x : ℕ) (κ : Kind) : Type 0 where
  pub target : Verdict
  pub objector : Verdict
  pub objects : Objects B y x
  pub target_means : Means B x target
  pub objector_means : Means B y objector
  pub is : kind_of target objector ≡ some κ
