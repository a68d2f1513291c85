-- Demands 2 and 3, said of a book: the face of this crate. What is proved here is proved once and for all books; the
-- crates above show that their answers are the verdicts and kinds of the book that their input makes.
use mathlib.Core.Bool.{Bool}
use mathlib.Core.Logic.{◌↔◌}
use mathlib.Core.Path.{◌≡◌}
use Prim.Native.Nat.{ℕ, ◌-◌, ◌≤◌}
use lib.Dec.{T}
use Rattle.game.specs.Book.{Book, Listed, Unread, Objects}
use Rattle.game.specs.Game.{FirstWins, SecondWins}
use Rattle.game.specs.Label.{Verdict, Means, Falls, falls, Stands, stands}
use Rattle.game.specs.Rules.{falls_within, stands_within}
use Rattle.game.specs.Objection.{OfKind}
use Rattle.game.specs.Finish.{Allowed, Finish, finished}
use Rattle.game.specs.declared.Kind.{Kind}
use Rattle.game.proofs.Game.{falls_game, stands_game}
use Rattle.game.proofs.Verdict.{Within, verdict, verdict_means, means_verdict, falls_length, stands_length, falls_stands}
use Rattle.game.proofs.Verdict.{unread_stands, length_bound}
use Rattle.game.proofs.Objection.{kind_exists, kind_unique}
use Rattle.game.proofs.Transfer.{Same}
use Rattle.game.proofs.Finish.{falls_no_later, stands_no_later, every_allowed, every_finish, falls_in_every_finish}
use Rattle.game.proofs.Finish.{stands_in_every_finish}

pub record Demand2 (B : Book) : Type 0 where
  -- "A statement falls exactly if the first speaker can force a win, stands exactly if the second can, and is otherwise
  -- open. Its length is the least number of turns that suffices for the winner." `Means` says so of a verdict, and each
  -- listed statement has exactly one.
  pub one : (x : ℕ) → Listed B x → (v : Verdict) × Means B x v × ((w : Verdict) → Means B x w → w ≡ v)
  -- what falls has a length, and so has what stands; nothing does both
  pub falls_exactly : (x : ℕ) → Falls B x ↔ ((n : ℕ) × Means B x (falls n))
  pub stands_exactly : (x : ℕ) → Stands B x ↔ ((n : ℕ) × Means B x (stands n))
  pub apart : (x : ℕ) → Falls B x → Stands B x → ⊥
  -- "The meaning that decides is the forced win of demand 2; the rules above are to be shown equal to it."
  pub falls_rule : (n x : ℕ) → T (falls_within B n x) ↔ FirstWins B n x
  pub stands_rule : (n x : ℕ) → T (stands_within B n x) ↔ SecondWins B n x
  -- "An unread statement never stands."
  pub unread : (x : ℕ) → Unread B x → Stands B x → ⊥
  -- "No length exceeds the number of statements less 1."
  pub short : (x : ℕ) → Listed B x → (v : Verdict) → Means B x v → Within (B.size - 1) v
  -- "Objections are sorted by kind from these labels, as in the published win-move game."
  pub sorted : (y x : ℕ) → Listed B x → Objects B y x → (κ : Kind) × OfKind B y x κ × ((κ' : Kind) → OfKind B y x κ' → κ' ≡ κ)

pub record Demand3 (B : Book) : Type 0 where
  -- "A finish may add finitely many new statements, whatever the register's limits. Among listed statements only the
  -- unread may get new objections, from listed or new statements; new ones may get any. Then all are marked read." Every
  -- book so made is a finish, and there is no other.
  pub wide : (n : ℕ) (adds : ℕ → ℕ → Bool) → Allowed B n adds → Finish B (finished B n adds)
  pub no_wider : (F : Book) → Finish B F → (n : ℕ) × (adds : ℕ → ℕ → Bool) × Allowed B n adds × Same F (finished B n adds)
  -- "A listed statement falls exactly if it falls in every finish, and stands exactly if it stands in every finish."
  pub falls_exactly : (x : ℕ) → Listed B x → Falls B x ↔ ((F : Book) → Finish B F → Falls F x)
  pub stands_exactly : (x : ℕ) → Listed B x → Stands B x ↔ ((F : Book) → Finish B F → Stands F x)
  -- "One that has a length has no greater length in any finish."
  pub falls_no_later : (F : Book) → Finish B F → (n x : ℕ) → Listed B x → Means B x (falls n) → (m : ℕ) × (m ≤ n)
      × Means F x (falls m)
  pub stands_no_later : (F : Book) → Finish B F → (n x : ℕ) → Listed B x → Means B x (stands n) → (m : ℕ) × (m ≤ n)
      × Means F x (stands m)

pub demand_2 : (B : Book) → Demand2 B
demand_2 B = record {
  one = λ x l. (verdict B x, verdict_means B x l, λ w m. means_verdict B x l w m);
  falls_exactly = falls_length B;
  stands_exactly = stands_length B;
  apart = falls_stands B;
  falls_rule = falls_game B;
  stands_rule = stands_game B;
  unread = unread_stands B;
  short = length_bound B;
  sorted = λ y x l o. let (κ, p) = kind_exists B y x l o in (κ, p, λ κ' q. kind_unique B y x κ' κ q p);
}

pub demand_3 : (B : Book) → Demand3 B
demand_3 B = record {
  wide = every_allowed B;
  no_wider = every_finish B;
  falls_exactly = falls_in_every_finish B;
  stands_exactly = stands_in_every_finish B;
  falls_no_later = falls_no_later B;
  stands_no_later = stands_no_later B;
}
