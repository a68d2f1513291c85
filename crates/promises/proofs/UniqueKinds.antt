-- The promise of kinds on lists leaves one answer and one content of the rooms: `unique_pairs_kinds`.
use mathlib.Core.List.{List}
use mathlib.Core.Logic.{inl, inr}
use mathlib.Core.Path.{sym, ◌≡◌, ◌∙◌}
use Prim.Native.Nat.{ℕ}
use native.Mathlib.Omega.{arith}
use lib.ListN.{get_or}
use Rattle.game.specs.Book.{book_of}
use Rattle.game.specs.Account.{Account, OfObjection}
use Rattle.game.proofs.Account.{objection_once, number_once}
use Rattle.answer.specs.Answer.{Short}
use Rattle.answer.specs.Answer.{Answer}
use Rattle.answer.proofs.Rooms.{begins_unique}
use Rattle.answer.proofs.Promises.{short_once}
use Rattle.answer.proofs.Inputs.{on_unique}
use Rattle.promises.proofs.OnLists.{lists_apart}
use Rattle.promises.specs.KindCalls.{PairsKinds, Objections, KindsIn, KindsShort}

module _ (marks objectors targets : List ℕ) where
  pub unique_pairs_kinds : (rooms : List ℕ × List ℕ) (a a' : Answer) (after after' : List ℕ × List ℕ)
      → PairsKinds marks objectors targets rooms a after → PairsKinds marks objectors targets rooms a' after' → (a ≡ a')
      × (after ≡ after')
  unique_pairs_kinds rooms =
      on_unique (lists_apart marks objectors targets) (λ m. Short (KindsShort objectors rooms))
      (λ m. short_once (KindsShort objectors rooms)) (λ m. KindsIn marks objectors targets rooms)
      (λ m l r n after p g. room_left n after g p.0) (λ m l. same) rooms
    where
      room_left : (n : ℕ) (after : List ℕ × List ℕ) → KindsIn marks objectors targets rooms n after → KindsShort objectors rooms
          → ⊥
      room_left n after g (inl h) = omega (arith, g.0, g.1.fits)
      room_left n after g (inr h) = omega (arith, g.0, g.2.fits)

      one_room : (number : Account → ℕ) (n : ℕ) (room after after' : List ℕ)
          → Objections marks objectors targets number n room after → Objections marks objectors targets number n room after'
          → after ≡ after'
      one_room number n room after after' b b' =
          let B = book_of marks objectors targets in
          begins_unique (λ k e. (a : Account) × OfObjection B (get_or objectors k 0) (get_or targets k 0) a × (e ≡ number a)) room
          n
          after
          after' (λ k i j h. number_once (OfObjection B (get_or objectors k 0) (get_or targets k 0))
          (objection_once B (get_or objectors k 0) (get_or targets k 0)) number i j) b b'

      same : (n n' : ℕ) (after after' : List ℕ × List ℕ) → KindsIn marks objectors targets rooms n after
          → KindsIn marks objectors targets rooms n' after' → (n ≡ n') × (after ≡ after')
      same n n' after after' (e, b, c) (e', b', c') =
          let q : n' ≡ n = e' ∙ sym e in
          let f : after.0 ≡ after'.0 = one_room _ n rooms.0 after.0 after'.0 b (rw q at b') in
          let g : after.1 ≡ after'.1 = one_room _ n rooms.1 after.1 after'.1 c (rw q at c') in
          (sym q, λ i. (f i, g i))
