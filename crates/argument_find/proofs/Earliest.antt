-- The search for the earliest objector along a chain: what is kept on the way, and what it comes to.
use mathlib.Core.List.{List}
use mathlib.Core.Logic.{inl, inr, ◌⊎◌}
use mathlib.Core.Path.{◌≡◌}
use Prim.Native.Nat.{ℕ, ◌-◌, ◌<◌, ◌≤◌}
use native.Mathlib.Omega.{arith}
use lib.ListN.{get_or, length}
use Rattle.game.specs.Label.{Least}
use Rattle.pair_chain.specs.Linked.{Walk, Linked}
use Rattle.argument_find.specs.ArgumentRoom.{ObjectsWith}
use Rattle.pair_chain.proofs.ChainWalks.{walk_more, walk_ends}

module _ (objectors targets labels lengths : List ℕ) (x label turns none : ℕ) where
  -- no place is earlier than `best` whose entry has been seen
  abbrev pub Later : ℕ → ℕ → Type 0
  Later best e =
      get_or labels (get_or objectors e 0) 0 ≡ label → get_or lengths (get_or objectors e 0) 0 ≡ turns → best ≤ get_or objectors e
      0

  -- the search has come to the link c; `best` is the earliest so far, or `none`
  pub record Search (best c : ℕ) : Type 0 where
    pub found : (best ≡ none) ⊎ ObjectsWith objectors targets labels lengths x label turns best
    pub walk : Walk targets (length targets) x (Later best) c

  -- an objector that has not both, or is not earlier, is passed
  pub search_passes : {n : ℕ} {begin link : ℕ → ℕ} → Linked targets n (length targets) begin link → {best c : ℕ}
      → Search best c → (c ≡ 0 → ⊥) → {d : ℕ} → d ≡ link (c - 1) → Later best (c - 1) → Search best d
  search_passes linked s on hd f = record { found = s.found; walk = walk_more linked s.walk on hd f }

  -- at the chain's end: if there is one with the label and the length, the earliest is found
  pub search_ends : length targets ≡ length objectors → {best c : ℕ} → Search best c → c ≡ 0
      → ((z : ℕ) → ObjectsWith objectors targets labels lengths x label turns z → z < none)
      → (z : ℕ) × ObjectsWith objectors targets labels lengths x label turns z
      → Least (ObjectsWith objectors targets labels lengths x label turns) best
  search_ends paired {best} s z below (y, o) = (there s.found, first)
    where
      first : (w : ℕ) → ObjectsWith objectors targets labels lengths x label turns w → best ≤ w
      first w ((e, h, t, p), a, b) =
          rw p at (walk_ends s.walk z e (rw paired h) t (rw p a) (rw p b))

      there : (best ≡ none) ⊎ ObjectsWith objectors targets labels lengths x label turns best
          → ObjectsWith objectors targets labels lengths x label turns best
      there (inl q) = absurd (omega (arith, first y o, below y o))
      there (inr q) = q
