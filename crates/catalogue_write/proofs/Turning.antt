-- Places turned round one by one, and chained.
use mathlib.Core.List.{List}
use mathlib.Core.Path.{◌≡◌, ◌∙◌}
use Prim.Native.Nat.{ℕ, ◌+◌, ◌-◌, ◌≤◌, ◌<◌}
use native.Mathlib.Omega.{arith}
use lib.ListN.{length, get_or, take}
use lib.Seq.{get_or-take, length-take-le}
use Rattle.pair_chain.specs.Linked.{Linked}
use Rattle.catalogue_write.specs.CatalogueRows.{Turned, ChainedBack}

-- the first k places stand where they belong
abbrev pub TurnedTo : (places : List ℕ) (k : ℕ) (turned : List ℕ) → Type 0
TurnedTo places k turned = (e i : ℕ) → e < k → e + i + 1 ≡ length places → get_or turned i 0 ≡ get_or places e 0

module _ (places turned : List ℕ) (is_turned : Turned places turned) (room : length places ≤ length turned) where
  abbrev part : List ℕ
  part = take (length places) turned

  pub part_length : length part ≡ length places
  part_length = length-take-le (length places) turned room

  part_turned : Turned places part
  part_turned e i p = get_or-take (length places) turned i 0 (omega arith) ∙ is_turned e i p

  pub part_low : (n : ℕ) → ((e : ℕ) → e < length places → get_or places e 0 < n) → (i : ℕ) → i < length part → get_or part i 0 <
      n
  part_low n h i l =
      let e : ℕ = length places - 1 - i in
      omega (arith, part_turned e i (omega (arith, part_length)), h e (omega (arith, part_length)))

  pub chained_back : {head next : List ℕ} → length places ≤ length next
      → Linked part (length head) (length part) (λ x. get_or head x 0) (λ i. get_or next i 0) → ChainedBack places head next
  chained_back l linked =
      record { turned = part; is_turned = part_turned; linked = rw part_length at linked; next_room = l }
