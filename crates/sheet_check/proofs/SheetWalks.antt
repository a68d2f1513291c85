-- What a walk over the spare places of a sheet tells of its spare bits, and one over its totals of these.
use mathlib.Core.Bool.{Bool, true, false}
use mathlib.Core.List.{List}
use mathlib.Core.Logic.{◌≢◌}
use mathlib.Core.Path.{ap, sym, ◌≡◌, ◌∙◌}
use Prim.Native.Nat.{ℕ, min, ◌+◌, ◌-◌, ◌*◌, ◌≤◌, ◌<◌}
use native.Mathlib.Decide.{dec_lt}
use native.Mathlib.Omega.{arith}
use lib.ListN.{length, get_or, take}
use Rattle.std.specs.Bool.{MatchBool}
use Rattle.std.specs.List.{range_with_len, zip, AllWithin, HoldsAt}
use Rattle.std.proofs.lemmas.List.{get_or-take, length-take}
use Rattle.std.proofs.lemmas.Slice.Zip.{get_or-zip, length-zip}
use Rattle.std.proofs.lemmas.List.FromFn.{get_or-range_with_len, length-range_with_len}
use Rattle.game.specs.Questions.{Decides}
use Rattle.sheet.specs.Sheet.{code_at, codes}
use Rattle.sheet_code.specs.SheetParts.{Spare, Own}
use Rattle.sheet.proofs.Codes.{code_beyond}

-- No bit is set from n on if none is at the places from n on that lie on the sheet, and only then.
module _ (n : ℕ) (sheet : List ℕ) where
  abbrev places : List ℕ
  places = range_with_len n (4 * length sheet - n)

  here : (k : ℕ) → k < length places → get_or places k 0 ≡ n + k
  here k h = get_or-range_with_len n (4 * length sheet - n) k 0 (omega (arith, h, length-range_with_len n (4 * length sheet - n)))

  pub spare_decided : (b : Bool) → MatchBool b (AllWithin (λ x. code_at sheet x ≡ 0) places 0 (length places))
      ((k : ℕ) × (k < length places) × HoldsAt (λ x. code_at sheet x ≢ 0) places k) → Decides (Spare n sheet) b
  spare_decided true clear = λ y h. go y h (dec_lt y (4 * length sheet))
    where
      go : (y : ℕ) → n ≤ y → Dec (y < 4 * length sheet) → code_at sheet y ≡ 0
      go y h (yes l) =
          let k : y - n < length places = omega (arith, length-range_with_len n (4 * length sheet - n)) in
          let e : get_or places (y - n) 0 ≡ y = here (y - n) k ∙ omega arith in
          rw e at (clear (y - n) 0 (omega arith) k)
      go y h (no l) = code_beyond sheet y (omega arith)
  spare_decided false (k, h, set) = λ spare. set 0 (spare (get_or places k 0) (omega (arith, here k h)))

-- The totals are the counts if every one that is handed over is, and only then.
module _ (counts totals : List ℕ) (room : codes ≤ length counts) where
  abbrev pairs : List (ℕ × ℕ)
  pairs = zip (take 3 counts) totals

  pairs_length : length pairs ≡ min 3 (length totals)
  pairs_length = omega (arith, length-zip (take 3 counts) totals, length-take 3 counts)

  pair : (c : ℕ) → c < codes → c < length totals → get_or pairs c (0, 0) ≡ (get_or counts c 0, get_or totals c 0)
  pair c h l =
      get_or-zip (take 3 counts) totals c (0, 0) (omega (arith, length-take 3 counts)) l
      ∙ ap (λ (a : ℕ). (a, get_or totals c 0)) (get_or-take 3 counts c 0 h)

  pub own_decided : (b : Bool) → MatchBool b (AllWithin (λ p. p.0 ≡ p.1) pairs 0 (length pairs))
      ((k : ℕ) × (k < length pairs) × HoldsAt (λ p. p.0 ≢ p.1) pairs k) → Decides (Own counts totals) b
  own_decided true same = λ c h l. sym (rw (pair c h l) at (same c (0, 0) (omega arith) (omega (arith, pairs_length))))
  own_decided false (k, h, differs) = λ own.
      let few : k < codes = omega (arith, pairs_length) in
      let there : k < length totals = omega (arith, pairs_length) in
      (rw (pair k few there) at (differs (0, 0))) (sym (own k few there))
