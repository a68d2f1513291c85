-- A room whose first entry was written, and whose rest was lent: what it holds when the rest comes back.
use mathlib.Core.List.{List, append-nil, [], ◌∷◌, ◌++◌}
use mathlib.Core.Path.{refl, ap, ◌≡◌, ◌∙◌}
use Prim.Native.Nat.{ℕ, suc, ◌-◌, ◌<◌}
use native.Mathlib.Nat.{not-suc-le-zero}
use native.Mathlib.Omega.{arith}
use lib.ListN.{length, set, drop, take, length-take, length-drop, length-set, drop_of_length-le}
use lib.Seq.{take-length}
use borrow.Rule.Slice.PartMut.{put_mid}

pub room_first : (room : List ℕ) (x : ℕ) → 0 < length room → set room 0 x ≡ (x ∷ []) ++ drop 1 room
room_first [] x h = absurd (not-suc-le-zero h)
room_first (a ∷ r) x h = refl

-- how much is lent
pub rest_length : (room : List ℕ) (x : ℕ) → length (take (length (set room 0 x) - 1) (drop 1 (set room 0 x))) ≡ length room - 1
rest_length room x = simp (length-take, length-drop, length-set) (omega arith)

pub room_rest : (room : List ℕ) (x : ℕ) (l rest : List ℕ) → 0 < length room
    → rest ≡ l ++ drop (length l) (take (length (set room 0 x) - 1) (drop 1 (set room 0 x)))
    → put_mid 1 (length (set room 0 x) - 1) (set room 0 x) rest ≡ (x ∷ l) ++ drop (length (x ∷ l)) room
room_rest [] x l rest h e = absurd (not-suc-le-zero h)
room_rest (a ∷ r) x l rest h e =
    let k : suc (length r) - 1 ≡ length r = omega arith in
    let z : drop (length r) r ≡ [] = drop_of_length-le r {i = length r} (omega arith) in
    ap (λ t. x ∷ t) (ap (λ (i : ℕ). rest ++ drop i r) k ∙ ap (λ (t : List ℕ). rest ++ t) z ∙ append-nil rest ∙ e
    ∙ ap (λ (i : ℕ). l ++ drop (length l) (take i r)) k ∙ ap (λ (t : List ℕ). l ++ drop (length l) t) (take-length r))
