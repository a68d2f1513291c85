-- Bytes put into a room: behind bytes that were put, more bytes are put as if all were put at once.
use mathlib.Core.List.{List, append_assoc, [], ◌∷◌, ◌++◌}
use mathlib.Core.Path.{ap, sym, refl, ◌≡◌, ◌∙◌}
use Prim.Native.Nat.{ℕ, suc, ◌+◌, ◌<◌}
use native.Mathlib.Nat.{add-zero}
use native.Mathlib.Numerals.{add-one}
use native.Mathlib.Omega.{arith}
use lib.ListN.{length, take, length-append, drop, take-append-drop, set, get_or}
use lib.Seq.{length-take-le, take_at, drop-append-add, drop-drop, drop-cons, set_at}
use Rattle.room_write.specs.Writing.{RoomFor, room_with, Put}

-- what stands in a written room up to the end of the bytes
module _ (room : List ℕ) (at : ℕ) (p : List ℕ) (fits : RoomFor room at p) where
  front_length : length (take at room ++ p) ≡ at + length p
  front_length = length-append (take at room) p ∙ ap (λ n. n + length p) (length-take-le at room (omega arith))

  parted : room_with room at p ≡ (take at room ++ p) ++ drop (at + length p) room
  parted = sym (append_assoc (take at room) p (drop (at + length p) room))

  front : take (at + length p) (room_with room at p) ≡ take at room ++ p
  front = ap (take (at + length p)) parted ∙ take_at (take at room ++ p) (drop (at + length p) room) (at + length p) front_length

  behind : (n : ℕ) → drop ((at + length p) + n) (room_with room at p) ≡ drop ((at + length p) + n) room
  behind n =
      ap (drop ((at + length p) + n)) parted ∙ ap (λ k. drop (k + n) ((take at room ++ p) ++ drop (at + length p) room))
      (sym front_length)
      ∙ drop-append-add (take at room ++ p) (drop (at + length p) room) n ∙ drop-drop n (at + length p) room

  written_more : (q : List ℕ) → room_with (room_with room at p) (at + length p) q ≡ room_with room at (p ++ q)
  written_more q =
      ap (λ u. u ++ (q ++ drop ((at + length p) + length q) (room_with room at p))) front
      ∙ ap (λ u. (take at room ++ p) ++ (q ++ u)) (behind (length q))
      ∙ append_assoc (take at room) p (q ++ drop ((at + length p) + length q) room)
      ∙ ap (λ u. take at room ++ u) (sym (append_assoc p q (drop ((at + length p) + length q) room)))
      ∙ ap (λ n. take at room ++ ((p ++ q) ++ drop n room)) (let e : (at + length p) + length q ≡ at + length (p ++ q) = omega
      (arith, length-append p q) in e)

  -- more bytes behind those that were put
  pub put_more : {end : ℕ} {room' : List ℕ} (q : List ℕ) {end' : ℕ} {room'' : List ℕ} → Put room at p end room'
      → Put room' end q end' room'' → Put room at (p ++ q) end' room''
  put_more {end} {room'} q {end'} {room''} a b = record {
    ends = omega (arith, a.ends, b.ends, length-append p q);
    is = b.is ∙ ap (λ u. room_with u end q) a.is ∙ ap (λ n. room_with (room_with room at p) n q) a.ends ∙ written_more q;
  }

pub put_none : (room : List ℕ) (at : ℕ) → Put room at [] at room
put_none room at = record { ends = omega arith; is = sym (rw add-zero (take-append-drop at room)) }

-- one byte stored
pub put_one : (room : List ℕ) (at b : ℕ) → at < length room → Put room at (b ∷ []) (at + 1) (set room at b)
put_one room at b h = record { ends = refl; is = stored }
  where
    stored : set room at b ≡ room_with room at (b ∷ [])
    stored =
        ap (λ l. set l at b) (sym (take-append-drop at room) ∙ ap (λ u. take at room ++ u) (drop-cons room at 0 h))
        ∙ set_at (take at room) (get_or room at 0) (drop (suc at) room) b at (length-take-le at room (omega arith))
        ∙ ap (λ n. take at room ++ (b ∷ drop n room)) (sym (add-one at))

-- Two pieces, one behind the other.
module _ (room : List ℕ) (at : ℕ) where
  -- what fits with more behind it fits by itself
  pub fits_before : (p q : List ℕ) → RoomFor room at (p ++ q) → RoomFor room at p
  fits_before p q h = omega (arith, length-append p q)

  pub put_behind : (p q : List ℕ) {end end' : ℕ} {room' room'' : List ℕ} → RoomFor room at (p ++ q) → Put room at p end room'
      → Put room' end q end' room'' → Put room at (p ++ q) end' room''
  put_behind p q h a b = put_more room at p (fits_before p q h) q a b

-- what was put at the start of a room
pub put_start : (room l : List ℕ) {end : ℕ} {room' : List ℕ} → Put room 0 l end room' → (end ≡ length l)
    × (room' ≡ l ++ drop (length l) room)
put_start room l put =
    (omega (arith, put.ends), put.is ∙ ap (λ n. l ++ drop n room) (let e : 0 + length l ≡ length l = omega arith in e))
