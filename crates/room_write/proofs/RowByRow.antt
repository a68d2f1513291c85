-- Rows put into a room one by one.
use mathlib.Core.List.{List, ◌++◌}
use mathlib.Core.Path.{subst, sym, ◌≡◌}
use Prim.Native.Nat.{ℕ, ◌+◌, ◌<◌}
use native.Mathlib.Omega.{arith}
use lib.ListN.{length}
use Rattle.register.specs.Texts.{rows_to}
use Rattle.room_write.specs.Writing.{RoomFor, Put}
use Rattle.room_write.proofs.Writing.{put_behind}
use Rattle.register.proofs.TextRows.{row_more, rows_fewer, rows_longer}

module _ (room : List ℕ) (at : ℕ) where
  -- one row more
  pub row_put : (row : ℕ → List ℕ) (n : ℕ) {end end' : ℕ} {room' room'' u : List ℕ} → RoomFor room at (rows_to (n + 1) row)
      → Put room at (rows_to n row) end room' → u ≡ row n → Put room' end u end' room''
      → Put room at (rows_to (n + 1) row) end' room''
  row_put row n {end} {end'} {room'} {room''} {u} h a e b =
      let k : RoomFor room at (rows_to n row ++ row n) = subst (RoomFor room at) (row_more row n) h in
      subst (λ w. Put room at w end' room'') (sym (row_more row n))
      (put_behind room at (rows_to n row) (row n) k a (subst (λ w. Put room' end w end' room'') e b))

  -- what fits all rows fits those up to the next one, and the next one behind those that were put
  pub rows_fit : (row : ℕ → List ℕ) (n m : ℕ) → n < m → RoomFor room at (rows_to m row) → RoomFor room at (rows_to (n + 1) row)
  rows_fit row n m l h = omega (arith, rows_fewer row (n + 1) m (omega arith))

  pub row_fits : (row : ℕ → List ℕ) (n m : ℕ) {end : ℕ} {room' : List ℕ} → n < m → RoomFor room at (rows_to m row)
      → Put room at (rows_to n row) end room' → length room' ≡ length room → RoomFor room' end (row n)
  row_fits row n m l h a e = omega (arith, a.ends, rows_longer row n, rows_fewer row (n + 1) m (omega arith))
