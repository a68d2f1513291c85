-- The book of a register by numbers: one place objects to another exactly if the register has an objection of the one's number
-- against the other's. What the book means is left to `game`.
use mathlib.Core.Path.{sym, ap, refl, ◌≡◌, ◌∙◌}
use Prim.Native.Nat.{ℕ, ◌<◌}
use native.Mathlib.Omega.{arith}
use lib.ListN.{get_or, length, length-map}
use Rattle.game.specs.Book.{Objects}
use Rattle.game.proofs.HandedBook.{objects_entry}
use Rattle.register.specs.declared.ObjectionLine.{ObjectionLine}
use Rattle.register.specs.Register.{Register, Valid, book, Has, numbers, marks_of, objectors_of, targets_of, objector_numbers}
use Rattle.register.specs.Register.{target_numbers, place_of}
use Rattle.register.proofs.Order.{objectors_counted, number_there, place_first, numbers_counted, marks_counted, mapped}

module _ (R : Register) (v : Valid R) where
  pub objects_has : (y x : ℕ) → Objects (book R) y x → Has R (get_or (numbers R) y 0) (get_or (numbers R) x 0)
  objects_has y x o =
      let (l, (k, (h, a, b))) = (objects_entry (marks_of R) (objectors_of R) (targets_of R) y x).0 o in
      let h' : k < length R.objections = omega (arith, objectors_counted R v) in
      let (p, q) = v.known k h' in (
        k,
        h',
        sym (number_there R (objector_numbers R) k (omega (arith, length-map R.objections (λ (o : ObjectionLine). o.objector)))
            p)
            ∙ ap (λ j. get_or (numbers R) j 0) a,
        sym (number_there R (target_numbers R) k (omega (arith, length-map R.objections (λ (o : ObjectionLine). o.target))) q)
            ∙ ap (λ j. get_or (numbers R) j 0) b,
      )

  -- the place of a listed statement's number is its own
  own_place : (y : ℕ) → y < length (numbers R) → place_of (numbers R) (get_or (numbers R) y 0) ≡ y
  own_place y h = place_first (numbers R) (get_or (numbers R) y 0) y h refl (λ i l e. v.once i y l h e)

  pub has_objects : (y x : ℕ) → y < length (numbers R) → x < length (numbers R)
      → Has R (get_or (numbers R) y 0) (get_or (numbers R) x 0) → Objects (book R) y x
  has_objects y x l h (k, j, a, b) = (objects_entry (marks_of R) (objectors_of R) (targets_of R) y x).1 (
    omega (arith, numbers_counted R, marks_counted R v),
    (
      k,
      (
        omega (arith, objectors_counted R v),
        mapped (place_of (numbers R)) (objector_numbers R) k
            (omega (arith, length-map R.objections (λ (o : ObjectionLine). o.objector)))
            ∙ ap (place_of (numbers R)) a ∙ own_place y l,
        mapped (place_of (numbers R)) (target_numbers R) k
            (omega (arith, length-map R.objections (λ (o : ObjectionLine). o.target)))
            ∙ ap (place_of (numbers R)) b ∙ own_place x h,
      ),
    ),
  )
