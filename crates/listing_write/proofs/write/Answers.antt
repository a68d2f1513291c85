-- `write` puts the three parts of the listing one behind the other.
use mathlib.Core.List.{List}
use Prim.Native.Nat.{ℕ, ◌+◌, ◌≤◌}
use native.Mathlib.Omega.{arith}
use lib.ListN.{length}
use Rattle.register.specs.Register.{Register}
use Rattle.listing.specs.Rows.{header}
use Rattle.listing.specs.Listing.{IsListing}
use Rattle.register_solve.specs.declared.labelled_register.LabelledRegister.{LabelledRegister}
use Rattle.register_solve.specs.SolvedAs.{ReadyAs}
use Rattle.listing_write.specs.ListingParts.{statements_of, objections_of, listing_of}
use Rattle.room_write.proofs.Writing.{put_start}
use Rattle.listing_write.proofs.ListingParts.{whole_length}
use Rattle.listing_write.proofs.ListingPut.{whole_put}
use Rattle.listing_write.proofs.ListingTold.{ready_listing}
use Rattle.listing_write.proofs.write.Goals as goal

-- a room for every listing of the register is one for the three parts
parts_fit : (R : Register) (r : LabelledRegister) (room : List ℕ) → ReadyAs R r
    → ((l : List ℕ) → IsListing R l → length l ≤ length room)
    → length (header (length r.numbers.now) (length r.labelled.pairs.objectors.now)) + length (statements_of r)
    + length (objections_of r) ≤ length room
parts_fit R r room ready fits = omega (
  arith,
  whole_length r.numbers.now r.labelled.labels.now r.labelled.lengths.now r.labelled.pairs.objectors.now
      r.labelled.pairs.targets.now,
  fits (listing_of r) (ready_listing R _ _ _ _ _ _ ready),
)

pub put_header-head-requires : goal.put_header-head-requires
put_header-head-requires c =
    omega (arith, parts_fit c.requires.0 c.args.register.now c.args.room.now c.requires.1 c.requires.2)

pub put_statements-statements-requires : goal.put_statements-statements-requires
put_statements-statements-requires c =
    omega (arith, parts_fit c.requires.0 c.args.register.now c.args.room.now c.requires.1 c.requires.2)

pub put_objections-requires-clause-room_for : goal.put_objections-requires-clause-room_for
put_objections-requires-clause-room_for c =
    omega (arith, parts_fit c.requires.0 c.args.register.now c.args.room.now c.requires.1 c.requires.2)

pub returns : goal.returns
returns c R ready = let r = c.args.register.now in
    let put = put_start c.args.room.now (listing_of r)
    (whole_put c.args.room.now r.numbers.now r.labelled.pairs.objectors.now r.labelled.pairs.targets.now r.labelled.labels.now
    r.labelled.lengths.now (omega (arith, c.requires.2 (listing_of r) (ready_listing c.requires.0 _ _ _ _ _ _ c.requires.1)))
    c.put_header-head.ensures c.put_statements-statements.ensures c.put_objections.ensures) in
    (listing_of r, ready_listing R _ _ _ _ _ _ ready, put.0, put.1)
