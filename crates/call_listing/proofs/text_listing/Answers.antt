-- `text_listing` lists the register that the solver leaves.
use mathlib.Core.Path.{◌≡◌}
use native.Mathlib.Omega.{arith}
use Rattle.std.specs.Prelude.{Ok}
use Rattle.listing.proofs.Listing.{listing_short}
use Rattle.answer.specs.Answer.{Short}
use Rattle.promises.specs.ListingCalls.{ListingIn, ListingShort}
use Rattle.answer.proofs.Inputs.{on_promised}
use Rattle.promises.proofs.OnText.{text_apart}
use Rattle.call_listing.proofs.text_listing.Goals as goal

pub write_listing-requires : goal.write_listing-requires
write_listing-requires c =
    let was : c.solve_register.result ≡ Ok c.in_ok-register.register = grind arith in
    let solved = rw was at c.solve_register.ensures in
    (solved.0, solved.2, λ l i. listing_short _ _ l solved.1 i)

pub returns : goal.returns
returns c =
    let was : c.solve_register.result ≡ Ok c.in_ok-register.register = grind arith in
    let solved = rw was at c.solve_register.ensures in
    on_promised (text_apart c.args.text.now) (λ R. Short (ListingShort c.args.room.now R)) (λ R. ListingIn R c.args.room.now)
    solved.0 solved.1 c.args.room.now c.write_listing.result c.write_listing.new.room
    (c.write_listing.ensures solved.0 solved.2 (λ l i. listing_short _ _ l solved.1 i))
