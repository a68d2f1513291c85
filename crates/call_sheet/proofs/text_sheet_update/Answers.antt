-- `text_sheet_update` hands on the labels of the text.
use mathlib.Core.List.{List}
use mathlib.Core.Path.{◌≡◌}
use Prim.Native.Nat.{ℕ}
use native.Mathlib.Omega.{arith}
use Rattle.std.specs.Prelude.{Ok}
use Rattle.register.specs.Register.{book}
use Rattle.answer.proofs.Inputs.{on_promised}
use Rattle.promises.proofs.OnText.{text_apart}
use Rattle.promises.specs.SheetCalls.{UpdateRefused, UpdatedIn}
use Rattle.call_sheet.proofs.TextLabelled.{few_listed, labels_of}
use Rattle.call_sheet.proofs.text_sheet_update.Goals as goal

pub update_rooms-requires : goal.update_rooms-requires
update_rooms-requires c =
    let was : c.solve_register.result ≡ Ok c.in_ok-register.register = grind arith in
    let solved = rw was at c.solve_register.ensures in (
      few_listed solved.0 c.in_ok-register.register solved.2,
      (book solved.0, labels_of solved.0 c.in_ok-register.register solved.2),
    )

pub returns : goal.returns
returns c = let lent : List ℕ × List ℕ = (c.args.sheet.now, c.args.totals.now) in
    let was : c.solve_register.result ≡ Ok c.in_ok-register.register = grind arith in
    let solved = rw was at c.solve_register.ensures in
    on_promised (text_apart c.args.text.now) (λ R. UpdateRefused (book R) lent) (λ R. UpdatedIn (book R) lent) solved.0
    solved.1 lent c.update_rooms.result (c.update_rooms.new.sheet, c.update_rooms.new.totals)
    (c.update_rooms.ensures (book solved.0) (labels_of solved.0 c.in_ok-register.register solved.2))
