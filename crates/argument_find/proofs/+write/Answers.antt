-- `write` puts x first, and the line of the next objector into the rest of the room.
use mathlib.Core.List.{[], ◌∷◌}
use native.Mathlib.Omega.{arith}
use Rattle.argument_find.proofs.Room.{room_first, rest_length, room_rest}
use Rattle.argument_find.proofs.ArgumentSteps.{line_ends, onward_there, onward_listed, onward_turns, line_goes_on}
use Rattle.argument_find.proofs.+write.Goals as goal

pub returns-then-turns-eq0 : goal.returns-then-turns-eq0
returns-then-turns-eq0 t c = (
  c.args.x ∷ [],
  line_ends _ _ _ _ _ c.args.labelled.now.pairs.handed c.requires.lists_labelled _ _ c.requires.x_in_bounds.0
      c.requires.x_in_bounds.1 c.if-turns-eq0.true,
  room_first c.args.line.now c.args.x (omega (arith, c.requires.x_in_bounds.2)),
)

pub onward-y-requires-clause-objector : goal.onward-y-requires-clause-objector
onward-y-requires-clause-objector t c =
    λ label ot.
    onward_there _ _ _ _ _ c.args.labelled.now.pairs.handed c.requires.lists_labelled _ _ c.requires.x_in_bounds.0
    c.requires.x_in_bounds.1 label ot c.if-turns-eq0.false

pub write-requires : goal.write-requires
write-requires t c =
    let (label, ot, least) = c.onward-y.ensures in (
      omega arith,
      (
        c.requires.lists_labelled,
        (
          c.requires.chains,
          (
            onward_listed _ _ _ _ _ c.args.labelled.now.pairs.handed c.requires.lists_labelled _ _ c.requires.x_in_bounds.0
                c.requires.x_in_bounds.1 label ot c.if-turns-eq0.false _ least,
            onward_turns _ _ _ _ _ c.args.labelled.now.pairs.handed c.requires.lists_labelled _ _ c.requires.x_in_bounds.0
                c.requires.x_in_bounds.1 label ot c.if-turns-eq0.false _ least,
            omega (arith, rest_length c.args.line.now c.args.x, c.requires.x_in_bounds.2),
          ),
        ),
      ),
    )

pub returns : goal.returns
returns t c =
    let (label, ot, least) = c.onward-y.ensures in
    let (l, r, e) = c.write.ensures in (
      c.args.x ∷ l,
      line_goes_on _ _ _ _ _ c.args.labelled.now.pairs.handed c.requires.lists_labelled _ _ c.requires.x_in_bounds.0
          c.requires.x_in_bounds.1 label ot c.if-turns-eq0.false _ least l r,
      room_rest c.args.line.now c.args.x l _ (omega (arith, c.requires.x_in_bounds.2)) e,
    )
