-- `write_kinds`: the invariant is that both rooms begin with the objections passed.
use mathlib.Core.Path.{refl}
use native.Mathlib.Omega.{arith}
use Rattle.answer.proofs.Rooms.{begins_more}
use Rattle.call_kinds.proofs.write_kinds.Goals as goal

pub loop-k-preserved : goal.loop-k-preserved
loop-k-preserved c = (
  begins_more _ _ _ _ _ c.loop-k.invariant.0 (omega (arith, c.requires.rooms.0))
      (_, (c.kind_at-kind.result, c.kind_at-kind.ensures, refl), c.kind_number.ensures),
  begins_more _ _ _ _ _ c.loop-k.invariant.1 (omega (arith, c.requires.rooms.1))
      (_, (c.kind_at-kind.result, c.kind_at-kind.ensures, refl), c.kind_length.ensures),
)
