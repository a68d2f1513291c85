-- `enter` puts the new place into the free slot to which its number leads.
use native.Mathlib.Omega.{arith}
use Rattle.register_index.proofs.Index.{slot_within, indexed_more}
use Rattle.register_index.proofs.enter.Goals as goal

pub offset_bounds-index-s : goal.offset_bounds-index-s
offset_bounds-index-s c = omega (
  arith,
  slot_within _ _ _ _ _ c.requires.0 c.requires.1 c.free_slot-s.ensures,
  c.requires.0.links_room,
)

pub bounds-index-s : goal.bounds-index-s
bounds-index-s c = slot_within _ _ _ _ _ c.requires.0 c.requires.1 c.free_slot-s.ensures

pub returns-clause-indexed : goal.returns-clause-indexed
returns-clause-indexed c = indexed_more _ _ _ _ _ c.requires.0 c.requires.1 c.free_slot-s.ensures
