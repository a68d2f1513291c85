-- `put_field` puts the tab, and the number behind it.
use mathlib.Core.List.{[], ◌∷◌}
use Rattle.room_write.proofs.Writing.{put_behind}
use Rattle.catalogue_write.proofs.put_field.Goals as goal

pub returns : goal.returns
returns c = put_behind _ _ (9 ∷ []) _ c.requires.room_for c.put_word-number_at.ensures c.put_number.ensures
