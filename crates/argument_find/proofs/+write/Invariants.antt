-- `write` puts x first, and the line of the next objector into the rest of the room.
use Rattle.argument_find.proofs.+write.Given as goal

abbrev pub decreases-write : goal.decreases-write
decreases-write l = l.turns
