-- `read_all`: the invariant is that the bytes read are within the room. Each read brings at least one more.
use Rattle.std.proofs.Common.{length, ◌-◌, ◌≤◌}
use Rattle.program_stream.proofs.read_all.Given as goal

abbrev pub invariant-loop-done : goal.invariant-loop-done
invariant-loop-done l = l.done ≤ length l.room

abbrev pub decreases-loop-done : goal.decreases-loop-done
decreases-loop-done l = length l.initial.room - l.done
