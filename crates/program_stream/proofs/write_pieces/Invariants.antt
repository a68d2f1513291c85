-- `write_pieces`: each piece brings the loop nearer to the end.
use Rattle.std.proofs.Common.{◌-◌, length}
use Rattle.program_stream.proofs.write_pieces.Given as goal

abbrev pub decreases-loop-start : goal.decreases-loop-start
decreases-loop-start g l = length l.bytes - l.start
