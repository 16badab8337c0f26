-- `streams::write_whole` ends: each write takes bytes.
use Rattle.std.proofs.Common.{length}
use Rattle.streams.proofs.write_whole.Given as goal

abbrev pub decreases-loop-left : goal.decreases-loop-left
decreases-loop-left g l = length l.left
