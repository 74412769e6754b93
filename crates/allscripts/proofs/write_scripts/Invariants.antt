use Rattle.std.proofs.Common.{length}
use Rattle.allscripts.proofs.write_scripts.Given as goal

abbrev pub decreases-loop-bytes : goal.decreases-loop-bytes
decreases-loop-bytes l = length l.rest
