use Rattle.std.proofs.Common.{arith}
use Rattle.plan.proofs.Picks.{picked}
use Rattle.plan.proofs.give.lowest.Goals as goal

pub returns : goal.returns
returns c = picked _ _ _ _ _ _ _ c.requires.rows c.requires.some (omega arith) c.loop-c.invariant
