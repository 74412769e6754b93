use Rattle.std.proofs.Common.{arith}
use Rattle.motion.proofs.Whole.{plans_are_carried}
use Rattle.motion.proofs.longest_plan.Goals as goal

pub returns : goal.returns
returns c = record { bound = omega arith; carried = plans_are_carried }
