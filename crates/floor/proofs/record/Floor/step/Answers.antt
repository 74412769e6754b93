use Rattle.std.proofs.Common.{refl, arith}
use Rattle.chain.specs.Calls.{StepRefused}
use Rattle.floor.proofs.Records.{unchanged}
use Rattle.floor.proofs.Moves.{stepped_by}
use Rattle.floor.proofs.record.Floor.step.Goals as goal

pub returns-then-step-total : goal.returns-then-step-total
returns-then-step-total g c = (StepRefused.no_next_move (omega arith) (unchanged _), refl)

pub returns : goal.returns
returns g c = stepped_by _ _ _ _ _ (omega arith) c.move_on.ensures
