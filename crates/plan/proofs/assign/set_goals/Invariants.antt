use Rattle.plan.proofs.Goals.{Setting}
use Rattle.plan.proofs.assign.set_goals.Given as goal

abbrev pub invariant-loop-number : goal.invariant-loop-number
invariant-loop-number l = Setting l.initial.routes l.routes l.sides.width l.assignment l.number
