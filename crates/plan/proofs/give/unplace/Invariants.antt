use Rattle.plan.proofs.Gives.{Unplacing}
use Rattle.plan.proofs.give.unplace.Given as goal

abbrev pub invariant-loop-route : goal.invariant-loop-route
invariant-loop-route l = Unplacing l.initial.routes l.routes l.rows l.route-index
