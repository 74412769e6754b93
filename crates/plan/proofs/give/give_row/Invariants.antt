use Rattle.plan.proofs.Gives.{Given as Done}
use Rattle.plan.proofs.give.give_row.Given as goal

abbrev pub invariant-loop-bay : goal.invariant-loop-bay
invariant-loop-bay l = Done l.initial.routes l.routes l.row l.matching l.bay
