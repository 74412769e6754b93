use Rattle.plan.specs.Rows.{Tallied}
use Rattle.plan.proofs.middles.tally.Given as goal

abbrev pub invariant-loop-route : goal.invariant-loop-route
invariant-loop-route l = Tallied l.routes l.route-index l.row l.bays l.counts
