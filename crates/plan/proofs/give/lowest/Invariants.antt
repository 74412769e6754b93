use Rattle.course.specs.Routes.{route_at}
use Rattle.plan.specs.Rows.{route_waits}
use Rattle.plan.proofs.Picks.{Pick}
use Rattle.plan.proofs.give.lowest.Given as goal

abbrev pub invariant-loop-c : goal.invariant-loop-c
invariant-loop-c l =
    Pick (λ c. route_waits l.row l.start l.goal (route_at l.routes c)) (λ c. (route_at l.routes c).start.row) l.c l.best l.least
