use Rattle.std.proofs.Common.{ℕ, ◌<◌, get_or}
use Rattle.std.specs.Fn.{FnReturnsAt}
use Rattle.course.specs.Routes.{route_at}
use Rattle.floor.proofs.record.each.write_each.Given as goal

abbrev pub invariant-loop-carrier : goal.invariant-loop-carrier
invariant-loop-carrier g l =
    (k : ℕ) (d : _) → k < l.carrier → FnReturnsAt g.F.Fn l.ask (route_at l.routes k) (get_or l.out k d)
