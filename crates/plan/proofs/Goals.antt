-- Goals from an assignment, slot by slot.
use Rattle.std.proofs.Common.{◌≡◌, ℕ, ◌<◌, List}
use Rattle.grid.specs.Slots.{numbered_slot}
use Rattle.matchings.specs.Matchings.{◌!◌}
use Rattle.course.specs.declared.route.Route.{Route}
use Rattle.course.specs.Routes.{route_at}
use Rattle.plan.specs.Routes.{SameStarts}

-- the carriers of the first n slots have their goals
pub record Setting (a b : List Route) (w : ℕ) (assignment : List ℕ) (n : ℕ) : Type 0 where
  pub starts : SameStarts a b
  pub goals : (s : ℕ) → s < n → (route_at b (assignment ! s)).goal ≡ numbered_slot w s
