-- What it is to make a plan: the plan of the rule is in the routes, or the rule is blocked.
use Rattle.std.specs.Prelude.{◌≡◌, ℕ, List, Result, Ok, Err, ⊤}
use Rattle.grid.specs.declared.sides.Sides.{Sides}
use Rattle.grid.specs.declared.square.Square.{Square}
use Rattle.grid.specs.Sides.{slot_count}
use Rattle.grid.specs.Slots.{slot_square}
use Rattle.rules.specs.Rules.{RuleView}
use Rattle.motion.specs.Plans.{Plan}
use Rattle.course.specs.declared.route.Route.{Route}
use Rattle.course.specs.Routes.{route_at}
use Rattle.planning.specs.Assignments.{Assignment, AssignedGoals, Blocked}
use Rattle.planning.specs.Planned.{Planned}
use Rattle.planning.specs.Theorems.{Shuffled}
use Rattle.plan.specs.Routes.{plan_on, SameStarts}
use Rattle.plan.specs.declared.make.Unfillable.{Unfillable}

-- the square that each carrier's start is
abbrev pub start_square : List Route → ℕ → Square
start_square routes c = slot_square (route_at routes c).start

-- the routes were a and are b
abbrev pub Answered : RuleView → Sides → (a b : List Route) → Result ⊤ Unfillable → Type 0
Answered v s a b (Ok _) = SameStarts a b × Planned v s.height s.width (start_square a) (plan_on s b) × Shuffled (plan_on s b)
Answered v s a b (Err _) = (b ≡ a) × Blocked v (slot_count s.height s.width)

-- the goals are those of the assignment
pub record Assigned (v : RuleView) (p : Plan) : Type 0 where
  pub assignment : List ℕ
  pub first : Assignment v p.carriers assignment
  pub goals : AssignedGoals p assignment
