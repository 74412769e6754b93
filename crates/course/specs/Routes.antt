-- The plan that a list of routes is.
use Rattle.std.specs.Prelude.{◌≡◌, ℕ, List, length, slice_index_or}
use Rattle.grid.specs.Slots.{slot}
use Rattle.motion.specs.Plans.{Plan}
use Rattle.course.specs.declared.route.Route.{Route}

-- what stands past the end of a list
abbrev pub nowhere : Route
nowhere = record { start = slot 0 0; middle_row = 0; goal = slot 0 0 }

abbrev pub route_at : List Route → ℕ → Route
route_at routes c = slice_index_or routes c nowhere

-- on a floor so many cells high and wide, the plan in which carrier c has the c-th route
abbrev pub plan_of : ℕ → ℕ → List Route → Plan
plan_of height width routes =
    record {
      height = height;
      width = width;
      carriers = length routes;
      start = λ c. (route_at routes c).start;
      middle = λ c. (route_at routes c).middle_row;
      goal = λ c. (route_at routes c).goal;
    }

-- carrier c of a plan has this route
pub record HasRoute (p : Plan) (c : ℕ) (r : Route) : Type 0 where
  pub start : p.start c ≡ r.start
  pub middle : p.middle c ≡ r.middle_row
  pub goal : p.goal c ≡ r.goal
