-- What is kept of a list of routes while goals and middle rows are written into it.
use Rattle.std.specs.Prelude.{◌≡◌, ℕ, List, length}
use Rattle.grid.specs.declared.sides.Sides.{Sides}
use Rattle.motion.specs.Plans.{Plan}
use Rattle.course.specs.declared.route.Route.{Route}
use Rattle.course.specs.Routes.{route_at, plan_of}

-- the plan that the routes are, on a floor of these sides
abbrev pub plan_on : Sides → List Route → Plan
plan_on s routes = plan_of s.height s.width routes

-- b has as many routes as a, with the same starts
pub record SameStarts (a b : List Route) : Type 0 where
  pub long : length b ≡ length a
  pub start : (c : ℕ) → (route_at b c).start ≡ (route_at a c).start

-- and with the same goals
pub record SameEnds (a b : List Route) : Type 0 where
  pub long : length b ≡ length a
  pub start : (c : ℕ) → (route_at b c).start ≡ (route_at a c).start
  pub goal : (c : ℕ) → (route_at b c).goal ≡ (route_at a c).goal
