-- The working vocabulary of the middle rows: who waits, counts by bay, and one row given out.
use Rattle.std.specs.Prelude.{◌≡◌, ℕ, ◌+◌, ◌*◌, ◌<◌, ◌≤◌, Bool, true, ◌&&◌, ◌⊎◌, List, length, ◌==◌, nat_le, slice_index}
use Rattle.grid.specs.declared.sides.Sides.{Sides}
use Rattle.grid.specs.Sides.{slot_count, row_count}
use Rattle.matchings.specs.Matchings.{count, First}
use Rattle.motion.specs.Carrying.{InSlots}
use Rattle.course.specs.declared.route.Route.{Route}
use Rattle.course.specs.Routes.{route_at}
use Rattle.planning.specs.MiddleRows.{allows, Round}
use Rattle.plan.specs.Routes.{plan_on, SameEnds}

abbrev pub middle_of : List Route → ℕ → ℕ
middle_of routes c = (route_at routes c).middle_row

-- whether a carrier that goes from bay j to bay g is not yet placed, when the rows below k are given out
abbrev pub route_waits : (k j g : ℕ) → Route → Bool
route_waits k j g r = r.start.bay == j && (r.goal.bay == g && nat_le k r.middle_row)

-- how many of the first n are such
abbrev pub waiting_routes : List Route → ℕ → (k j g : ℕ) → ℕ
waiting_routes routes n k j g = count (λ c. route_waits k j g (route_at routes c)) n

-- the counts, a row of w for each start bay, hold how many of the first n such carriers go from each bay to each
abbrev pub Tallied : List Route → (n k w : ℕ) → List ℕ → Type 0
Tallied routes n k w counts = (j g : ℕ) → j < w → g < w → slice_index counts (j * w + g) ≡ waiting_routes routes n k j g

-- all bays are below w
abbrev pub BaysBelow : ℕ → List Route → Type 0
BaysBelow w routes = (c : ℕ) → c < length routes → ((route_at routes c).start.bay < w) × ((route_at routes c).goal.bay < w)

-- all start rows are below the greatest byte
abbrev pub LowRows : List Route → Type 0
LowRows routes = (c : ℕ) → c < length routes → (route_at routes c).start.row < 255

-- c is the one of the waiting carriers from j to g with the lowest start row
pub record Lowest (routes : List Route) (k j g c : ℕ) : Type 0 where
  pub here : c < length routes
  pub waits : route_waits k j g (route_at routes c) ≡ true
  pub least :
      (d : ℕ)
      → d < length routes
      → route_waits k j g (route_at routes d) ≡ true
      → (route_at routes c).start.row ≤ (route_at routes d).start.row

-- row k is given out: who has it then waited, and all else is as it was
pub record Gave (s : Sides) (a b : List Route) (k : ℕ) (matching : List ℕ) : Type 0 where
  pub ends : SameEnds a b
  pub changed :
      (c : ℕ)
      → c < length a
      → (middle_of b c ≡ middle_of a c) ⊎ ((k ≤ middle_of a c) × (middle_of b c ≡ k))
  pub round : Round (plan_on s b) k matching

-- nobody is placed: each has the middle row r
pub record Unplaced (a b : List Route) (r : ℕ) : Type 0 where
  pub ends : SameEnds a b
  pub all : (c : ℕ) → c < length a → middle_of b c ≡ r

-- starts and goals are all slots of the floor
pub record Whole (s : Sides) (routes : List Route) : Type 0 where
  pub many : length routes ≡ slot_count s.height s.width
  pub starts : InSlots (plan_on s routes) (plan_on s routes).start
  pub goals : InSlots (plan_on s routes) (plan_on s routes).goal

-- the middle rows are given out by first perfect matchings
pub record FirstRows (s : Sides) (routes : List Route) : Type 0 where
  pub below : (c : ℕ) → c < length routes → middle_of routes c < row_count s.height
  pub matchings : ℕ → List ℕ
  pub rounds : (k : ℕ) → k < row_count s.height → Round (plan_on s routes) k (matchings k)
  pub first : (k : ℕ) → k < row_count s.height → First (allows (plan_on s routes) k) s.width (matchings k)
