-- The greatest of what the routes of a list are asked.
use Rattle.std.specs.Prelude.{ℕ, List, max, fold}
use Rattle.course.specs.declared.route.Route.{Route}

-- the greatest of what is asked of each route, 0 where there is none
abbrev pub greatest_of : (Route → ℕ) → List Route → ℕ
greatest_of answer routes = fold (λ m r. max m (answer r)) 0 routes
