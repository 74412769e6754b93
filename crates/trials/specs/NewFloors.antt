-- Orders on a new floor, where carrier s stands on slot s: what plan they have, if any.
use Rattle.std.specs.Prelude.{◌≡◌, ℕ, List, [], ◌∷◌, map}
use Rattle.std.specs.List.{range_with_len}
use Rattle.grid.specs.Headings.{letter}
use Rattle.rules.specs.Rules.{RuleView}
use Rattle.motion.specs.Plans.{Plan, first_columns_steps, turn_steps, rows_steps, turn_back_steps, last_columns_steps, plan_steps, whole}
use Rattle.planning.specs.Assignments.{Assignment}
use Rattle.planning.specs.Planned.{Planned}
use Rattle.scripting.specs.Orders.{new_place}

-- how many steps each of the five stages has
abbrev pub stage_steps : Plan → List ℕ
stage_steps p = first_columns_steps p ∷ turn_steps p ∷ rows_steps p ∷ turn_back_steps p ∷ last_columns_steps p ∷ []

-- the letters of all carriers' headings in the step after t steps
abbrev pub step_letters : Plan → ℕ → List ℕ
step_letters p t = map (λ c. letter ((whole p).heading t c)) (range_with_len 0 p.carriers)

-- the same for every step of the plan
abbrev pub plan_letters : Plan → List (List ℕ)
plan_letters p = map (λ t. step_letters p t) (range_with_len 0 (plan_steps p))

-- there is a plan for the rule on a new floor of h by w cells, and every such plan has stages of these lengths, and this length
pub record PlanLasts (v : RuleView) (h w : ℕ) (stages : List ℕ) (steps : ℕ) : Type 0 where
  pub exists : (p : Plan) × Planned v h w (new_place w) p
  pub each_stage : (p : Plan) → Planned v h w (new_place w) p → stage_steps p ≡ stages
  pub altogether : (p : Plan) → Planned v h w (new_place w) p → plan_steps p ≡ steps

-- every such plan has these letters, step by step
abbrev pub PlanWrites : (v : RuleView) (h w : ℕ) (lines : List (List ℕ)) → Type 0
PlanWrites v h w lines = (p : Plan) → Planned v h w (new_place w) p → plan_letters p ≡ lines

-- the assignment of n slots, by their numbers, is these carriers, and no other
pub record OnlyAssignment (v : RuleView) (n : ℕ) (assignment : List ℕ) : Type 0 where
  pub assigned : Assignment v n assignment
  pub only : (other : List ℕ) → Assignment v n other → other ≡ assignment
