-- What holds of the plan of every order: the statements of the theorems.
use Rattle.std.specs.Prelude.{◌≡◌, ℕ, ◌<◌, Bool, List}
use Rattle.grid.specs.declared.square.Square.{Square}
use Rattle.grid.specs.Sides.{row_count, slot_count}
use Rattle.rules.specs.Rules.{RuleView}
use Rattle.matchings.specs.Matchings.{Blocks}
use Rattle.matchings.specs.Regular.{RegularCounts}
use Rattle.motion.specs.Plans.{Plan, first_columns_steps, turn_steps, rows_steps, turn_back_steps, last_columns_steps, plan_steps}
use Rattle.motion.specs.Carrying.{InSlots, Good, Carried}
use Rattle.planning.specs.MiddleRows.{allows, Round}
use Rattle.planning.specs.Planned.{Planned, Apart, Agreeing, Shuffle}

-- two plans have stages of the same lengths, and so the same length
pub record SameSteps (p q : Plan) : Type 0 where
  pub first_columns : first_columns_steps q ≡ first_columns_steps p
  pub turn : turn_steps q ≡ turn_steps p
  pub rows : rows_steps q ≡ rows_steps p
  pub turn_back : turn_back_steps q ≡ turn_back_steps p
  pub last_columns : last_columns_steps q ≡ last_columns_steps p
  pub whole : plan_steps q ≡ plan_steps p

-- the rule and the squares determine the plan
abbrev pub PlanIsUnique : Type 0
PlanIsUnique =
    (v : RuleView) (h w : ℕ) (place : ℕ → Square) (p q : Plan)
    → Apart (slot_count h w) place
    → Planned v h w place p
    → Planned v h w place q
    → Agreeing p q × SameSteps p q

-- the plan is a column-row-column shuffle, and so it is good and is carried out
pub record Shuffled (p : Plan) : Type 0 where
  pub shuffle : Shuffle p
  pub good : Good p
  pub carried : Carried p

abbrev pub PlanShuffles : Type 0
PlanShuffles =
    (v : RuleView) (h w : ℕ) (place : ℕ → Square) (p : Plan)
    → Apart (slot_count h w) place
    → Planned v h w place p
    → Shuffled p

-- When the rows below k are given out, by any perfect matchings, each bay has as many carriers not yet placed as rows
-- are left, by starts and by goals: the counts by bay are regular, so no bays block, and row k has a matching.
abbrev pub MatchingsNeverBlock : Type 0
MatchingsNeverBlock =
    (p : Plan)
    → p.carriers ≡ slot_count p.height p.width
    → InSlots p p.start
    → InSlots p p.goal
    → (k : ℕ)
    → k < row_count p.height
    → (matchings : ℕ → List ℕ)
    → ((m : ℕ) → m < k → Round p m (matchings m))
    → RegularCounts (allows p k) p.width × ((bays : ℕ → Bool) → Blocks (allows p k) p.width bays → ⊥)
