-- The stages by name: which motion each is, how many steps each has, and in which one a plan stands.
use Rattle.std.specs.Prelude.{◌≡◌, ℕ, ◌+◌, ◌<◌}
use Rattle.grid.specs.declared.heading.Heading.{Heading}
use Rattle.grid.specs.declared.square.Square.{Square}
use Rattle.motion.specs.Motions.{Motion}
use Rattle.motion.specs.Plans.{Plan, first_columns, turning, rows, turning_back, last_columns, first_columns_steps, turn_steps, rows_steps, turn_back_steps, last_columns_steps}
use Rattle.course.specs.declared.stage.Stage.{Stage}
use Rattle.course.specs.declared.stage.Stage.TheVariants.{FirstColumns, Turn, Rows, TurnBack, LastColumns}
use Rattle.course.specs.declared.stage.Moment.{Moment}
use Rattle.course.specs.declared.stage.Stages.{Stages}

abbrev pub motion_of : Stage → Plan → Motion
motion_of FirstColumns p = first_columns p
motion_of Turn p = turning p
motion_of Rows p = rows p
motion_of TurnBack p = turning_back p
motion_of LastColumns p = last_columns p

-- where a plan's carriers are at a moment, and where they are headed
abbrev pub place_when : Moment → Plan → ℕ → Square
place_when m p c = (motion_of m.stage p).place m.progress c

abbrev pub heading_when : Moment → Plan → ℕ → Heading
heading_when m p c = (motion_of m.stage p).heading m.progress c

-- one motion after t steps is as another after u steps
pub record Alike (a : Motion) (t : ℕ) (b : Motion) (u : ℕ) : Type 0 where
  pub place : (c : ℕ) → a.place t c ≡ b.place u c
  pub heading : (c : ℕ) → a.heading t c ≡ b.heading u c

-- these are the plan's stages
pub record Staged (p : Plan) (s : Stages) : Type 0 where
  pub first_columns : s.first_columns ≡ first_columns_steps p
  pub turn : s.turn ≡ turn_steps p
  pub rows : s.rows ≡ rows_steps p
  pub turn_back : s.turn_back ≡ turn_back_steps p
  pub last_columns : s.last_columns ≡ last_columns_steps p

-- the steps of all stages together
abbrev pub total_steps : Stages → ℕ
total_steps s = s.first_columns + s.turn + s.rows + s.turn_back + s.last_columns

-- the steps of the stages before one
abbrev pub steps_before : Stages → Stage → ℕ
steps_before s FirstColumns = 0
steps_before s Turn = s.first_columns
steps_before s Rows = s.first_columns + s.turn
steps_before s TurnBack = s.first_columns + s.turn + s.rows
steps_before s LastColumns = s.first_columns + s.turn + s.rows + s.turn_back

-- the next step is one of the stage's own; when all are made, the plan stands at the end of its last stage
abbrev pub Unfinished : Stages → Stage → ℕ → Type 0
Unfinished s FirstColumns progress = progress < s.first_columns
Unfinished s Turn progress = progress < s.turn
Unfinished s Rows progress = progress < s.rows
Unfinished s TurnBack progress = progress < s.turn_back
Unfinished s LastColumns progress = Unit {0}

-- after so many steps in all a plan with these stages stands in one stage, and has made so many steps of it
pub record Standing (s : Stages) (step : ℕ) (stage : Stage) (progress : ℕ) : Type 0 where
  pub made : step ≡ steps_before s stage + progress
  pub unfinished : Unfinished s stage progress
