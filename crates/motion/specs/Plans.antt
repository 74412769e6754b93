-- Plans: what they give, how long their five stages last, and the motion that carries them out.
use Rattle.std.specs.Prelude.{ℕ, zero, suc, ◌+◌, ◌*◌, ◌/◌, ◌%◌, max, cond, ◌==◌}
use Rattle.grid.specs.declared.slot.Slot.{Slot}
use Rattle.motion.specs.Runs.{away}
use Rattle.motion.specs.Motions.{Motion, and_then, across, run, turn}

-- Each carrier's start, middle row and goal, on a floor so many cells high and wide. Only what is said of numbers
-- below `carriers` counts.
pub record Plan : Type 0 where
  pub height : ℕ
  pub width : ℕ
  pub carriers : ℕ
  pub start : ℕ → Slot
  pub middle : ℕ → ℕ
  pub goal : ℕ → Slot

abbrev pub start_row : Plan → ℕ → ℕ
start_row p c = (p.start c).row

abbrev pub start_bay : Plan → ℕ → ℕ
start_bay p c = (p.start c).bay

abbrev pub goal_row : Plan → ℕ → ℕ
goal_row p c = (p.goal c).row

abbrev pub goal_bay : Plan → ℕ → ℕ
goal_bay p c = (p.goal c).bay

-- Between the turns a carrier goes along its row of cells. If its middle row is row i of its cell, i = 0, 1, 2, it
-- leaves its start bay's cell from column i, and comes to column i of its goal bay's cell.

abbrev pub cell_row : Plan → ℕ → ℕ
cell_row p c = p.middle c / 3

abbrev pub start_column : Plan → ℕ → ℕ
start_column p c = 3 * start_bay p c + p.middle c % 3

abbrev pub goal_column : Plan → ℕ → ℕ
goal_column p c = 3 * goal_bay p c + p.middle c % 3

-- How many steps each stage has.

-- the greatest of f 0 .. f (n - 1), 0 where there is none
unfoldable pub greatest : ℕ → (ℕ → ℕ) → ℕ
greatest zero f = 0
greatest (suc n) f = max (f n) (greatest n f)

-- runs together last two steps more than the longest way is long, and none where nobody has any way to go
abbrev pub run_steps : ℕ → ℕ
run_steps longest = cond (longest == 0) 0 (longest + 2)

-- how far the furthest of n carriers goes
abbrev pub furthest : ℕ → (ℕ → ℕ) → (ℕ → ℕ) → ℕ
furthest n from to = greatest n (λ c. away (from c) (to c))

abbrev pub first_columns_steps : Plan → ℕ
first_columns_steps p = run_steps (furthest p.carriers (start_row p) p.middle)

-- a turn has two steps, and is left out where no carrier changes its bay
abbrev pub turn_steps : Plan → ℕ
turn_steps p = cond (furthest p.carriers (start_bay p) (goal_bay p) == 0) 0 2

-- (0 too where no carrier changes its bay: then each goal column is the start column)
abbrev pub rows_steps : Plan → ℕ
rows_steps p = run_steps (furthest p.carriers (start_column p) (goal_column p))

abbrev pub turn_back_steps : Plan → ℕ
turn_back_steps p = turn_steps p

abbrev pub last_columns_steps : Plan → ℕ
last_columns_steps p = run_steps (furthest p.carriers p.middle (goal_row p))

-- The five stages.

-- each carrier in its start bay, from its start row to its middle row
abbrev pub first_columns : Plan → Motion
first_columns p = run (start_bay p) (start_row p) p.middle (first_columns_steps p)

abbrev pub turning : Plan → Motion
turning p = turn (start_bay p) p.middle (turn_steps p)

-- each carrier in its row of cells, from its start bay to its goal bay
abbrev pub rows : Plan → Motion
rows p = across (run (cell_row p) (start_column p) (goal_column p) (rows_steps p))

abbrev pub turning_back : Plan → Motion
turning_back p = across (turn (cell_row p) (goal_column p) (turn_back_steps p))

-- each carrier in its goal bay, from its middle row to its goal row
abbrev pub last_columns : Plan → Motion
last_columns p = run (goal_bay p) p.middle (goal_row p) (last_columns_steps p)

-- all five, one after the other; one that is left out has no steps
unfoldable pub whole : Plan → Motion
whole p = and_then (first_columns p) (and_then (turning p) (and_then (rows p) (and_then (turning_back p) (last_columns p))))

-- the plan's length
abbrev pub plan_steps : Plan → ℕ
plan_steps p = (whole p).steps
