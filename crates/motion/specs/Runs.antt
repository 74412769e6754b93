-- One carrier's run along a line and one carrier's turn in a cell, by its progress, both seen upright: line b is
-- the three columns of squares from 3b on, the line goes down, and its middle column is the one it rests in.
use Rattle.std.specs.Prelude.{ℕ, suc, ◌+◌, ◌-◌, ◌*◌, ◌/◌, ◌%◌, min, max, Bool, cond, ◌&&◌, ◌==◌, nat_lt}
use Rattle.grid.specs.declared.heading.Heading.{Heading}
use Rattle.grid.specs.declared.heading.Heading.TheVariants.{Stay, Up, Right, Down, Left}
use Rattle.grid.specs.declared.square.Square.{Square}
use Rattle.grid.specs.Squares.{square}

-- how far it is from one row to another
abbrev pub away : ℕ → ℕ → ℕ
away from to = (from - to) + (to - from)

-- the row that is n rows on from one row to another, or that other where it is nearer
abbrev pub toward : ℕ → ℕ → ℕ → ℕ
toward from to n = max (from - n) (min to (from + n))

-- A run: aside, then along, then back into the middle column, where it stays. Who has nowhere to go only stays.

-- after p steps of a run: whether the carrier is aside of the middle column
abbrev pub aside : ℕ → ℕ → ℕ → Bool
aside from to p = nat_lt 0 (away from to) && (nat_lt 0 p && nat_lt p (away from to + 2))

-- which of the line's three columns it is in: the left one to go up, the right one to go down
abbrev pub track : ℕ → ℕ → ℕ → ℕ
track from to p = cond (aside from to p) (cond (nat_lt to from) 0 2) 1

-- its square
abbrev pub run_square : ℕ → ℕ → ℕ → ℕ → Square
run_square line from to p = square (toward from to (p - 1)) (3 * line + track from to p)

-- its heading in the step after them
abbrev pub run_heading : ℕ → ℕ → ℕ → Heading
run_heading from to p =
    cond (aside from to (suc p))
    (cond (aside from to p) (cond (nat_lt to from) Up Down) (cond (nat_lt to from) Left Right))
    (cond (aside from to p) (cond (nat_lt to from) Right Left) Stay)

-- A turn of the three carriers of a cell, from its middle column into its middle row, in two steps: the top one
-- goes left, then down, the bottom one right, then up, and the middle one stays.

-- after p steps of a turn from a row
abbrev pub turn_square : ℕ → ℕ → ℕ → Square
turn_square line row p = square (cond (nat_lt p 2) row (3 * (row / 3) + 1)) (3 * line + cond (p == 0) 1 (row % 3))

abbrev pub turn_heading : ℕ → ℕ → Heading
turn_heading row p =
    cond (row % 3 == 1) Stay
    (cond (p == 0) (cond (row % 3 == 0) Left Right) (cond (row % 3 == 0) Down Up))
