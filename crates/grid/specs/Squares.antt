-- Squares of a floor, and where a heading leads from one.
use Rattle.std.specs.Prelude.{ℕ, ◌+◌, ◌-◌, ◌<◌}
use Rattle.grid.specs.declared.heading.Heading.{Heading}
use Rattle.grid.specs.declared.heading.Heading.TheVariants.{Stay, Up, Right, Down, Left}
use Rattle.grid.specs.declared.square.Square.{Square}

abbrev pub square : ℕ → ℕ → Square
square r c = record { row = r; column = c }

abbrev pub OnFloor : ℕ → ℕ → Square → Type 0
OnFloor rows columns s = (s.row < rows) × (s.column < columns)

-- the square that a heading leads to, of a carrier that remains on the floor
abbrev pub led : Square → Heading → Square
led s Stay = s
led s Up = square (s.row - 1) s.column
led s Right = square s.row (s.column + 1)
led s Down = square (s.row + 1) s.column
led s Left = square s.row (s.column - 1)

-- a carrier on s with that heading remains on a floor of so many rows and columns
abbrev pub Remains : ℕ → ℕ → Square → Heading → Type 0
Remains rows columns s Stay = Unit {0}
Remains rows columns s Up = 0 < s.row
Remains rows columns s Right = s.column + 1 < columns
Remains rows columns s Down = s.row + 1 < rows
Remains rows columns s Left = 0 < s.column

-- where rows and columns are exchanged
abbrev pub turned_square : Square → Square
turned_square s = square s.column s.row
