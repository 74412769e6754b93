-- How large a floor is: h cells down and w cells across, each cell 3 by 3 squares.
use Rattle.std.specs.Prelude.{ℕ, ◌*◌, ◌≤◌}

abbrev pub greatest_side : ℕ
greatest_side = 16

abbrev pub GoodSide : ℕ → Type 0
GoodSide n = (1 ≤ n) × (n ≤ greatest_side)

abbrev pub GoodSides : ℕ → ℕ → Type 0
GoodSides h w = GoodSide h × GoodSide w

abbrev pub row_count : ℕ → ℕ
row_count h = 3 * h

abbrev pub column_count : ℕ → ℕ
column_count w = 3 * w

-- a third of the squares are slots, and there is a carrier for each
abbrev pub slot_count : ℕ → ℕ → ℕ
slot_count h w = 3 * h * w
