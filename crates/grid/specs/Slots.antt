-- Slots: the squares in which carriers rest, and their numbers.
use Rattle.std.specs.Prelude.{ℕ, ◌+◌, ◌*◌, ◌/◌, ◌%◌}
use Rattle.grid.specs.declared.slot.Slot.{Slot}
use Rattle.grid.specs.declared.square.Square.{Square}
use Rattle.grid.specs.Squares.{square}

abbrev pub slot : ℕ → ℕ → Slot
slot r b = record { row = r; bay = b }

-- bay b is the column of squares 3b + 1
abbrev pub slot_square : Slot → Square
slot_square s = square s.row (3 * s.bay + 1)

-- on a floor of w bays
abbrev pub slot_number : ℕ → Slot → ℕ
slot_number w s = w * s.row + s.bay

-- the slot of a number, on a floor of w bays: the inverse of slot_number
abbrev pub numbered_slot : ℕ → ℕ → Slot
numbered_slot w n = slot (n / w) (n % w)
