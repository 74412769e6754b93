-- The numbers of the floor's refusals.
use Rattle.std.specs.Prelude.{ℕ}
use Rattle.chain.specs.declared.fault.FloorFault.{FloorFault}
use Rattle.chain.specs.declared.fault.FloorFault.TheVariants.{BadSides, WrongDeck, OffSlot, FewMarks, DirtyMarks, Unfinished, Astray, WrongRule, Unfillable, NoNextMove, GoRefused, NoLastMove, NoRoom, NoMemory}

abbrev pub floor_fault_number : FloorFault → ℕ
floor_fault_number BadSides = 1
floor_fault_number WrongDeck = 2
floor_fault_number OffSlot = 3
floor_fault_number FewMarks = 4
floor_fault_number DirtyMarks = 5
floor_fault_number Unfinished = 6
floor_fault_number Astray = 7
floor_fault_number WrongRule = 8
floor_fault_number Unfillable = 9
floor_fault_number NoNextMove = 10
floor_fault_number GoRefused = 11
floor_fault_number NoLastMove = 12
floor_fault_number NoRoom = 36
floor_fault_number NoMemory = 47
