-- The numbers of the refusals of reading and writing.
use Rattle.std.specs.Prelude.{ℕ}
use Rattle.orderfile.specs.declared.fault.OrderFault.{OrderFault}
use Rattle.orderfile.specs.declared.fault.OrderFault.TheVariants.{BadSides, BadLength, BadMark, BadVersion, NoRule, BadEntry, NoRoom, NoMemory}

abbrev pub order_fault_number : OrderFault → ℕ
order_fault_number BadSides = 1
order_fault_number BadLength = 31
order_fault_number BadMark = 32
order_fault_number BadVersion = 33
order_fault_number NoRule = 34
order_fault_number BadEntry = 35
order_fault_number NoRoom = 36
order_fault_number NoMemory = 47
