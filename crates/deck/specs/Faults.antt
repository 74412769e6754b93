-- The numbers of a deck's refusals.
use Rattle.std.specs.Prelude.{ℕ}
use Rattle.deck.specs.declared.fault.DeckFault.{DeckFault}
use Rattle.deck.specs.declared.fault.DeckFault.TheVariants.{NotReady, OffFloor, SharedSquare, Exchange, NoCarrier, NoHeading}

abbrev pub fault_number : DeckFault → ℕ
fault_number NotReady = 21
fault_number OffFloor = 22
fault_number SharedSquare = 23
fault_number Exchange = 24
fault_number NoCarrier = 25
fault_number NoHeading = 26
