-- The list that a new deck starts with.
use Rattle.std.specs.Prelude.{◌≡◌, ℕ, ◌<◌, List, length, slice_index_or}
use Rattle.grid.specs.declared.heading.Heading.TheVariants.{Stay}
use Rattle.grid.specs.declared.slot.Slot.{Slot}
use Rattle.grid.specs.Sides.{slot_count}
use Rattle.grid.specs.Slots.{slot_square, numbered_slot}
use Rattle.decklists.specs.declared.carrier.Carrier.{Carrier}
use Rattle.decklists.specs.declared.laying.Laying.{Laying}
use Rattle.decklists.specs.Lists.{nobody}
use Rattle.decklists.specs.Laid.{laid_square}

-- a carrier at rest in a slot
abbrev pub resting_in : Laying → Slot → Carrier
resting_in laying s = record { square = laid_square laying (slot_square s); heading = Stay }

-- a carrier at rest on the slot of a number, on a floor of w bays
abbrev pub resting_on : Laying → ℕ → ℕ → Carrier
resting_on laying w s = resting_in laying (numbered_slot w s)

-- carrier s on slot s, all at rest
pub record Started (laying : Laying) (h w : ℕ) (cs : List Carrier) : Type 0 where
  pub many : length cs ≡ slot_count h w
  pub on_slots : (s : ℕ) → s < slot_count h w → slice_index_or cs s nobody ≡ resting_on laying w s
