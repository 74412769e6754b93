use Rattle.std.proofs.Common.{◌≡◌, ℕ, ◌<◌, get_or}
use Rattle.grid.specs.Slots.{slot}
use Rattle.decklists.specs.Lists.{nobody}
use Rattle.decklists.specs.Started.{resting_in}
use Rattle.decklists.proofs.carriers.start.place_row.Given as goal

abbrev pub invariant-loop-bay : goal.invariant-loop-bay
invariant-loop-bay l = (b : ℕ) → b < l.bay → get_or l.carriers b nobody ≡ resting_in l.laying (slot l.row b)
