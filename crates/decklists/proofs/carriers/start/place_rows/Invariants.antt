use Rattle.std.proofs.Common.{◌≡◌, ℕ, ◌*◌, ◌<◌, get_or}
use Rattle.decklists.specs.Lists.{nobody}
use Rattle.decklists.specs.Started.{resting_on}
use Rattle.decklists.proofs.carriers.start.place_rows.Given as goal

abbrev pub invariant-loop-row : goal.invariant-loop-row
invariant-loop-row l = (s : ℕ) → s < l.row * l.sides.width → get_or l.carriers s nobody ≡ resting_on l.laying l.sides.width s
