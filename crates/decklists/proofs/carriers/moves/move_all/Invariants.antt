use Rattle.std.proofs.Common.{◌≡◌, ℕ, ◌<◌, ◌≤◌, true, get_or}
use Rattle.decklists.specs.Lists.{nobody, listed}
use Rattle.decklists.proofs.Moving.{arrived}
use Rattle.decklists.proofs.carriers.moves.move_all.Given as goal

abbrev pub invariant-loop-carrier : goal.invariant-loop-carrier
invariant-loop-carrier l =
    ((k : ℕ) → k < l.carrier-index → get_or l.carriers k nobody ≡ arrived (listed l.extent l.initial.carriers true) k)
    × ((k : ℕ) → l.carrier-index ≤ k → get_or l.carriers k nobody ≡ get_or l.initial.carriers k nobody)
