use Rattle.std.proofs.Common.{◌≡◌, ℕ, ◌<◌, get_or}
use Rattle.grid.specs.declared.heading.Heading.TheVariants.{Stay}
use Rattle.decklists.specs.Lists.{nobody, placed}
use Rattle.decklists.proofs.carriers.moves.rest_all.Given as goal

abbrev pub invariant-loop-halted : goal.invariant-loop-halted
invariant-loop-halted l =
    ((k : ℕ) → placed l.carriers k ≡ placed l.initial.carriers k)
    × ((k : ℕ) → k < l.halted-index → (get_or l.carriers k nobody).heading ≡ Stay)
