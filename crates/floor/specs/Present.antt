-- The slots in which the carriers are when an order comes.
use Rattle.std.specs.Prelude.{ℕ, cond, ◌==◌}
use Rattle.grid.specs.declared.slot.Slot.{Slot}
use Rattle.course.specs.declared.route.Route.{Route}

-- its start if no step is done, else its goal
abbrev pub present : ℕ → Route → Slot
present done r = cond (done == 0) r.start r.goal
