use Rattle.std.proofs.Common.{◌≡◌, ◌*◌, length}
use Rattle.decklists.specs.Carriers.{carriers_view}
use Rattle.decklists.specs.Notes.{Noted}
use Rattle.decklists.proofs.carriers.Carriers.standing.Given as goal

abbrev pub invariant-loop-k : goal.invariant-loop-k
invariant-loop-k l =
    (length l.table.items ≡ l.self.extent.columns * l.self.extent.rows) × Noted l.self.extent.columns l.k (carriers_view l.self).square l.table.items
