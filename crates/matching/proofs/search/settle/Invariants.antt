use Rattle.std.proofs.Common.{◌≡◌, length}
use Rattle.matchings.specs.Reaching.{loose}
use Rattle.matchings.specs.Placing.{Held}
use Rattle.matching.specs.Tables.{Kept}
use Rattle.matching.proofs.search.settle.Given as goal

abbrev pub invariant-loop-next : goal.invariant-loop-next
invariant-loop-next g l = Held (loose (g.R.Relation.allowed l.rel) l.next) (length l.mate) l.mate × (l.tables.block.now ≡ l.initial.tables.block.now) × Kept l.initial.tables l.tables
