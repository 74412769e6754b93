use Rattle.std.proofs.Common.{length}
use Rattle.matchings.specs.Reaching.{loose}
use Rattle.matchings.specs.Placing.{Confined}
use Rattle.matchings.proofs.Phases.{Sorted}
use Rattle.matching.specs.Tables.{Kept}
use Rattle.matching.proofs.search.refine.Given as goal

abbrev pub invariant-loop-left : goal.invariant-loop-left
invariant-loop-left g l = Sorted (loose (g.R.Relation.allowed l.rel) l.n) (length l.mate) l.left l.mate
    × Confined (loose (g.R.Relation.allowed l.rel) l.n) (length l.mate) l.left l.tables.block.now l.mate
    × Kept l.initial.tables l.tables
