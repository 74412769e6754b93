use Rattle.matching.specs.Tables.{Kept}
use Rattle.plan.proofs.Gives.{Upto}
use Rattle.plan.proofs.middles.fill.Given as goal

abbrev pub invariant-loop-row : goal.invariant-loop-row
invariant-loop-row l = Upto l.sides l.initial.routes l.routes l.rows l.row × Kept l.initial.tables l.tables
