use Rattle.chain.specs.Calls.{Clean}
use Rattle.floor.proofs.record.order.are_clean.Given as goal

abbrev pub invariant-loop-mark : goal.invariant-loop-mark
invariant-loop-mark l = Clean l.marks l.mark-index
