use Rattle.matchingtext.proofs.Splitting.{Alike}
use Rattle.matchingtext.proofs.classes.find_classes.Given as goal

abbrev pub invariant-loop-left : goal.invariant-loop-left
invariant-loop-left l = Alike l.table.rows.now l.table.count l.left l.classes
