use Rattle.std.proofs.Common.{length}
use Rattle.matchingtext.specs.Classes.{one}
use Rattle.matchingtext.proofs.Splitting.{Splitting}
use Rattle.matchingtext.proofs.classes.split_by.Given as goal

abbrev pub invariant-loop-c : goal.invariant-loop-c
invariant-loop-c l = Splitting (one l.row) (length l.row) l.initial.classes l.classes l.twins l.c
