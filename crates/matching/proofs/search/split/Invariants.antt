use Rattle.std.proofs.Common.{map}
use Rattle.matchings.specs.Placing.{Split}
use Rattle.matching.specs.WorkLists.{member_of}
use Rattle.matching.proofs.search.split.Given as goal

abbrev pub invariant-loop-entry : goal.invariant-loop-entry
invariant-loop-entry l = Split (map member_of l.at_hand) l.entry-index l.label l.initial.block l.block
