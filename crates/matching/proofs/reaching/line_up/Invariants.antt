use Rattle.std.proofs.Common.{◌+◌, length}
use Rattle.matchings.specs.Reaching.{Lined}
use Rattle.matching.specs.WorkLists.{members_of, SameRoom}
use Rattle.matching.proofs.reaching.line_up.Given as goal

abbrev pub invariant-loop-k : goal.invariant-loop-k
invariant-loop-k g l = Lined (length l.block) l.fixed l.block l.left (l.fixed + l.k) l.count (members_of l.work) × SameRoom l.initial.work l.work
