use Rattle.std.proofs.Common.{length}
use Rattle.matchings.specs.Matchings.{◌!◌}
use Rattle.matchings.specs.Reaching.{loose, Beyond}
use Rattle.matchings.proofs.Reaching.{Turn}
use Rattle.matching.specs.WorkLists.{members_of, parents_of, SameRoom}
use Rattle.matching.proofs.reaching.visit.Given as goal

abbrev pub invariant-loop-k : goal.invariant-loop-k
invariant-loop-k g l =
    Turn (loose (g.R.Relation.allowed l.quest.rel.now) l.quest.wild) (length l.mate) l.quest.fixed l.quest.left l.movable l.mate (members_of l.initial.work) l.head (members_of l.initial.work ! l.head) l.count l.k (members_of l.work) (parents_of l.work) l.marks l.tail
    × Beyond (length l.mate) l.initial.marks l.marks
    × SameRoom l.initial.work l.work
