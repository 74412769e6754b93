use Rattle.std.proofs.Common.{length}
use Rattle.matchings.specs.Reaching.{loose}
use Rattle.matchings.proofs.Choosing.{Best}
use Rattle.matching.specs.WorkLists.{members_of}
use Rattle.matching.proofs.placing.choose.Given as goal

abbrev pub invariant-loop-k : goal.invariant-loop-k
invariant-loop-k g l = Best (loose (g.R.Relation.allowed l.quest.rel.now) l.quest.wild l.quest.left) l.mate (members_of l.work) (length l.mate) l.k l.best l.least
