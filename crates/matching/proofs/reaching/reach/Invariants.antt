use Rattle.std.proofs.Common.{◌-◌, ◌≤◌, length}
use Rattle.matchings.specs.Reaching.{loose, Movable, Same, Reached, Closed, Beyond, Noted}
use Rattle.matching.specs.WorkLists.{members_of, parents_of, SameRoom}
use Rattle.matching.proofs.reaching.reach.Given as goal

abbrev pub invariant-loop-head : goal.invariant-loop-head
invariant-loop-head g l =
    Reached (loose (g.R.Relation.allowed l.quest.rel.now) l.quest.wild) (length l.mate) l.quest.fixed l.quest.left l.mate (members_of l.work) (parents_of l.work) l.marks l.tail
    × Closed (loose (g.R.Relation.allowed l.quest.rel.now) l.quest.wild) l.movable l.mate (members_of l.work) l.marks l.head
    × (l.head ≤ l.tail)
    × Beyond (length l.mate) l.initial.marks l.marks
    × Movable (length l.mate) l.quest.fixed l.movable (members_of l.work)
    × Same l.movable (members_of l.initial.work) (members_of l.work)
    × (l.tail ≤ l.movable)
    × SameRoom l.initial.work l.work
    × Noted (g.R.Relation.classes l.quest.rel.now) l.mate (members_of l.work) l.head l.notes.seen.now
    × (l.asked ≤ l.tail)

abbrev pub decreases-loop-head : goal.decreases-loop-head
decreases-loop-head g l = length l.mate - l.head
