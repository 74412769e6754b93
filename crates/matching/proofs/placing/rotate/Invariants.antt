use Rattle.std.proofs.Common.{◌≡◌, ℕ, ◌<◌, Bool, true, List, length}
use Rattle.matchings.specs.Matchings.{◌!◌}
use Rattle.matchings.specs.Reaching.{Reached}
use Rattle.matchings.specs.Placing.{Others}
use Rattle.matchings.proofs.Rotation.{Mid}
use Rattle.matching.specs.WorkLists.{members_of, parents_of}
use Rattle.matching.proofs.placing.rotate.Given as goal

abbrev pub invariant-loop-k : goal.invariant-loop-k
invariant-loop-k l = (l.k < l.count) × (l.holder < length l.mate)
    × ((A : ℕ → ℕ → Bool) (fixed : ℕ) (marks : List ℕ) → Reached A (length l.initial.mate) fixed l.left l.initial.mate (members_of l.work) (parents_of l.work) marks l.count
    → Others A (length l.initial.mate) l.left l.initial.mate → A l.left (l.initial.mate ! (members_of l.work ! l.start)) ≡ true
    → Mid A (length l.initial.mate) fixed l.left l.initial.mate (members_of l.work) l.start l.mate l.holder l.k)

abbrev pub decreases-loop-k : goal.decreases-loop-k
decreases-loop-k l = l.k
