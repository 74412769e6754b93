use Rattle.std.proofs.Common.{ℕ, Bool, true, false, length, sym, refl, ◌∙◌, subst, arith, length-set}
use Rattle.matchings.specs.Matchings.{◌!◌}
use Rattle.matchings.proofs.Lines.{same_two}
use Rattle.matchings.specs.Reaching.{loose, IsClass, Added}
use Rattle.matchings.proofs.Reaching.{goal_fits, joined, loose_class, closed_skip, noted_more}
use Rattle.matching.specs.WorkLists.{members_of}
use Rattle.matching.proofs.Rooms.{members_long, parents_long}
use Rattle.matching.proofs.reaching.reach.Goals as goal
use Rattle.matching.proofs.reaching.reach.Goals.{then-is_new, else-is_new}

pub join-requires : goal.join-requires
join-requires g c =
    let h = goal_fits _ _ _ _ _ _ _ _ _ _ c.args.goal c.loop-head.invariant.0 c.in-Some.ensures.0 (omega arith) (omega arith) (omega arith) in
    omega arith

pub returns-in-Some-clause-reached : goal.returns-in-Some-clause-reached
returns-in-Some-clause-reached g c =
    let m = c.requires.seated.inj.below c.args.goal (omega arith) in
    let own = members_long c.loop-head.work in
    let theirs = parents_long c.loop-head.work in
    joined _ _ _ _ _ _ _ _ _ _ c.args.goal c.loop-head.invariant.0 c.in-Some.ensures.0 (omega arith) (omega arith) (omega arith)
    _ _ c.join.ensures.members c.join.ensures.parents (omega arith) (omega arith) (omega (arith, c.loop-head.auto.marks, length-set c.args.marks.now (c.args.mate.now ! c.args.quest.now.left) 1)) c.in-Some.ensures.1

pub loop-head-preserved : goal.loop-head-preserved
loop-head-preserved g c =
    let A = loose (g.R.Relation.allowed c.args.quest.now.rel.now) c.args.quest.now.wild in
    let R = g.R.Relation.allowed c.args.quest.now.rel.now in
    let n = g.R.Relation.size c.args.quest.now.rel.now in
    let class = g.R.Relation.classes c.args.quest.now.rel.now in
    let mate = c.args.mate.now in
    let members = members_of c.loop-head.work in
    let head = c.loop-head.head in
    let e = c.member.ensures in
    let added : (fresh : Bool) → Added R n class (mate ! c.member.result) c.loop-head.notes.seen.now c.is_new.new.self.seen.now fresh → Added R n class (mate ! (members ! head)) c.loop-head.notes.seen.now c.is_new.new.self.seen.now fresh =
    λ fresh h. subst (λ (x : ℕ). Added R n class (mate ! x) c.loop-head.notes.seen.now c.is_new.new.self.seen.now fresh) e h in
    elim c.if-is_new.branch [
      | then-is_new w ↦ simp (w.work-is, w.marks-is, w.tail-is) (
        w.visit-tail.ensures.reached,
        w.visit-tail.ensures.closed,
        omega (arith, w.visit-tail.ensures.ahead),
        λ k h. w.visit-tail.ensures.rest k h ∙ c.loop-head.invariant.3 k h,
        w.visit-tail.ensures.movable,
        same_two _ _ _ _ c.loop-head.invariant.5 w.visit-tail.ensures.same,
        w.visit-tail.ensures.ahead.1,
        w.visit-tail.ensures.room ∙ c.loop-head.invariant.7,
        noted_more _ _ class mate members _ head c.loop-head.tail _ _ _ c.loop-head.invariant.8 (added true w.if-is_new.ensures) (omega arith) w.visit-tail.ensures.front,
        w.visit-tail.ensures.ahead.0,
      )
      | else-is_new w ↦ simp (w.work-is, w.marks-is, w.tail-is) (
        c.loop-head.invariant.0,
        closed_skip A (length mate) _ _ class mate members _ _ head
            (subst (λ (x : ℕ). IsClass A x class (mate ! (members ! head)) (class (mate ! (members ! head)))) (sym c.requires.seated.many)
            (loose_class _ _ _ class _ _ ((added false w.if-is_new.ensures).known refl).0))
            c.requires.seated.inj c.loop-head.invariant.4 (omega arith) c.loop-head.invariant.1 c.loop-head.invariant.8
            ((added false w.if-is_new.ensures).known refl).1,
        omega arith,
        c.loop-head.invariant.3,
        c.loop-head.invariant.4,
        c.loop-head.invariant.5,
        c.loop-head.invariant.6,
        c.loop-head.invariant.7,
        noted_more _ _ class mate members _ head c.loop-head.tail _ _ _ c.loop-head.invariant.8 (added false w.if-is_new.ensures) (omega arith) (λ k h. refl),
        omega arith,
      )
    ]
