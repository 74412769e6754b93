use Rattle.std.proofs.Common.{sym, ap, ◌∙◌, arith, get_or-set_other}
use Rattle.matchings.specs.Matchings.{◌!◌}
use Rattle.matchings.proofs.Reaching.{turn_skip, turn_push, turn_done}
use Rattle.matching.proofs.Rooms.{parents_long}
use Rattle.matching.proofs.reaching.visit.Goals as goal
use Rattle.matching.proofs.reaching.visit.Goals.{then-may, else-may}

pub loop-k-preserved : goal.loop-k-preserved
loop-k-preserved g c =
    let f = c.requires.movable.fits in
    let b = c.loop-k.invariant.0.movable.below c.loop-k.k (omega arith) in
    let e = c.member-next.ensures in
    let m = c.requires.seated.inj.below c.member-next.result (omega arith) in
    let t = ap (λ x. c.args.mate.now ! x) c.member.ensures in
    let p = parents_long c.loop-k.work in
    elim c.if-may.branch [
      | then-may w ↦ simp (w.work-is, w.marks-is, w.tail-is) (
        turn_push _ _ _ _ _ _ _ _ _ _ _ _ _ _ _ c.loop-k.invariant.0 _ _ e t _ _ w.take_up.ensures.parents (omega arith) (omega arith) (omega arith) (sym w.if-may.ensures)
            w.take_up.ensures.members.there w.take_up.ensures.members.back w.take_up.ensures.members.others,
        λ k h. get_or-set_other c.loop-k.marks (c.args.mate.now ! c.member-next.result) k 1 0 (omega arith) ∙ c.loop-k.invariant.1 k h,
        w.take_up.ensures.room ∙ c.loop-k.invariant.2,
      )
      | else-may w ↦ simp (w.work-is, w.marks-is, w.tail-is)
          (turn_skip _ _ _ _ _ _ _ _ _ _ _ _ _ _ _ c.loop-k.invariant.0 _ _ e t (sym w.if-may.ensures), c.loop-k.invariant.1, c.loop-k.invariant.2)
    ]

pub returns-clause-closed : goal.returns-clause-closed
returns-clause-closed g c =
    let f = c.requires.head.1 in
    turn_done _ _ _ _ _ _ _ _ _ _ _ _ _ _ _ c.loop-k.invariant.0 (omega (arith, c.loop-k.auto.k-end f))
