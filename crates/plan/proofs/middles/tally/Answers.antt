use Rattle.std.proofs.Common.{refl, arith}
use Rattle.course.specs.Routes.{route_at}
use Rattle.planning.proofs.Slots.{cell_in}
use Rattle.planning.proofs.Counts.{count_few}
use Rattle.plan.specs.Rows.{route_waits}
use Rattle.plan.proofs.Picks.{tally_add, tally_skip}
use Rattle.plan.proofs.middles.tally.Goals as goal
use Rattle.plan.proofs.middles.tally.Goals.{then-route-row, else-route-row}

pub overflow_add-counts-then-route-row : goal.overflow_add-counts-then-route-row
overflow_add-counts-then-route-row c =
    let rs = c.args.routes.now in
    let i = c.requires.bays c.loop-route.route-index (omega arith) in
    let a = c.loop-route.invariant _ _ i.0 i.1 in
    let b = count_few (λ d. route_waits c.args.row (route_at rs c.loop-route.route-index).start.bay (route_at rs c.loop-route.route-index).goal.bay (route_at rs d)) c.loop-route.route-index in
    rw (c.from.ensures, c.from-then-route-row.ensures) (omega arith)

pub loop-route-preserved : goal.loop-route-preserved
loop-route-preserved c =
    let rs = c.args.routes.now in
    let i = c.requires.bays c.loop-route.route-index (omega arith) in
    let a = cell_in _ _ _ i.0 i.1 in
    elim c.if-route-row.branch [
      | then-route-row w ↦ simp (w.counts-is, w.from.ensures, w.from-then-route-row.ensures) (tally_add rs c.args.row c.args.bays c.loop-route.route-index c.loop-route.counts c.loop-route.invariant
          w.if-route-row.true i.0 i.1 (omega arith) _ refl)
      | else-route-row w ↦ simp w.counts-is (tally_skip rs c.args.row c.args.bays c.loop-route.route-index c.loop-route.counts c.loop-route.invariant w.if-route-row.false)
    ]
