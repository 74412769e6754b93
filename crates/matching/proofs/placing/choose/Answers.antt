use Rattle.std.proofs.Common.{ℕ, sym, ap, arith}
use Rattle.std.proofs.lemmas.Bool.{both_ways}
use Rattle.matchings.specs.Matchings.{◌!◌}
use Rattle.matchings.proofs.Choosing.{best_take, best_skip}
use Rattle.matching.proofs.Rooms.{first_at}
use Rattle.matching.proofs.placing.choose.Goals as goal
use Rattle.matching.proofs.placing.choose.Goals.{then-right-least+then-may, else-right-least, else-right-least-via-then-right-least+else-may, else-right-least-via-else-right-least}

pub offset_bounds-mate-entry : goal.offset_bounds-mate-entry
offset_bounds-mate-entry g c =
    let s = first_at c.args.work.now.entries.now c.first-entry-items.result.now c.args.count c.loop-k.k c.first-entry-items.ensures (omega arith) (omega arith) in
    let b = c.requires.below c.loop-k.k s.0 in
    omega arith

pub bounds-mate-entry : goal.bounds-mate-entry
bounds-mate-entry g c =
    let s = first_at c.args.work.now.entries.now c.first-entry-items.result.now c.args.count c.loop-k.k c.first-entry-items.ensures (omega arith) (omega arith) in
    let b = c.requires.below c.loop-k.k s.0 in
    omega arith

pub loop-k-preserved : goal.loop-k-preserved
loop-k-preserved g c =
    let s = first_at c.args.work.now.entries.now c.first-entry-items.result.now c.args.count c.loop-k.k c.first-entry-items.ensures (omega arith) (omega arith) in
    let e = ap (λ (x : ℕ). c.args.mate.now ! x) s.1 in
    let b = c.requires.below c.loop-k.k s.0 in
    elim c.if-right-least.branch [
      | then-right-least+then-may w ↦ simp (w.best-is, w.least-is)
          (best_take _ _ _ _ _ _ _ _ e c.loop-k.invariant (sym w.if-may.ensures) w.if-right-least.true)
      | else-right-least w ↦ simp (w.best-is, w.least-is) (best_skip _ _ _ _ _ _ _ _ e c.loop-k.invariant
          (elim w.else-right-least.branch [
            | else-right-least-via-then-right-least+else-may x ↦ λ a. absurd (both_ways _ (sym x.if-may.ensures) a)
            | else-right-least-via-else-right-least x ↦ λ a. x.if-right-least.false
          ])
          (c.requires.seated.inj.below _ (omega arith)))
    ]
