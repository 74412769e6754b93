use Rattle.std.proofs.Common.{◌≡◌, List, ap, ◌∙◌, arith, length-set}
use Rattle.decklists.specs.declared.carrier.Carrier.{Carrier}
use Rattle.decklists.specs.Carriers.{carriers_view, carriers_sound}
use Rattle.decklists.specs.Lists.{placed}
use Rattle.decklists.specs.Notes.{square_number}
use Rattle.decklists.proofs.Moving.{still_free}
use Rattle.decklists.proofs.Noting.{noted_more}
use Rattle.decklists.proofs.carriers.Carriers.standing.Goals as goal

pub loop-k-preserved : goal.loop-k-preserved
loop-k-preserved c =
    let s = c.args.self.now in
    let v = carriers_view s in
    let table = c.loop-k.table.items in
    let p = c.number.result in
    let here : p ≡ square_number v.columns (v.square c.loop-k.k) = c.number.ensures.number ∙ ap (λ (cs : List Carrier). square_number v.columns (placed cs c.loop-k.k)) c.deref-carrier-items.ensures.value in (
      length-set table p _ ∙ c.loop-k.invariant.0,
      noted_more v.columns v.square table c.loop-k.k p here (omega (arith, c.number.ensures.below, c.loop-k.invariant.0)) (still_free v (carriers_sound s) table c.loop-k.k p (omega arith) c.loop-k.invariant.1 here) c.loop-k.invariant.1,
    )
