use Rattle.std.proofs.Common.{◌≡◌, Option, Result, IfErr, ok_or, length, refl, sym, ◌∙◌, subst, arith}
use Rattle.std.proofs.lemmas.Option.{MatchOption-at_none}
use Rattle.std.proofs.lemmas.Result.{err_from_is_err_and}
use Rattle.grid.specs.Sides.{slot_count}
use Rattle.grid.specs.declared.slot.Slot.{Slot}
use Rattle.chain.specs.declared.fault.FloorFault.{FloorFault}
use Rattle.chain.specs.declared.fault.FloorFault.TheVariants.{OffSlot}
use Rattle.chain.specs.Calls.{OnSlots}
use Rattle.floor.proofs.record.open.rest_all.Goals as goal

pub returns-in_err-slot : goal.returns-in_err-slot
returns-in_err-slot g c =
    let s = c.args.sides in
    let n = slot_count s.height s.width in
    let long : length c.loop-carrier.routes ≡ n = c.loop-carrier.auto.routes ∙ c.requires.size in
    let on_slots = OnSlots s.height s.width (g.D.Deck.view c.args.deck.now) in
    let p = err_from_is_err_and c.from_residual.result c.from_residual.ensures.1 in
    let e = c.in_err-slot.ensures in
    let refused : FloorFault → Type 0 = λ fault. (fault ≡ OffSlot) × (on_slots → ⊥) in
    rw (p.1, p.2)
    (subst (λ (r : Result Slot FloorFault). IfErr r refused) (sym e.value)
    (subst (λ (o : Option Slot). IfErr (ok_or o OffSlot) refused) (sym e.ok_part) (
      refl,
      λ on. let here = on c.loop-carrier.carrier (omega arith) in MatchOption-at_none _ _ e.ok_part c.slot_of.ensures here.0 here.1,
    )))

pub returns : goal.returns
returns g c =
    let s = c.args.sides in
    let n = slot_count s.height s.width in
    let long : length c.loop-carrier.routes ≡ n = c.loop-carrier.auto.routes ∙ c.requires.size in
    λ k l. c.loop-carrier.invariant k (omega arith)
