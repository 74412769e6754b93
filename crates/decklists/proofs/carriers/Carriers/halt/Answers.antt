use Rattle.std.proofs.Common.{arith}
use Rattle.std.proofs.lemmas.List.{with_items_is}
use Rattle.decklists.specs.Carriers.{carriers_sound}
use Rattle.decklists.proofs.Moving.{halted_in, halted_sound}
use Rattle.decklists.proofs.carriers.Carriers.halt.Goals as goal

pub invariant_of-self : goal.invariant_of-self
invariant_of-self c =
    let v = c.args.self.now in
    let list = with_items_is v.list c.rest_all.new.carriers (omega arith) in
    let sound = halted_sound _ _ (halted_in v.extent c.deref_mut.ensures.value list c.rest_all.ensures) (carriers_sound v) in
    record { room = v.room; inside = sound.inside; apart = sound.apart }

pub returns : goal.returns
returns c =
    let v = c.args.self.now in
    halted_in v.extent c.deref_mut.ensures.value (with_items_is v.list c.rest_all.new.carriers (omega arith)) c.rest_all.ensures
