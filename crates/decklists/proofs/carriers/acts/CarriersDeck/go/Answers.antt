use Rattle.std.proofs.Common.{subst, sym, refl, arith}
use Rattle.std.proofs.lemmas.List.{with_items_is}
use Rattle.deck.specs.Decks.{DeckView, Lawful}
use Rattle.decklists.specs.Carriers.{carriers_sound}
use Rattle.decklists.specs.Notes.{EndsNoted}
use Rattle.decklists.proofs.Moving.{moved_in, moved_from, moved_sound, stand_where_they_came}
use Rattle.decklists.proofs.carriers.acts.CarriersDeck.go.Goals as goal

pub invariant_of-self : goal.invariant_of-self
invariant_of-self c =
    let v = c.allow.new.self in
    let list = with_items_is v.list c.move_all.new.carriers (omega arith) in
    let lawful = subst Lawful (sym c.in_default.ensures.same) c.in_default.ensures.allowed.lawful in
    let sound = moved_sound _ _ lawful (moved_in v.extent c.deref_mut.ensures.value list c.move_all.ensures) (carriers_sound v) in
    record { room = v.room; inside = sound.inside; apart = sound.apart }

pub returns : goal.returns
returns c =
    let v = c.allow.new.self in
    let list = with_items_is v.list c.move_all.new.carriers (omega arith) in
    let moved = moved_in v.extent c.deref_mut.ensures.value list c.move_all.ensures in
    let noted = subst (λ (u : DeckView). EndsNoted u v.notes.items) (sym c.in_default.ensures.same) c.in_default.ensures.allowed.noted in
    record {
      went = (refl, c.in_default.ensures.allowed.lawful, moved_from c.in_default.ensures.same moved);
      noted = stand_where_they_came _ _ v.notes.items moved noted;
    }
