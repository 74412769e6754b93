use Rattle.std.proofs.Common.{◌<◌, true, length, None, ap, ◌∙◌, sym, subst, arith}
use Rattle.std.proofs.lemmas.List.{length-replicate}
use Rattle.deck.specs.Decks.{Sound}
use Rattle.decklists.specs.declared.extent.Extent.{Extent}
use Rattle.decklists.specs.Lists.{listed}
use Rattle.decklists.proofs.Starting.{starts_sound}
use Rattle.decklists.proofs.carriers.Carriers.start.Goals as goal

pub invariant_of-result : goal.invariant_of-result
invariant_of-result c =
    let s = c.in_ok-sides.sides in
    let e = c.extent-extent.result in
    let list = c.in_ok-place_all.field-0 in
    let wide : 0 < s.width = omega (arith, s.wide) in
    let sound = subst (λ (x : Extent). Sound (listed x list.items true)) (sym c.extent-extent.ensures) (starts_sound c.args.laying s.height s.width list.items c.in_ok-place_all.ensures wide) in
    record {
      room = ap length c.in_ok-blank_table.ensures ∙ length-replicate c.squares.result None ∙ c.squares.ensures;
      inside = sound.inside;
      apart = sound.apart;
    }
