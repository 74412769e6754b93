use Rattle.std.proofs.Common.{◌≡◌, ◌<◌, length, ◌∙◌, arith, length-take}
use Rattle.motion.specs.Plans.{plan_steps}
use Rattle.floor.specs.Shown.{plan_in, kept}
use Rattle.floor.proofs.Records.{few_slots, headings_whole}
use Rattle.floor.proofs.Moves.{moved_gone}
use Rattle.floor.proofs.record.Floor.make_move.Goals as goal

pub returns : goal.returns
returns g c =
    let f = c.args.self.now in
    let v = g.D.Deck.view c.args.deck.now in
    let w = g.D.Deck.view c.drive.new.deck in
    let hs = c.write_headings.new.headings in
    let p = plan_in f in
    let at = c.at.result in
    let k = kept f in
    let many = f.many in
    let few = few_slots f.sides.height f.sides.width k.sides in
    let long : length hs ≡ p.carriers = c.write_headings.auto.headings ∙ simp length-take (omega (arith, few, many)) in
    let next : c.args.step < plan_steps p = omega (arith, c.requires.next, k.length) in
    moved_gone p v w hs c.drive.result c.args.step k.good many c.requires.sized next long c.drive.ensures
    c.args.way
    (λ n l. c.requires.placed n (omega arith))
    (headings_whole f c.args.way hs c.deref.result.now at c.args.step c.deref.ensures.value
    (c.at.ensures.alike p f.staged)
    c.write_headings.ensures)
