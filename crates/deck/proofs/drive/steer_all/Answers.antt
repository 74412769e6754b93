use Rattle.std.proofs.Common.{ℕ, ◌<◌, subst, arith}
use Rattle.deck.specs.Decks.{Steered}
use Rattle.deck.proofs.Driving.{steering_more}
use Rattle.deck.proofs.drive.steer_all.Goals as goal

pub loop-carrier-preserved : goal.loop-carrier-preserved
loop-carrier-preserved g c =
    let u = g.D.Deck.view c.args.deck.now in
    let v = g.D.Deck.view c.loop-carrier.deck in
    let w = g.D.Deck.view c.steer.new.self in
    let k = c.loop-carrier.carrier in
    let i : k < u.carriers = omega arith in
    let s = subst (λ (n : ℕ). Steered v k n c.steer.result w) c.number.ensures c.steer.ensures in
    steering_more u v w c.args.headings.now k i c.loop-carrier.invariant c.heading_of-heading.result c.steer.result c.heading_of-heading.ensures s
