use Rattle.floor.specs.Resting.{AllRest}
use Rattle.floor.proofs.record.open.rest_all.Given as goal

abbrev pub invariant-loop-carrier : goal.invariant-loop-carrier
invariant-loop-carrier g l = AllRest l.sides.height l.sides.width (g.D.Deck.view l.deck) l.carrier l.routes
