use Rattle.deck.proofs.Driving.{Steering}
use Rattle.deck.proofs.drive.steer_all.Given as goal

abbrev pub invariant-loop-carrier : goal.invariant-loop-carrier
invariant-loop-carrier g l = Steering (g.D.Deck.view l.initial.deck) l.headings l.carrier (g.D.Deck.view l.deck)
