use Rattle.deck.proofs.Turning.{turned_went}
use Rattle.deck.proofs.turned.TurnedDeck.go.Goals as goal

pub returns : goal.returns
returns g c = turned_went _ _ _ c.go.ensures
