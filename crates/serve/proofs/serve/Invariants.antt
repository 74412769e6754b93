use Rattle.floor.specs.Shown.{shown}
use Rattle.serve.proofs.Playing.{Run}
use Rattle.serve.proofs.serve.Given as goal

abbrev pub invariant-loop : goal.invariant-loop
invariant-loop g l =
    Run (shown l.initial.floor) (g.D.Deck.view l.initial.deck) (g.S.Source.account l.initial.calls) (shown l.floor)
    (g.D.Deck.view l.deck) (g.S.Source.account l.calls) l.counter
