use Rattle.floor.specs.Shown.{plan_in}
use Rattle.floor.proofs.Records.{stands_when}
use Rattle.floor.proofs.record.Floor.stands.Goals as goal

pub returns : goal.returns
returns g c =
    let f = c.args.self.now in
    let v = g.D.Deck.view c.args.deck.now in
    let at = c.at.result in
    stands_when c.are_at.result f v c.deref.result.now at c.deref.ensures.value
    c.if-not-is_sized.ensures
    (c.at.ensures.alike (plan_in f) f.staged)
    c.are_at.ensures
