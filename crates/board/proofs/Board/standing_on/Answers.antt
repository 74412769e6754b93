use Rattle.std.proofs.Common.{◌<◌, length, get_or, None, ap, ◌∙◌, arith}
use Rattle.std.proofs.lemmas.List.{get_or_read}
use Rattle.decklists.specs.Carriers.{carriers_view, carriers_sound}
use Rattle.decklists.proofs.Noting.{stands}
use Rattle.board.proofs.Board.standing_on.Goals as goal

pub returns : goal.returns
returns c =
    let b = c.args.self.now in
    let v = carriers_view b.carriers in
    let table = b.standing.items in
    let (on, number, below) = c.in_ok-number.ensures in
    let within : c.in_ok-number.number < length table = omega (arith, b.room) in
    let read = get_or_read table c.in_ok-number.number c.index.result.now within c.index.ensures None ∙ ap (λ p. get_or table p None) number in
    stands v.columns v.carriers v.square table c.args.square c.index.result.now on.1 (λ k h. ((carriers_sound b.carriers).inside k h).1) b.noted read
