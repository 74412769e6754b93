use Rattle.std.proofs.Common.{refl}
use Rattle.std.proofs.lemmas.Result.{err_from_is_err_and}
use Rattle.floor.specs.Moving.{HeldBack}
use Rattle.floor.proofs.Records.{unchanged}
use Rattle.floor.proofs.record.Floor.move_on.Goals as goal

pub returns-then-not-stands : goal.returns-then-not-stands
returns-then-not-stands g c = (HeldBack.astray c.if-not-stands.ensures (unchanged _), refl)

pub returns-in_err-make_move : goal.returns-in_err-make_move
returns-in_err-make_move g c =
    let p = err_from_is_err_and c.from_residual.result c.from_residual.ensures.1 in
    rw (p.1, p.2) (HeldBack.go_refused c.if-not-stands.ensures c.in_err-make_move.ensures.0 c.in_err-make_move.ensures.1, refl)
