use Rattle.std.proofs.Common.{sym, rules}
use Rattle.std.proofs.Output.{has_written_append, has_written_of_eq}
use Rattle.rules.specs.AnyRule.{any_meaning}
use Rattle.orderwords.proofs.Texts.{carriers_more}
use Rattle.orderwords.proofs.CarriersDisplay.fmt.Goals as goal
use Rattle.orderwords.proofs.CarriersDisplay.fmt.Goals.{then-will_do+in_ok-write, else-will_do}

pub loop-carrier-preserved : goal.loop-carrier-preserved
loop-carrier-preserved g c =
    let will-do = (any_meaning c.args.self.now.rule.now).admits c.args.self.now.slot in
    let k = c.loop-carrier.carrier-counter in
    λ plain.
    has_written_of_eq _ _ _ _ _ (sym (carriers_more will-do k)) (has_written_append _ _ _ _ _ _ (c.loop-carrier.invariant plain)
    (elim c.if-will_do.branch [ then-will_do+in_ok-write w ↦ search rules | else-will_do w ↦ search rules ]))
