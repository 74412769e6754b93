use Rattle.std.proofs.Common.{refl}
use Rattle.std.proofs.lemmas.Result.{err_from_is_err_and}
use Rattle.orderfile.specs.Orders.{shown as order-shown}
use Rattle.scripting.specs.Scripts.{ScriptOf}
use Rattle.scripting.proofs.scripts.steps_of_record.Goals as goal

pub returns-in_err-order : goal.returns-in_err-order
returns-in_err-order c =
    let p = err_from_is_err_and c.from_residual.result c.from_residual.ensures.1 in
    rw (p.1, p.2) (ScriptOf.refused c.in_err-order.field-0.0 c.in_err-order.ensures.read refl)

pub returns : goal.returns
returns c = ScriptOf.ordered (order-shown c.in_ok-order.order) c.in_ok-order.ensures.read c.steps_of_order.ensures
