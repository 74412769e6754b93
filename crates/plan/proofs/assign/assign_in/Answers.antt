use Rattle.std.proofs.Common.{sym}
use Rattle.std.proofs.lemmas.Result.{err_from_is_err_and}
use Rattle.plan.proofs.Made.{blocked}
use Rattle.plan.proofs.assign.assign_in.Goals as goal

pub returns-in_err-map_err-clause-assigned : goal.returns-in_err-map_err-clause-assigned
returns-in_err-map_err-clause-assigned g c =
    let p = err_from_is_err_and c.from_residual.result c.from_residual.ensures.1 in
    let found = c.first_matching.ensures in
    rw p.1
    (rw (sym c.requires.rule)
    (rw (sym c.of-admission.ensures)
    (blocked _ _ _ _ _ _ _ c.in_err-map_err.was c.map_err.ensures.variant found.answer found.exactly)))
