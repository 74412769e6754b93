use Rattle.std.proofs.Common.{ℕ, length, Result, refl, subst}
use Rattle.rules.specs.AnyRule.{any_meaning}
use Rattle.roster.specs.Rosters.{roster_view}
use Rattle.chain.specs.declared.fault.FloorFault.{FloorFault}
use Rattle.chain.specs.Calls.{Ordered}
use Rattle.floor.specs.Shown.{shown, kept}
use Rattle.scripting.proofs.Keeping.{begun, first_has_room, order_refused}
use Rattle.scripting.proofs.writer.ScriptWriterSourceRoster.ordered.Goals as goal

pub returns-in-Ok-write_first_line : goal.returns-in-Ok-write_first_line
returns-in-Ok-write_first_line g c f es account chosen ordered =
    let floor = c.args._floor.now in
    let v = roster_view c.args._deck.now in
    let r = any_meaning c.args._rule.now in
    let marks = c.args._marks.now in
    begun c.args.self.now.page g.K.Task.order f (shown floor) v (length es) r marks account chosen _ c.in-Ok.steps
    c.in-Ok-write_first_line.count refl refl refl refl c.in-Ok-write_first_line.ensures (kept floor)
    (subst (λ (a : Result ℕ FloorFault). Ordered f v r marks a (shown floor)) c.in-Ok.is ordered)

pub returns-in-Err-write_first_line : goal.returns-in-Err-write_first_line
returns-in-Err-write_first_line g c f es account chosen ordered =
    let floor = c.args._floor.now in
    let v = roster_view c.args._deck.now in
    let r = any_meaning c.args._rule.now in
    let marks = c.args._marks.now in
    absurd
    (first_has_room c.args.self.now.page g.K.Task.order f (shown floor) v (length es) r marks account chosen _ c.in-Ok.steps _
    c.in-Err-write_first_line.ensures (kept floor)
    (subst (λ (a : Result ℕ FloorFault). Ordered f v r marks a (shown floor)) c.in-Ok.is ordered))

pub returns-in-Err : goal.returns-in-Err
returns-in-Err g c f es account chosen ordered =
    let floor = c.args._floor.now in
    let v = roster_view c.args._deck.now in
    let r = any_meaning c.args._rule.now in
    let marks = c.args._marks.now in
    order_refused c.args.self.now.page g.K.Task.order f (shown floor) v (length es) r marks account chosen _ c.in-Err.fault
    refl refl refl refl (subst (λ (a : Result ℕ FloorFault). Ordered f v r marks a (shown floor)) c.in-Err.is ordered)
