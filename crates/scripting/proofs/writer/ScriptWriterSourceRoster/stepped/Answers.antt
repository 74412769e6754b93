use Rattle.std.proofs.Common.{ℕ, length, Result, subst}
use Rattle.roster.specs.Rosters.{roster_view}
use Rattle.chain.specs.declared.fault.FloorFault.{FloorFault}
use Rattle.chain.specs.Calls.{Stepped}
use Rattle.floor.specs.Shown.{shown}
use Rattle.scripting.proofs.Keeping.{never_refused}
use Rattle.scripting.proofs.writer.ScriptWriterSourceRoster.stepped.Goals as goal

pub returns-in-Err : goal.returns-in-Err
returns-in-Err g c f v es account chosen stepped =
    let h = shown c.args._floor.now in
    let w = roster_view c.args._deck.now in
    absurd
    (never_refused c.args.self.now.page g.K.Task.order f h v w (length es) c.in-Err.fault chosen account
    (subst (λ (a : Result ℕ FloorFault). Stepped f v a h w) c.in-Err.is stepped))
