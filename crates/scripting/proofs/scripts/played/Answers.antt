use Rattle.std.proofs.Common.{refl, arith}
use Rattle.roster.specs.Rosters.{roster_view}
use Rattle.floor.specs.Shown.{shown}
use Rattle.scripting.proofs.Ending.{ended, script_refused, script_written}
use Rattle.scripting.proofs.scripts.played.Goals as goal

pub returns-in-Over : goal.returns-in-Over
returns-in-Over g c =
    let s = c.serve.new.calls.page in
    let h = c.requires.0.height in
    let w = c.requires.0.width in
    let b = c.longest_plan-budget.ensures.bound in
    let end =
    ended c.args.writer.page s g.K.Task.order (shown c.args.floor) (shown c.serve.new.floor) (roster_view c.args.deck)
    (roster_view c.serve.new.deck) _ _ (rw (← h, ← w, b) (omega arith)) c.requires c.serve.ensures in
    script_written s g.K.Task.order _ end c.in-Over.is c.truncate.ensures.items

pub returns-in-Refused : goal.returns-in-Refused
returns-in-Refused g c =
    let s = c.serve.new.calls.page in
    let h = c.requires.0.height in
    let w = c.requires.0.width in
    let b = c.longest_plan-budget.ensures.bound in
    let end =
    ended c.args.writer.page s g.K.Task.order (shown c.args.floor) (shown c.serve.new.floor) (roster_view c.args.deck)
    (roster_view c.serve.new.deck) _ _ (rw (← h, ← w, b) (omega arith)) c.requires c.serve.ensures in
    script_refused s g.K.Task.order c.in-Refused.fault _ end c.in-Refused.is refl
