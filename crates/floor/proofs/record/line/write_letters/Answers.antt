use Rattle.std.proofs.Common.{ℕ, length, arith, rules}
use Rattle.grid.specs.Headings.{letter}
use Rattle.course.specs.Routes.{plan_of}
use Rattle.course.specs.Stages.{motion_of}
use Rattle.floor.proofs.Lines.{row_ended}
use Rattle.floor.proofs.record.line.write_letters.Goals as goal

pub returns : goal.returns
returns c h w =
    let routes = c.args.routes.now in
    let moment = c.args.moment in
    let f : ℕ → ℕ = λ k. letter ((motion_of moment.stage (plan_of h w routes)).heading moment.progress k) in
    row_ended f c.write_each.new.out (length routes) 10 (omega arith) (λ k l. let e = c.write_each.ensures k 0 l in search rules)
