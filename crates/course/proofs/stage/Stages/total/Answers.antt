use Rattle.std.proofs.Common.{arith}
use Rattle.course.proofs.Courses.{staged_steps}
use Rattle.course.proofs.stage.Stages.total.Goals as goal

pub returns-clause-whole : goal.returns-clause-whole
returns-clause-whole c p g = omega (arith, staged_steps p c.args.self.now g)
