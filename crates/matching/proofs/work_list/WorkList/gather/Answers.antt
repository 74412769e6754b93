use Rattle.std.proofs.Common.{arith}
use Rattle.matching.proofs.Rooms.{copied}
use Rattle.matching.proofs.work_list.WorkList.gather.Goals as goal

pub returns-clause-gathered : goal.returns-clause-gathered
returns-clause-gathered c =
    copied c.args.count c.args.reached c.args.self.now.entries.now c.copy_within.new.self (omega arith) (omega arith) (omega arith) (omega (arith, c.copy_within.ensures.len))
    c.copy_within.ensures.by_index.0 c.copy_within.ensures.by_index.1
