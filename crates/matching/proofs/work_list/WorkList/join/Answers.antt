use Rattle.std.proofs.lemmas.List.{map-set}
use Rattle.matching.specs.WorkLists.{member_of, parent_of}
use Rattle.matching.proofs.work_list.WorkList.join.Goals as goal

pub returns-clause-members : goal.returns-clause-members
returns-clause-members c = map-set member_of c.args.self.now.entries.now c.args.place _

pub returns-clause-parents : goal.returns-clause-parents
returns-clause-parents c = map-set parent_of c.args.self.now.entries.now c.args.place _
