use Rattle.std.proofs.lemmas.List.{map-set}
use Rattle.matching.specs.WorkLists.{member_of}
use Rattle.matching.proofs.Rooms.{parent_kept}
use Rattle.matching.proofs.work_list.WorkList.put.Goals as goal

pub returns-clause-members : goal.returns-clause-members
returns-clause-members c = map-set member_of c.args.self.now.entries.now c.args.place _

pub returns-clause-parents : goal.returns-clause-parents
returns-clause-parents c = parent_kept c.args.self.now.entries.now c.args.place c.args.member c.requires
