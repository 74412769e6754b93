use Rattle.std.proofs.Common.{rules}
use Rattle.matching.specs.WorkLists.{members_of}
use Rattle.matching.proofs.Exact.{exactly_answered, regular_answered}
use Rattle.matching.proofs.search.first_matching.Goals as goal

pub returns-in_err-settle-clause-exactly : goal.returns-in_err-settle-clause-exactly
returns-in_err-settle-clause-exactly g c =
    exactly_answered _ _ c.settle.new.mate (members_of c.settle.new.tables.work.now) _ (search rules)

pub returns-in_err-settle-clause-regular : goal.returns-in_err-settle-clause-regular
returns-in_err-settle-clause-regular g c =
    regular_answered _ _ c.settle.new.mate (members_of c.settle.new.tables.work.now) _ (search rules)

pub returns-clause-exactly : goal.returns-clause-exactly
returns-clause-exactly g c =
    exactly_answered _ _ c.refine.new.mate (members_of c.refine.new.tables.work.now) _ (search rules)
