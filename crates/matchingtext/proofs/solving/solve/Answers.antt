use Rattle.std.proofs.Common.{IfOk, subst}
use Rattle.matchingtext.specs.declared.table.TextTable.{TextTable}
use Rattle.matchingtext.specs.Sheets.{allowed_by}
use Rattle.matchingtext.specs.Solutions.{Solved}
use Rattle.matchingtext.proofs.solving.solve.Goals as goal

pub returns : goal.returns
returns c =
    subst (λ (t : TextTable). IfOk c.first_of.result (λ o. Solved (allowed_by t.rows.now t.count) t.count o)) c.new.ensures c.first_of.ensures
