use Rattle.std.proofs.Common.{arith}
use Rattle.matchingtext.proofs.Splitting.{column_class}
use Rattle.matchingtext.proofs.classes.ClassedTableRelation.class.Goals as goal

pub returns : goal.returns
returns c = let t = c.args.self.now in column_class t.table.now.rows.now t.table.now.count t.classes.now c.args.right (omega (arith, c.requires)) t.columns
