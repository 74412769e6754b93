use Rattle.std.proofs.Common.{arith}
use Rattle.plan.proofs.Gives.{given_more, gave, still_waits, given_low}
use Rattle.plan.proofs.give.give_row.Goals as goal

pub lowest-carrier-requires : goal.lowest-carrier-requires
lowest-carrier-requires c =
    record {
      rows = given_low _ _ c.loop-bay.invariant.ends c.requires.rows;
      some = still_waits c.args.sides _ _ _ _ _ c.loop-bay.invariant c.requires.perfect (let z = c.requires.perfect.long in omega arith);
    }

pub loop-bay-preserved : goal.loop-bay-preserved
loop-bay-preserved c = given_more _ _ _ _ _ c.loop-bay.invariant _ c.lowest-carrier.ensures

pub returns : goal.returns
returns c = gave _ _ _ _ _ _ (let z = c.requires.perfect.long in omega arith) c.loop-bay.invariant c.requires.perfect
