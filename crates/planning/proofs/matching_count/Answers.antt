use Rattle.std.proofs.Common.{arith}
use Rattle.planning.proofs.Plans.{plan_is_unique, plan_shuffles, matchings_never_block}
use Rattle.planning.proofs.matching_count.Goals as goal

pub returns : goal.returns
returns c =
    record { count = omega arith; matched = matchings_never_block; shuffles = plan_shuffles; unique = plan_is_unique }
