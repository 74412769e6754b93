use Rattle.std.proofs.Common.{rules}
use Rattle.course.proofs.Courses.{stands_alike}
use Rattle.course.proofs.stage.Stages.at.Goals as goal

pub returns-then-t-turn-clause-alike : goal.returns-then-t-turn-clause-alike
returns-then-t-turn-clause-alike c p g = stands_alike p _ g _ _ _ (search rules)

pub returns-then-t-rows-clause-alike : goal.returns-then-t-rows-clause-alike
returns-then-t-rows-clause-alike c p g = stands_alike p _ g _ _ _ (search rules)

pub returns-then-t-turn_back-clause-alike : goal.returns-then-t-turn_back-clause-alike
returns-then-t-turn_back-clause-alike c p g = stands_alike p _ g _ _ _ (search rules)

pub returns-then-t-last_columns-clause-alike : goal.returns-then-t-last_columns-clause-alike
returns-then-t-last_columns-clause-alike c p g = stands_alike p _ g _ _ _ (search rules)

pub returns-else-t-last_columns-clause-alike : goal.returns-else-t-last_columns-clause-alike
returns-else-t-last_columns-clause-alike c p g = stands_alike p _ g _ _ _ (search rules)
