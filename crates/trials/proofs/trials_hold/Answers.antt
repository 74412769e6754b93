use Rattle.trials.proofs.Trials.{trials}
use Rattle.trials.proofs.trials_hold.Goals as goal

pub returns : goal.returns
returns c = trials
