use Rattle.matchings.proofs.Blocks.{none_past}
use Rattle.matchings.proofs.perfect_excludes_blocking.Goals as goal

pub returns : goal.returns
returns c = none_past
