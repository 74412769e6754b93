use Rattle.matchings.proofs.Regularity.{never_blocks}
use Rattle.matchings.proofs.regular_never_blocks.Goals as goal

pub returns : goal.returns
returns c = never_blocks
