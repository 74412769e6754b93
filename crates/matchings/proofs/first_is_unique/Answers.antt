use Rattle.matchings.proofs.Unique.{first_unique}
use Rattle.matchings.proofs.first_is_unique.Goals as goal

pub returns : goal.returns
returns c = first_unique
