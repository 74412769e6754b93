-- The call that a source answers is the one that it has chosen.
use Rattle.std.specs.Prelude.{vec_items}
use Rattle.rules.specs.AnyRule.{any_meaning}
use Rattle.serve.specs.Choices.{Choice}
use Rattle.serve.specs.declared.Call.{Call}
use Rattle.serve.specs.declared.Call.TheVariants.{Order, Step, Back}

abbrev pub Chooses : (Choice → Type 0) → Call → Type 0
Chooses chosen (Order rule marks) = chosen (Choice.order (any_meaning rule) (vec_items marks))
Chooses chosen Step = chosen Choice.step
Chooses chosen Back = chosen Choice.back
