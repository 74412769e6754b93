-- What a source can choose to call.
use Rattle.std.specs.Prelude.{ℕ, List}
use Rattle.rules.specs.Rules.{RuleView}

-- an order by what its rule means, with its marks
pub data Choice : Type 0 where
  order : RuleView → List ℕ → Choice
  step : Choice
  back : Choice
