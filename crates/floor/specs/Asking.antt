-- The questions of an order.
use Rattle.std.specs.Prelude.{ℕ, ◌≤◌, List, length}
use Rattle.deck.specs.Decks.{DeckView}
use Rattle.rules.specs.Rules.{RuleView}
use Rattle.chain.specs.Floors.{FloorView, slots, Stands}
use Rattle.chain.specs.Calls.{AtRest, Clean, RuleFor}

-- all are answered yes, but for the last, whether the rule can be filled
pub record MayOrder (f : FloorView) (v : DeckView) (r : RuleView) (marks : List ℕ) : Type 0 where
  pub at_rest : AtRest f
  pub enough : slots f ≤ length marks
  pub clean : Clean marks (slots f)
  pub stands : Stands f v
  pub rule_for : RuleFor (slots f) r
