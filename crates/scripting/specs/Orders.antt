-- What the order of a record asks for, and where the carriers stand on a new deck.
use Rattle.std.specs.Prelude.{ℕ}
use Rattle.grid.specs.declared.square.Square.{Square}
use Rattle.grid.specs.Sides.{slot_count}
use Rattle.grid.specs.Slots.{slot_square, numbered_slot}
use Rattle.rules.specs.Rules.{RuleView}
use Rattle.rules.specs.NumberRule.{wanting}
use Rattle.rules.specs.KindRule.{masking}
use Rattle.orderfile.specs.Records.{Lists, numbers, kinds, OrderView}

-- what a rule with these lists means
abbrev pub lists_meaning : Lists → RuleView
lists_meaning (numbers wanted) = wanting wanted
lists_meaning (kinds ks masks) = masking ks masks

abbrev pub order_rule : OrderView → RuleView
order_rule o = lists_meaning o.lists

-- as many slots as carriers
abbrev pub order_slots : OrderView → ℕ
order_slots o = slot_count o.height o.width

-- where carrier c stands on a new deck of w bays: on the square of slot c
abbrev pub new_place : ℕ → ℕ → Square
new_place w c = slot_square (numbered_slot w c)
