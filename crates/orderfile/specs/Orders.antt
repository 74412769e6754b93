-- What the program's orders are to a reader.
use Rattle.std.specs.Prelude.{Ok, Err, vec_items, Result}
use Rattle.rules.specs.declared.any.AnyRule.{AnyRule}
use Rattle.rules.specs.declared.any.AnyRule.TheVariants.{Number, Kind}
use Rattle.orderfile.specs.declared.fault.OrderFault.{OrderFault}
use Rattle.orderfile.specs.declared.order.Order.{Order}
use Rattle.orderfile.specs.Records.{Lists, numbers, kinds, OrderView}

abbrev pub rule_lists : AnyRule → Lists
rule_lists (Number r) = numbers (vec_items r.wanted)
rule_lists (Kind r) = kinds (vec_items r.kinds) (vec_items r.masks)

abbrev pub shown : Order → OrderView
shown o = record { height = o.sides.height; width = o.sides.width; lists = rule_lists o.rule }

abbrev pub shown_answer : Result Order OrderFault → Result OrderView OrderFault
shown_answer (Ok o) = Ok (shown o)
shown_answer (Err f) = Err f
