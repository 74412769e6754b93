-- What a writer is yet to order.
use Rattle.std.specs.Prelude.{◌≡◌, replicate, vec_items}
use Rattle.rules.specs.AnyRule.{any_meaning}
use Rattle.orderfile.specs.Records.{OrderView}
use Rattle.scripting.specs.Orders.{order_rule, order_slots}
use Rattle.scripting.specs.declared.writer.Pending.{Pending}

-- what is pending is this order: its rule, with marks that are all zero
abbrev pub Asks : OrderView → Pending → Type 0
Asks o p = (any_meaning p.rule ≡ order_rule o) × (vec_items p.marks ≡ replicate (order_slots o) 0)
