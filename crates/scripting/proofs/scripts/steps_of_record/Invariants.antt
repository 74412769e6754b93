use Rattle.orderfile.specs.Orders.{shown as order-shown}
use Rattle.scripting.proofs.scripts.steps_of_record.Given as goal

-- the order that was read
abbrev pub ghosts-steps_of_order : goal.ghosts-steps_of_order
ghosts-steps_of_order a = record { order = order-shown a.order }
