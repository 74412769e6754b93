-- The script of an order record, byte for byte.
use Rattle.std.specs.Prelude.{◌≡◌, ℕ, zero, suc, List, [], ◌∷◌, ◌++◌, Ok, Err}
use Rattle.motion.specs.Plans.{Plan, whole, plan_steps}
use Rattle.planning.specs.Planned.{Planned}
use Rattle.chain.specs.declared.fault.FloorFault.TheVariants.{Unfillable, NoMemory}
use Rattle.chain.specs.Faults.{floor_fault_number}
use Rattle.chain.specs.Calls.{Fillable}
use Rattle.script.specs.Lines.{first_line_bytes, refused_line_bytes}
use Rattle.floor.specs.Lines.{letters}
use Rattle.orderfile.specs.declared.fault.OrderFault.{OrderFault}
use Rattle.orderfile.specs.Faults.{order_fault_number}
use Rattle.orderfile.specs.Records.{OrderView, Read}
use Rattle.scripting.specs.Orders.{order_rule, order_slots, new_place}

-- the line of the step after t steps of a plan: a letter for each carrier, and the line's end
abbrev pub step_line : Plan → ℕ → List ℕ
step_line p t = letters (whole p) t p.carriers ++ 10 ∷ []

-- the lines of the first steps of a plan, in turn
unfoldable pub step_lines : Plan → ℕ → List ℕ
step_lines p zero = []
step_lines p (suc t) = step_lines p t ++ step_line p t

-- the first line, which has the plan's length, and a line for each step
abbrev pub plan_script : Plan → List ℕ
plan_script p = first_line_bytes p.height p.width (plan_steps p) ++ step_lines p (plan_steps p)

-- p is the plan of an order on a new deck, where carrier s stands on slot s
abbrev pub PlanOf : OrderView → Plan → Type 0
PlanOf o p = Planned (order_rule o) o.height o.width (new_place o.width) p

-- The text is the script of an order. One that cannot be filled has none but its refusal; one that can be filled has one plan,
-- as planning proves, so the order fixes every byte, but that memory may be wanting.
pub data ScriptFor (o : OrderView) (text : List ℕ) : Type 0 where
  carried_out : (p : Plan) → PlanOf o p → text ≡ plan_script p → ScriptFor o text
  unfillable :
      (Fillable (order_slots o) (order_rule o) → ⊥)
      → text ≡ refused_line_bytes (floor_fault_number Unfillable)
      → ScriptFor o text
  no_memory : text ≡ refused_line_bytes (floor_fault_number NoMemory) → ScriptFor o text

-- The text is the script of these bytes: that of the order whose record they are, or the refusal that reading gives them.
-- Reading gives one answer, but that it asks for memory last, so the bytes fix every byte of a script that does not tell of want of
-- memory.
pub data ScriptOf (bytes text : List ℕ) : Type 0 where
  ordered : (o : OrderView) → Read bytes (Ok o) → ScriptFor o text → ScriptOf bytes text
  refused :
      (fault : OrderFault)
      → Read bytes (Err fault)
      → text ≡ refused_line_bytes (order_fault_number fault)
      → ScriptOf bytes text
