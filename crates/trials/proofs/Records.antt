-- A record of an order with a known plan has one script.
use Rattle.std.proofs.Common.{◌≡◌, ℕ, List, Ok}
use Rattle.motion.specs.Plans.{Plan}
use Rattle.chain.specs.declared.fault.FloorFault.TheVariants.{NoMemory}
use Rattle.chain.specs.Faults.{floor_fault_number}
use Rattle.script.specs.Lines.{refused_line_bytes}
use Rattle.orderfile.specs.Records.{OrderView, Read}
use Rattle.scripting.specs.Scripts.{plan_script, PlanOf, ScriptFor, ScriptOf}
use Rattle.scripting.specs.Theorems.{InMemory}
use Rattle.scripting.proofs.Fixed.{script_is_fixed}
use Rattle.trials.specs.Records.{OnlyScript}

pub only_script :
    (bytes text : List ℕ) (o : OrderView) (p : Plan)
    → Read bytes (Ok o)
    → PlanOf o p
    → text ≡ plan_script p
    → (text ≡ refused_line_bytes (floor_fault_number NoMemory) → ⊥)
    → OnlyScript bytes text
only_script bytes text o p R P is enough =
    let S : InMemory bytes text =
    record { script = ScriptOf.ordered o R (ScriptFor.carried_out p P is); enough = enough } in
    record { script = S; only = λ other T. script_is_fixed bytes text other S T }
