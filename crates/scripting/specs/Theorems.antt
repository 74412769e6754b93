-- The bytes of a record fix the bytes of its script.
use Rattle.std.specs.Prelude.{◌≡◌, ℕ, List}
use Rattle.chain.specs.declared.fault.FloorFault.TheVariants.{NoMemory}
use Rattle.chain.specs.Faults.{floor_fault_number}
use Rattle.script.specs.Lines.{refused_line_bytes}
use Rattle.scripting.specs.Scripts.{ScriptOf}

-- a script that does not tell of want of memory
pub record InMemory (bytes text : List ℕ) : Type 0 where
  pub script : ScriptOf bytes text
  pub enough : text ≡ refused_line_bytes (floor_fault_number NoMemory) → ⊥

-- two scripts of the same bytes, neither of which tells of want of memory, are the same
abbrev pub ScriptIsFixed : Type 0
ScriptIsFixed = (bytes a b : List ℕ) → InMemory bytes a → InMemory bytes b → b ≡ a
