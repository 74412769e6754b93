-- The numbers of the refusals that stand in a script, and what a script is made of.
use Rattle.std.specs.Prelude.{ℕ, List, Ok, Err, Result, vec_items}
use Rattle.std.specs.declared.vec.Vec.{Vec}
use Rattle.decklists.specs.Faults.{build_number}
use Rattle.chain.specs.Faults.{floor_fault_number}
use Rattle.orderfile.specs.Faults.{order_fault_number}
use Rattle.script.specs.Lines.{refused_line_bytes}
use Rattle.scripting.specs.declared.refusal.Refusal.{Refusal}
use Rattle.scripting.specs.declared.refusal.Refusal.TheVariants.{Record, Deck, Floor}

abbrev pub refusal_number : Refusal → ℕ
refusal_number (Record fault) = order_fault_number fault
refusal_number (Deck fault) = build_number fault
refusal_number (Floor fault) = floor_fault_number fault

-- the text of the steps, or the line of the refusal
abbrev pub answer_text : {A : Type 0} → Result (Vec ℕ A) Refusal → List ℕ
answer_text (Ok text) = vec_items text
answer_text (Err refusal) = refused_line_bytes (refusal_number refusal)
