-- The bytes that a script holds.
use Rattle.std.specs.Prelude.{ℕ, List, vec_items}
use Rattle.scripting.specs.declared.scripts.Script.{Script}
use Rattle.scripting.specs.declared.scripts.Script.TheVariants.{Steps, Refused}

abbrev pub script_text : Script → List ℕ
script_text (Steps text) = vec_items text
script_text (Refused line) = line.bytes
