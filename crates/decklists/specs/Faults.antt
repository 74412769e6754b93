-- The numbers of the refusals to make a deck.
use Rattle.std.specs.Prelude.{ℕ, List, codes}
use Rattle.decklists.specs.declared.fault.BuildFault.{BuildFault}
use Rattle.decklists.specs.declared.fault.BuildFault.TheVariants.{BadSides, NoMemory}

abbrev pub build_number : BuildFault → ℕ
build_number BadSides = 1
build_number NoMemory = 47

-- what each says in words
abbrev pub build_text : BuildFault → List ℕ
build_text BadSides = codes "a side is not from 1 to 16 cells"
build_text NoMemory = codes "there is no memory for the deck"
