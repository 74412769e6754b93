-- From the bytes of an order record to the lines of its script.
use Rattle.std.specs.Prelude.{◌≡◌, ℕ, List, [], ◌∷◌, ◌++◌}
use Rattle.scripting.specs.Theorems.{InMemory}

-- each line ends with byte 10
abbrev pub lines : List (List ℕ) → List ℕ
lines [] = []
lines (l ∷ ls) = l ++ 10 ∷ lines ls

-- the script of these bytes is this text, and no other that does not tell of want of memory
pub record OnlyScript (bytes text : List ℕ) : Type 0 where
  pub script : InMemory bytes text
  pub only : (other : List ℕ) → InMemory bytes other → other ≡ text
