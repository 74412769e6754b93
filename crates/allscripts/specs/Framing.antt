-- Records one after another, each after its length in two bytes.
use Rattle.std.specs.Prelude.{◌≡◌, ℕ, ◌+◌, ◌-◌, ◌*◌, ◌≤◌, min, List, ◌++◌, length, drop, slice_index}

-- high byte first
abbrev pub length_told : List ℕ → ℕ
length_told input = slice_index input 0 * 256 + slice_index input 1

-- the first record is as long as is told, or all that is left of the input; the rest comes after it
pub record FirstRecord (input first rest : List ℕ) : Type 0 where
  pub told : 2 ≤ length input
  pub parts : drop 2 input ≡ first ++ rest
  pub long : length first ≡ min (length_told input) (length input - 2)
