-- What holds of every relation: the statements of the theorems.
use Rattle.std.specs.Prelude.{◌≡◌, ℕ, Bool, List}
use Rattle.matchings.specs.Matchings.{Perfect, First, Blocks}
use Rattle.matchings.specs.Regular.{RegularCounts}

-- no two perfect matchings come first
abbrev pub FirstIsUnique : Type 0
FirstIsUnique = (A : ℕ → ℕ → Bool) (n : ℕ) (m p : List ℕ) → First A n m → First A n p → p ≡ m

-- where some left members block, no matching is perfect
abbrev pub PerfectExcludesBlocking : Type 0
PerfectExcludesBlocking = (A : ℕ → ℕ → Bool) (n : ℕ) (m : List ℕ) (set : ℕ → Bool) → Perfect A n m → Blocks A n set → ⊥

-- in a relation of regular counts no left members block
abbrev pub RegularNeverBlocks : Type 0
RegularNeverBlocks = (A : ℕ → ℕ → Bool) (n : ℕ) (set : ℕ → Bool) → RegularCounts A n → Blocks A n set → ⊥
