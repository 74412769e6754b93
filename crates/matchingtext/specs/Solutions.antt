-- What is answered for a relation: its first perfect matching, or that it has none.
use Rattle.std.specs.Prelude.{ℕ, Bool, List, Some, None, vec_items, Option, Vec}
use Rattle.std.specs.declared.alloc.Global.{Global}
use Rattle.matchings.specs.Matchings.{Perfect, First}

-- no matching is perfect
abbrev pub Unmatched : (A : ℕ → ℕ → Bool) (n : ℕ) → Type 0
Unmatched A n = (m : List ℕ) → Perfect A n m → ⊥

-- the first perfect matching is given, or there is none
abbrev pub Solved : (A : ℕ → ℕ → Bool) (n : ℕ) → Option (Vec ℕ Global) → Type 0
Solved A n None = Unmatched A n
Solved A n (Some mate) = First A n (vec_items mate)
