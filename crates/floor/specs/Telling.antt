-- An answer of yes or no to a question.
use Rattle.std.specs.Prelude.{Bool, MatchBool}

-- it tells whether the fact holds
abbrev pub Tells : Bool → Type 0 → Type 0
Tells answer fact = MatchBool answer fact (fact → ⊥)
