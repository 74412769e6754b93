-- What the search answers, for the whole relation and for one left member.
use Rattle.std.specs.Prelude.{◌≡◌, ℕ, Bool, List, Option, Some, None, Result, Ok, Err, IsOk, ⊤}
use Rattle.matchings.specs.Matchings.{Perfect, First, Blocks, Blocking}
use Rattle.matchings.specs.Placing.{Held, Placed, Sealed, Refused}
use Rattle.matching.specs.declared.search.Blockers.{Blockers}
use Rattle.matching.specs.declared.placing.Stuck.{Stuck}

-- found: `mate` is the first perfect matching; or the first members of the work list, as many as are told, block every one
abbrev pub Answer : (A : ℕ → ℕ → Bool) (n : ℕ) (mate members : List ℕ) → Result ⊤ Blockers → Type 0
Answer A n mate members (Ok _) = First A n mate
Answer A n mate members (Err b) = Blocking A n members b.count

-- a matching is found exactly when there is a perfect one, and exactly when no set of left members blocks
pub record Exactly (A : ℕ → ℕ → Bool) (n : ℕ) (r : Result ⊤ Blockers) : Type 0 where
  pub perfect : IsOk r → (m : List ℕ) × Perfect A n m
  pub found : (m : List ℕ) → Perfect A n m → IsOk r
  pub unblocked : IsOk r → (set : ℕ → Bool) → Blocks A n set → ⊥
  pub free : ((set : ℕ → Bool) → Blocks A n set → ⊥) → IsOk r

-- all left members settled, or some that block
abbrev pub Settled : (A : ℕ → ℕ → Bool) (n : ℕ) (mate members : List ℕ) → Result ⊤ Blockers → Type 0
Settled A n mate members (Ok _) = Held A n mate
Settled A n mate members (Err b) = Blocking A n members b.count

-- the first members, where it is known of so many, are a block by themselves
abbrev pub SealedSome : (A : ℕ → ℕ → Bool) (n fixed : ℕ) (mate members : List ℕ) → Option ℕ → Type 0
SealedSome A n fixed mate members None = Unit {0}
SealedSome A n fixed mate members (Some sealed) = Sealed A n fixed mate members sealed

-- `left` has the least right member that it can have, and those members that are told are a block by themselves;
-- or it can have none, the first `reached` members come to it, and all have what they had
abbrev pub Outcome : (A : ℕ → ℕ → Bool) (n fixed left : ℕ) (block old new members : List ℕ) → Result (Option ℕ) Stuck → Type 0
Outcome A n fixed left block old new members (Ok sealed) = Placed A n fixed left old new × SealedSome A n fixed old members sealed
Outcome A n fixed left block old new members (Err s) = Refused A n fixed left block old members s.reached × (new ≡ old)
