-- Tables over the squares of a floor, which note a carrier on some of them.
use Rattle.std.specs.Prelude.{◌≡◌, ℕ, ◌+◌, ◌*◌, ◌<◌, List, Some, None, Option, slice_index_or}
use Rattle.grid.specs.declared.square.Square.{Square}
use Rattle.deck.specs.Decks.{DeckView, end}

-- the number of a square, counted row by row
abbrev pub square_number : ℕ → Square → ℕ
square_number columns s = s.row * columns + s.column

-- carrier k is noted on square `at k`, for each k below n
abbrev pub EachNoted : ℕ → ℕ → (ℕ → Square) → List (Option ℕ) → Type 0
EachNoted columns n at table = (k : ℕ) → k < n → slice_index_or table (square_number columns (at k)) None ≡ Some k

-- nobody else is noted
abbrev pub NobodyElse : ℕ → List (Option ℕ) → Type 0
NobodyElse n table = (p k : ℕ) → slice_index_or table p None ≡ Some k → k < n

-- and each on no other square
abbrev pub NowhereElse : ℕ → (ℕ → Square) → List (Option ℕ) → Type 0
NowhereElse columns at table = (p k : ℕ) → slice_index_or table p None ≡ Some k → square_number columns (at k) ≡ p

pub record Noted (columns n : ℕ) (at : ℕ → Square) (table : List (Option ℕ)) : Type 0 where
  pub each : EachNoted columns n at table
  pub nobody_else : NobodyElse n table
  pub nowhere_else : NowhereElse columns at table

-- the table says which carrier comes to each square
abbrev pub EndsNoted : DeckView → List (Option ℕ) → Type 0
EndsNoted v table = Noted v.columns v.carriers (end v) table

-- the table says which carrier stands on each square
abbrev pub PlacesNoted : DeckView → List (Option ℕ) → Type 0
PlacesNoted v table = Noted v.columns v.carriers v.square table
