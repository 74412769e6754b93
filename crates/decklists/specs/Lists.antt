-- A deck kept as a list of carriers.
use Rattle.std.specs.Prelude.{ℕ, ◌<◌, Bool, List, length, ◌≢◌, slice_index_or}
use Rattle.grid.specs.declared.heading.Heading.TheVariants.{Stay}
use Rattle.grid.specs.declared.square.Square.{Square}
use Rattle.grid.specs.Squares.{square, OnFloor}
use Rattle.deck.specs.Decks.{DeckView}
use Rattle.decklists.specs.declared.carrier.Carrier.{Carrier}
use Rattle.decklists.specs.declared.extent.Extent.{Extent}

-- what is read past the end of a list of carriers; it never counts
abbrev pub nobody : Carrier
nobody = record { square = square 0 0; heading = Stay }

-- where each carrier stands
abbrev pub placed : List Carrier → ℕ → Square
placed cs k = (slice_index_or cs k nobody).square

abbrev pub listed : Extent → List Carrier → Bool → DeckView
listed e cs ready = record {
  rows = e.rows;
  columns = e.columns;
  carriers = length cs;
  square = placed cs;
  heading = λ k. (slice_index_or cs k nobody).heading;
  ready = ready;
}

-- all carriers stand on the floor
abbrev pub Inside : Extent → List Carrier → Type 0
Inside e cs = (k : ℕ) → k < length cs → OnFloor e.rows e.columns (placed cs k)

-- no two carriers stand on one square
abbrev pub Apart : List Carrier → Type 0
Apart cs = (j k : ℕ) → j < k → k < length cs → placed cs j ≢ placed cs k
