-- A deck that is laid upright, or lying: with rows and columns exchanged.
use Rattle.std.specs.Prelude.{ℕ}
use Rattle.grid.specs.declared.square.Square.{Square}
use Rattle.grid.specs.Sides.{row_count, column_count}
use Rattle.grid.specs.Squares.{turned_square}
use Rattle.deck.specs.Decks.{DeckView}
use Rattle.deck.specs.Turned.{turned_view}
use Rattle.decklists.specs.declared.extent.Extent.{Extent}
use Rattle.decklists.specs.declared.laying.Laying.{Laying}
use Rattle.decklists.specs.declared.laying.Laying.TheVariants.{Upright, Lying}

-- where a square of the floor is on the deck
abbrev pub laid_square : Laying → Square → Square
laid_square Upright s = s
laid_square Lying s = turned_square s

-- for sides h and w
abbrev pub laid_extent : Laying → ℕ → ℕ → Extent
laid_extent Upright h w = record { rows = row_count h; columns = column_count w }
laid_extent Lying h w = record { rows = column_count w; columns = row_count h }

-- how the floor looks on the deck
abbrev pub read_view : Laying → DeckView → DeckView
read_view Upright v = v
read_view Lying v = turned_view v
