-- The headings of a deck are found lawful, with a table to show for it.
use Rattle.std.specs.Prelude.{ℕ, List, Option}
use Rattle.deck.specs.Decks.{DeckView, Lawful}
use Rattle.decklists.specs.Notes.{EndsNoted}

pub record Cleared (v : DeckView) (table : List (Option ℕ)) : Type 0 where
  pub lawful : Lawful v
  -- the table says which carrier comes to each square
  pub noted : EndsNoted v table
