-- What a board is to a reader.
use Rattle.std.specs.Prelude.{Bool}
use Rattle.deck.specs.Decks.{DeckView, Sound}
use Rattle.decklists.specs.Carriers.{carriers_view, carriers_sound}
use Rattle.board.specs.declared.Board.{Board}

-- the same, ready or not
abbrev pub with_ready : DeckView → Bool → DeckView
with_ready v ready = record {
  rows = v.rows;
  columns = v.columns;
  carriers = v.carriers;
  square = v.square;
  heading = v.heading;
  ready = ready;
}

-- what its carriers are, ready while its contact is closed
abbrev pub board_view : Board → DeckView
board_view b = with_ready (carriers_view b.carriers) b.closed

pub board_sound : (b : Board) → Sound (board_view b)
board_sound b =
    let s = carriers_sound b.carriers in
    record { inside = s.inside; apart = s.apart }
