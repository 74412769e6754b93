-- What a deck looks like with rows and columns exchanged.
use Rattle.std.specs.Prelude.{◌≡◌}
use Rattle.std.proofs.Common.{ap}
use Rattle.grid.specs.Headings.{turned_heading}
use Rattle.grid.specs.Squares.{turned_square}
use Rattle.deck.specs.Decks.{DeckView, Sound}

abbrev pub turned_view : DeckView → DeckView
turned_view v = record {
  rows = v.columns;
  columns = v.rows;
  carriers = v.carriers;
  square = λ k. turned_square (v.square k);
  heading = λ k. turned_heading (v.heading k);
  ready = v.ready;
}

pub turned_sound : (v : DeckView) → Sound v → Sound (turned_view v)
turned_sound v s = record {
  inside = λ k h. ((s.inside k h).1, (s.inside k h).0);
  apart = λ j k jk h e. s.apart j k jk h (ap turned_square e);
}

-- to turn twice is to leave as it was
abbrev pub TurningTwiceChangesNothing : Type 0
TurningTwiceChangesNothing = (v : DeckView) → turned_view (turned_view v) ≡ v
