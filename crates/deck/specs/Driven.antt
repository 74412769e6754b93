-- What a deck answers and leaves when all its carriers are steered by a list and it goes.
use Rattle.std.specs.Prelude.{◌≡◌, ◌<◌, ◌≤◌, List, length, Err, Result, slice_index_or}
use Rattle.grid.specs.declared.heading.Heading.{Heading}
use Rattle.grid.specs.declared.heading.Heading.TheVariants.{Stay}
use Rattle.deck.specs.declared.fault.DeckFault.{DeckFault}
use Rattle.deck.specs.declared.fault.DeckFault.TheVariants.{NoCarrier}
use Rattle.deck.specs.Decks.{DeckView, Unchanged, Went}

-- the deck with every carrier steered by the list, and to stay past its end
abbrev pub headed : DeckView → List Heading → DeckView
headed v hs = record {
  rows = v.rows;
  columns = v.columns;
  carriers = v.carriers;
  square = v.square;
  heading = λ k. slice_index_or hs k Stay;
  ready = v.ready;
}

pub record Driven {U : Type 0} (v : DeckView) (hs : List Heading) (r : Result U DeckFault) (w : DeckView) : Type 0 where
  -- headings for more carriers than there are: refused before anything is steered
  pub too_long : v.carriers < length hs → (r ≡ Err NoCarrier) × Unchanged v w
  -- otherwise it goes as the deck so steered goes
  pub goes : length hs ≤ v.carriers → Went (headed v hs) r w
