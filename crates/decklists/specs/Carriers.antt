-- What carriers are to a reader: a deck that is always ready.
use Rattle.std.specs.Prelude.{true, vec_items}
use Rattle.deck.specs.Decks.{DeckView, Sound}
use Rattle.decklists.specs.declared.carriers.Carriers.{Carriers}
use Rattle.decklists.specs.Lists.{listed}

-- the notes are no part of it
abbrev pub carriers_view : Carriers → DeckView
carriers_view c = listed c.extent (vec_items c.list) true

pub carriers_sound : (c : Carriers) → Sound (carriers_view c)
carriers_sound c = record { inside = c.inside; apart = c.apart }
