-- What a roster is to a reader.
use Rattle.deck.specs.Decks.{DeckView, Sound}
use Rattle.decklists.specs.Carriers.{carriers_view, carriers_sound}
use Rattle.roster.specs.declared.Roster.{Roster}

-- what its carriers are, always ready
abbrev pub roster_view : Roster → DeckView
roster_view r = carriers_view r.carriers

pub roster_sound : (r : Roster) → Sound (roster_view r)
roster_sound r = carriers_sound r.carriers
