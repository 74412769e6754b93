-- A deck of one cell, and what settles the answer of its go.
use Rattle.std.specs.Prelude.{◌≡◌, true, List, Ok, Err, Result}
use Rattle.grid.specs.declared.heading.Heading.{Heading}
use Rattle.grid.specs.declared.heading.Heading.TheVariants.{Stay}
use Rattle.grid.specs.Slots.{slot_square, numbered_slot}
use Rattle.deck.specs.declared.fault.DeckFault.{DeckFault}
use Rattle.deck.specs.Decks.{DeckView, Lawful, GoRefused, Went}
use Rattle.deck.specs.Driven.{headed}

-- one cell, ready, with carrier s on slot s: from the top 0, 1 and 2 in the middle column
abbrev pub one_cell : DeckView
one_cell = record {
  rows = 3;
  columns = 3;
  carriers = 3;
  square = λ s. slot_square (numbered_slot 1 s);
  heading = λ _. Stay;
  ready = true;
}

-- the same, steered by a list; a carrier past its end stays
abbrev pub steered : List Heading → DeckView
steered hs = headed one_cell hs

-- the headings are lawful, and no deck that shows this refuses to go
pub record Accepted (v : DeckView) : Type 0 where
  pub lawful : Lawful v
  pub only_answer : (r : Result (Unit {0}) DeckFault) (w : DeckView) → Went v r w → r ≡ Ok tt

-- the refusal fits, and no deck that shows this answers anything else
pub record Refused (v : DeckView) (f : DeckFault) : Type 0 where
  pub fits : GoRefused v f
  pub only_answer : (r : Result (Unit {0}) DeckFault) (w : DeckView) → Went v r w → r ≡ Err f
