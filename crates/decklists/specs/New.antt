-- What a new deck is, and why one is not made.
use Rattle.std.specs.Prelude.{◌≡◌, ℕ, ◌<◌, true}
use Rattle.grid.specs.Sides.{GoodSides, row_count, column_count, slot_count}
use Rattle.grid.specs.Slots.{slot_square, numbered_slot}
use Rattle.deck.specs.Decks.{DeckView, Resting}
use Rattle.decklists.specs.declared.fault.BuildFault.{BuildFault}
use Rattle.decklists.specs.declared.fault.BuildFault.TheVariants.{BadSides, NoMemory}

-- on a floor of sides h and w: carrier s stands on slot s, all headings are stay, and the deck is ready
pub record New (h w : ℕ) (v : DeckView) : Type 0 where
  pub rows : v.rows ≡ row_count h
  pub columns : v.columns ≡ column_count w
  pub carriers : v.carriers ≡ slot_count h w
  pub on_slots : (s : ℕ) → s < slot_count h w → v.square s ≡ slot_square (numbered_slot w s)
  pub resting : Resting v
  pub ready : v.ready ≡ true

abbrev pub NotMade : ℕ → ℕ → BuildFault → Type 0
NotMade h w BadSides = GoodSides h w → ⊥
NotMade h w NoMemory = GoodSides h w
