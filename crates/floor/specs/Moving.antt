-- One move of a plan made on a deck, on or back.
use Rattle.std.specs.Prelude.{◌≡◌, ℕ, ◌+◌, true, false, Ok, Err, Result}
use Rattle.grid.specs.declared.heading.Heading.{Heading}
use Rattle.grid.specs.declared.square.Square.{Square}
use Rattle.grid.specs.Headings.{opposite}
use Rattle.deck.specs.Decks.{DeckView, SameFloor, Unchanged, Halted, Resting}
use Rattle.deck.specs.declared.fault.DeckFault.{DeckFault}
use Rattle.motion.specs.Plans.{Plan, whole}
use Rattle.chain.specs.Floors.{FloorView, Stands}
use Rattle.chain.specs.Calls.{MovedTo}
use Rattle.chain.specs.declared.fault.FloorFault.{FloorFault}
use Rattle.chain.specs.declared.fault.FloorFault.TheVariants.{Astray, GoRefused}
use Rattle.floor.specs.declared.record.moves.Way.{Way}
use Rattle.floor.specs.declared.record.moves.Way.TheVariants.{On, Back}
use Rattle.floor.specs.Standing.{Placed}

-- the heading of a carrier in a step that is made or undone
abbrev pub way_heading : Way → Heading → Heading
way_heading On heading = heading
way_heading Back heading = opposite heading

-- where the carriers are before step t is made or undone, and after it
abbrev pub leaving : Way → Plan → ℕ → ℕ → Square
leaving On p t = (whole p).place t
leaving Back p t = (whole p).place (t + 1)

abbrev pub coming : Way → Plan → ℕ → ℕ → Square
coming On p t = (whole p).place (t + 1)
coming Back p t = (whole p).place t

-- the deck was ready, and the carriers are now on these squares
pub record Arrived (v : DeckView) (place : ℕ → Square) (w : DeckView) : Type 0 where
  pub ready : v.ready ≡ true
  pub floor : SameFloor v w
  pub placed : Placed w v.carriers place
  pub resting : Resting w

-- the move is refused only where the deck is not ready
abbrev pub Gone : {U : Type 0} → DeckView → (ℕ → Square) → Result U DeckFault → DeckView → Type 0
Gone v place (Ok u) w = Arrived v place w
Gone v place (Err e) w = (v.ready ≡ false) × Halted v w

-- A record and its deck when a move is asked for, whichever way: made, so that n steps are done, or refused.

pub data HeldBack (f : FloorView) (v w : DeckView) : FloorFault → Type 0 where
  astray : (Stands f v → ⊥) → Unchanged v w → HeldBack f v w Astray
  go_refused : Stands f v → v.ready ≡ false → Halted v w → HeldBack f v w GoRefused

abbrev pub Advanced : FloorView → DeckView → ℕ → Result ℕ FloorFault → FloorView → DeckView → Type 0
Advanced f v n (Ok m) g w = (m ≡ n) × MovedTo f v m g w
Advanced f v n (Err e) g w = HeldBack f v w e × (g ≡ f)
