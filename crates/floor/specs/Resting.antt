-- Carriers that rest in the slots where a deck shows them.
use Rattle.std.specs.Prelude.{◌≡◌, ℕ, ◌<◌, List}
use Rattle.grid.specs.declared.slot.Slot.{Slot}
use Rattle.grid.specs.declared.square.Square.{Square}
use Rattle.grid.specs.Sides.{row_count}
use Rattle.grid.specs.Slots.{slot_square}
use Rattle.deck.specs.Decks.{DeckView}
use Rattle.course.specs.declared.route.Route.{Route}
use Rattle.course.specs.Routes.{route_at}
use Rattle.chain.specs.Calls.{InSlot}

-- the slot of a floor of h by w cells whose square this is
pub record SlotUnder (h w : ℕ) (q : Square) (s : Slot) : Type 0 where
  pub row : s.row < row_count h
  pub bay : s.bay < w
  pub square : slot_square s ≡ q

-- a route from a slot to itself
abbrev pub resting : Slot → Route
resting s = record { start = s; middle_row = s.row; goal = s }

-- the route of carrier c is to rest in the slot where it stands
pub record Rests (h w : ℕ) (v : DeckView) (c : ℕ) (r : Route) : Type 0 where
  pub stands : InSlot h w v c r.start
  pub rests : r ≡ resting r.start

abbrev pub AllRest : ℕ → ℕ → DeckView → ℕ → List Route → Type 0
AllRest h w v n routes = (c : ℕ) → c < n → Rests h w v c (route_at routes c)
