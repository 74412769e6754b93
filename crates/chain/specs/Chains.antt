-- Every chain of calls from open on.
use Rattle.std.specs.Prelude.{ℕ, List, [], ◌∷◌, Ok, Err, Result}
use Rattle.grid.specs.declared.square.Square.{Square}
use Rattle.deck.specs.Decks.{DeckView, SameFloor, Unmoved}
use Rattle.rules.specs.Rules.{RuleView}
use Rattle.chain.specs.Floors.{FloorView}
use Rattle.chain.specs.Calls.{Ordered, Stepped, Backed}
use Rattle.chain.specs.Sheets.{Event}
use Rattle.chain.specs.declared.fault.FloorFault.{FloorFault}

-- the squares that the deck showed when the last order was accepted
abbrev pub shown_at_order : Result ℕ FloorFault → DeckView → (ℕ → Square) → ℕ → Square
shown_at_order (Ok n) v before = v.square
shown_at_order (Err e) v before = before

-- A chain that began with the record o that open gave over the deck z: the record and the deck as it leaves them, its
-- events, the newest first, and the squares that the deck showed at the last accepted order. Each call is held to the
-- very relation that its contract states, and a refused call is a call.
pub data Chain (o : FloorView) (z : DeckView) : FloorView → DeckView → List Event → (ℕ → Square) → Type 0 where
  opened : Chain o z o z [] z.square
  -- between two calls readiness and headings may change, squares may not
  drifted :
      {f : FloorView} {v w : DeckView} {h : List Event} {q : ℕ → Square}
      → Chain o z f v h q
      → SameFloor v w
      → Unmoved v w
      → Chain o z f w h q
  ordered :
      {f g : FloorView} {v : DeckView} {h : List Event} {q : ℕ → Square}
      (r : RuleView) (marks : List ℕ) (answer : Result ℕ FloorFault)
      → Chain o z f v h q
      → Ordered f v r marks answer g
      → Chain o z g v (Event.order r marks answer ∷ h) (shown_at_order answer v q)
  stepped :
      {f g : FloorView} {v w : DeckView} {h : List Event} {q : ℕ → Square} (answer : Result ℕ FloorFault)
      → Chain o z f v h q
      → Stepped f v answer g w
      → Chain o z g w (Event.step answer ∷ h) q
  backed :
      {f g : FloorView} {v w : DeckView} {h : List Event} {q : ℕ → Square} (answer : Result ℕ FloorFault)
      → Chain o z f v h q
      → Backed f v answer g w
      → Chain o z g w (Event.back answer ∷ h) q
