-- What playing calls comes to.
use Rattle.std.specs.Prelude.{◌≡◌, ℕ, ◌≤◌, List, [], ◌∷◌, ◌++◌, length}
use Rattle.grid.specs.declared.square.Square.{Square}
use Rattle.deck.specs.Decks.{DeckView}
use Rattle.chain.specs.Floors.{FloorView}
use Rattle.chain.specs.Sheets.{Event}
use Rattle.chain.specs.Chains.{Chain}
use Rattle.serve.specs.declared.Ending.{Ending}
use Rattle.serve.specs.declared.Ending.TheVariants.{Stopped, Spent}

-- what a source keeps true of a record, a deck and the events so far
abbrev pub Account : Type 1
Account = FloorView → DeckView → List Event → Type 0

-- every chain that led to the record f and the deck v goes on to g and w by these events, the newest first
abbrev pub Leads : FloorView → DeckView → List Event → FloorView → DeckView → Type 0
Leads f v events g w =
    (o : FloorView) (z : DeckView) (es : List Event) (q : ℕ → Square)
    → Chain o z f v es q
    → (q' : ℕ → Square) × Chain o z g w (events ++ es) q'

-- these events were told, and the account was kept over them
abbrev pub Keeps : FloorView → DeckView → Account → List Event → FloorView → DeckView → Account → Type 0
Keeps f v before events g w after = (es : List Event) → before f v es → after g w (events ++ es)

-- one call was made, and its event told
abbrev pub Told : FloorView → DeckView → Account → FloorView → DeckView → Account → Type 0
Told f v before g w after = (event : Event) × Leads f v (event ∷ []) g w × Keeps f v before (event ∷ []) g w after

-- how playing ended
abbrev pub Ended : Type 0 → ℕ → ℕ → Ending → Type 0
Ended over budget played Stopped = over × (played ≤ budget)
Ended over budget played Spent = played ≡ budget

-- From the record o and the deck z on there was a chain of calls that leaves the record f and the deck v; the source was
-- told its events, and kept its account over them.
pub record Served (o : FloorView) (z : DeckView) (before : Account) (f : FloorView) (v : DeckView) (after : Account) (over : Type 0) (budget : ℕ) (r : Ending) : Type 0 where
  pub events : List Event
  pub squares : ℕ → Square
  pub chain : Chain o z f v events squares
  pub account : Keeps o z before events f v after
  pub ended : Ended over budget (length events) r
