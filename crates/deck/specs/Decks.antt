-- What a deck is, which moves are lawful, and what steer and go answer and leave.
use Rattle.std.specs.Prelude.{◌≡◌, ℕ, ◌<◌, ◌≤◌, Bool, true, false, Ok, Err, Result, ◌≢◌}
use Rattle.grid.specs.declared.heading.Heading.{Heading}
use Rattle.grid.specs.declared.heading.Heading.TheVariants.{Stay}
use Rattle.grid.specs.declared.square.Square.{Square}
use Rattle.grid.specs.Headings.{heading_number}
use Rattle.grid.specs.Squares.{OnFloor, Remains, led}
use Rattle.deck.specs.declared.fault.DeckFault.{DeckFault}
use Rattle.deck.specs.declared.fault.DeckFault.TheVariants.{NotReady, OffFloor, SharedSquare, Exchange, NoCarrier, NoHeading}

-- What a deck is to a reader. Only what `square` and `heading` say of numbers below `carriers` counts.
pub record DeckView : Type 0 where
  pub rows : ℕ
  pub columns : ℕ
  pub carriers : ℕ
  pub square : ℕ → Square
  pub heading : ℕ → Heading
  pub ready : Bool

-- In every deck the carriers stand on different squares of the floor.
pub record Sound (v : DeckView) : Type 0 where
  pub inside : (k : ℕ) → k < v.carriers → OnFloor v.rows v.columns (v.square k)
  pub apart : (j k : ℕ) → j < k → k < v.carriers → v.square j ≢ v.square k

-- Lawful moves. A carrier may enter a square that another leaves in the same move.

-- where carrier k comes to
abbrev pub end : DeckView → ℕ → Square
end v k = led (v.square k) (v.heading k)

abbrev pub RemainsAt : DeckView → ℕ → Type 0
RemainsAt v k = Remains v.rows v.columns (v.square k) (v.heading k)

-- every carrier remains on the floor
abbrev pub AllRemain : DeckView → Type 0
AllRemain v = (k : ℕ) → k < v.carriers → RemainsAt v k

abbrev pub SomeLeaves : DeckView → Type 0
SomeLeaves v = (k : ℕ) × (k < v.carriers) × (RemainsAt v k → ⊥)

-- no two carriers end on one square
abbrev pub EndsDiffer : DeckView → Type 0
EndsDiffer v = (j k : ℕ) → j < k → k < v.carriers → end v j ≢ end v k

abbrev pub SomeMeet : DeckView → Type 0
SomeMeet v = (j : ℕ) × (k : ℕ) × (j < k) × (k < v.carriers) × (end v j ≡ end v k)

abbrev pub Exchanges : DeckView → ℕ → ℕ → Type 0
Exchanges v j k = (end v j ≡ v.square k) × (end v k ≡ v.square j)

-- no two carriers exchange squares
abbrev pub NoneExchange : DeckView → Type 0
NoneExchange v = (j k : ℕ) → j < k → k < v.carriers → Exchanges v j k → ⊥

abbrev pub SomeExchange : DeckView → Type 0
SomeExchange v = (j : ℕ) × (k : ℕ) × (j < k) × (k < v.carriers) × Exchanges v j k

-- the headings together are a lawful move
pub record Lawful (v : DeckView) : Type 0 where
  pub remain : AllRemain v
  pub differ : EndsDiffer v
  pub pass : NoneExchange v

-- What a call leaves.

-- sizes and the number of carriers never change
pub record SameFloor (v w : DeckView) : Type 0 where
  pub rows : w.rows ≡ v.rows
  pub columns : w.columns ≡ v.columns
  pub carriers : w.carriers ≡ v.carriers

abbrev pub Unmoved : DeckView → DeckView → Type 0
Unmoved v w = (k : ℕ) → k < v.carriers → w.square k ≡ v.square k

-- every carrier's heading is stay
abbrev pub Resting : DeckView → Type 0
Resting w = (k : ℕ) → k < w.carriers → w.heading k ≡ Stay

pub record Unchanged (v w : DeckView) : Type 0 where
  pub floor : SameFloor v w
  pub unmoved : Unmoved v w
  pub headings : (k : ℕ) → k < v.carriers → w.heading k ≡ v.heading k
  pub ready : w.ready ≡ v.ready

-- a refused go moves nobody and sets all headings to stay
pub record Halted (v w : DeckView) : Type 0 where
  pub floor : SameFloor v w
  pub unmoved : Unmoved v w
  pub resting : Resting w
  pub ready : w.ready ≡ v.ready

-- An accepted go moves every carrier by its heading and sets all headings to stay. It says nothing of
-- `w.ready`: whether a deck is ready after an accepted go is free, and nothing else is.
pub record Moved (v w : DeckView) : Type 0 where
  pub floor : SameFloor v w
  pub moves : (k : ℕ) → k < v.carriers → w.square k ≡ end v k
  pub resting : Resting w

-- one heading is set, and nothing else
pub record Steers (v : DeckView) (carrier number : ℕ) (w : DeckView) : Type 0 where
  pub floor : SameFloor v w
  pub unmoved : Unmoved v w
  pub heading : heading_number (w.heading carrier) ≡ number
  pub others : (k : ℕ) → k < v.carriers → (k ≢ carrier) → w.heading k ≡ v.heading k
  pub ready : w.ready ≡ v.ready

-- What steer answers.

-- when steer refuses, in the order of its questions
abbrev pub SteerRefused : DeckView → ℕ → ℕ → DeckFault → Type 0
SteerRefused v carrier number NotReady = ⊥
SteerRefused v carrier number OffFloor = ⊥
SteerRefused v carrier number SharedSquare = ⊥
SteerRefused v carrier number Exchange = ⊥
SteerRefused v carrier number NoCarrier = v.carriers ≤ carrier
SteerRefused v carrier number NoHeading = (carrier < v.carriers) × (4 < number)

abbrev pub Steered : {U : Type 0} → DeckView → ℕ → ℕ → Result U DeckFault → DeckView → Type 0
Steered v carrier number (Ok u) w = (carrier < v.carriers) × (number ≤ 4) × Steers v carrier number w
Steered v carrier number (Err f) w = SteerRefused v carrier number f × Unchanged v w

-- What go answers.

-- when go refuses, in the order of its four questions
abbrev pub GoRefused : DeckView → DeckFault → Type 0
GoRefused v NotReady = v.ready ≡ false
GoRefused v OffFloor = (v.ready ≡ true) × SomeLeaves v
GoRefused v SharedSquare = (v.ready ≡ true) × AllRemain v × SomeMeet v
GoRefused v Exchange = (v.ready ≡ true) × AllRemain v × EndsDiffer v × SomeExchange v
GoRefused v NoCarrier = ⊥
GoRefused v NoHeading = ⊥

abbrev pub Went : {U : Type 0} → DeckView → Result U DeckFault → DeckView → Type 0
Went v (Ok u) w = (v.ready ≡ true) × Lawful v × Moved v w
Went v (Err f) w = GoRefused v f × Halted v w
