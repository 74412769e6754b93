-- What holds of every chain of calls, each promise by its name.
use Rattle.std.specs.Prelude.{◌≡◌, ℕ, ◌+◌, ◌<◌, ◌≤◌, true, ◌⊎◌, List, length, Some, Ok, Err, Result}
use Rattle.grid.specs.declared.square.Square.{Square}
use Rattle.grid.specs.Sides.{slot_count}
use Rattle.grid.specs.Slots.{slot_square, numbered_slot}
use Rattle.deck.specs.Decks.{DeckView, Sound}
use Rattle.rules.specs.Rules.{RuleView}
use Rattle.matchings.specs.Matchings.{First, ◌!◌}
use Rattle.motion.specs.Plans.{Plan, whole, first_columns_steps, turn_steps, rows_steps, turn_back_steps, last_columns_steps}
use Rattle.motion.specs.Carrying.{longest}
use Rattle.planning.specs.Planned.{Planned}
use Rattle.chain.specs.Floors.{FloorView}
use Rattle.chain.specs.Calls.{Clean, RuleFor, Fillable, Ordered, Stepped, Backed}
use Rattle.chain.specs.Sheets.{Event, Sheet, sheet_of}
use Rattle.chain.specs.Chains.{Chain}
use Rattle.chain.specs.declared.fault.FloorFault.{FloorFault}
use Rattle.chain.specs.declared.fault.FloorFault.TheVariants.{Astray, Unfillable}

-- an order's earlier questions are answered yes, the first of them by the sheet
pub record EarlierChecks (n : ℕ) (s : Sheet) (r : RuleView) (marks : List ℕ) : Type 0 where
  pub at_rest : (s.net ≡ 0) ⊎ (s.net ≡ s.full)
  pub enough : n ≤ length marks
  pub clean : Clean marks n
  pub rule_for : RuleFor n r

-- a call was accepted
abbrev pub IsOk : Result ℕ FloorFault → Type 0
IsOk (Ok n) = Unit {0}
IsOk (Err e) = ⊥

-- two carriers exchange squares
abbrev pub Swapped : DeckView → DeckView → ℕ → ℕ → Type 0
Swapped v w c d = (w.square c ≡ v.square d) × (w.square d ≡ v.square c)

-- Of a floor of h by w cells, a chain that left the record f, the deck v, the events es and the squares q:
pub record Promised (h w : ℕ) (f : FloorView) (v : DeckView) (es : List Event) (q : ℕ → Square) : Type 0 where
  -- an order that passes the earlier checks is refused exactly when it cannot be filled, and then as unfillable
  pub filled_if_fillable :
      (r : RuleView) (marks : List ℕ) (answer : Result ℕ FloorFault) (g : FloorView)
      → Ordered f v r marks answer g
      → EarlierChecks (slot_count h w) (sheet_of es) r marks
      → Fillable (slot_count h w) r
      → IsOk answer
  pub refused_if_unfillable :
      (r : RuleView) (marks : List ℕ) (answer : Result ℕ FloorFault) (g : FloorView)
      → Ordered f v r marks answer g
      → EarlierChecks (slot_count h w) (sheet_of es) r marks
      → (Fillable (slot_count h w) r → ⊥)
      → answer ≡ Err Unfillable
  -- the record never puts a carrier where it is not, so no order, step or back is refused for that
  pub never_astray :
      (r : RuleView) (marks : List ℕ) (g : FloorView) → Ordered f v r marks (Err Astray) g → ⊥
  pub never_astray_in_step : (g : FloorView) (u : DeckView) → Stepped f v (Err Astray) g u → ⊥
  pub never_astray_in_back : (g : FloorView) (u : DeckView) → Backed f v (Err Astray) g u → ⊥
  -- after no call do two carriers share a square
  pub never_two_on_a_square : Sound v
  -- in no call do two exchange squares
  pub never_an_exchange_in_step :
      (answer : Result ℕ FloorFault) (g : FloorView) (u : DeckView) (c d : ℕ)
      → Stepped f v answer g u
      → c < d
      → d < slot_count h w
      → Swapped v u c d
      → ⊥
  pub never_an_exchange_in_back :
      (answer : Result ℕ FloorFault) (g : FloorView) (u : DeckView) (c d : ℕ)
      → Backed f v answer g u
      → c < d
      → d < slot_count h w
      → Swapped v u c d
      → ⊥
  -- step is accepted exactly when a move is left and the deck is ready
  pub step_accepted :
      (answer : Result ℕ FloorFault) (g : FloorView) (u : DeckView)
      → Stepped f v answer g u
      → (sheet_of es).net < (sheet_of es).full
      → v.ready ≡ true
      → IsOk answer
  pub step_had_a_move :
      (answer : Result ℕ FloorFault) (g : FloorView) (u : DeckView)
      → Stepped f v answer g u
      → IsOk answer
      → ((sheet_of es).net < (sheet_of es).full) × (v.ready ≡ true)
  -- back is accepted exactly when a move is made and the deck is ready
  pub back_accepted :
      (answer : Result ℕ FloorFault) (g : FloorView) (u : DeckView)
      → Backed f v answer g u
      → 0 < (sheet_of es).net
      → v.ready ≡ true
      → IsOk answer
  pub back_had_a_move :
      (answer : Result ℕ FloorFault) (g : FloorView) (u : DeckView)
      → Backed f v answer g u
      → IsOk answer
      → (0 < (sheet_of es).net) × (v.ready ≡ true)
  -- at the full count every slot holds the carrier that the rule's assignment gives it, one that the rule admits
  pub filled_at_the_full_count :
      (r : RuleView) (m : List ℕ)
      → (sheet_of es).rule ≡ Some r
      → (sheet_of es).net ≡ (sheet_of es).full
      → First r.admits (slot_count h w) m
      → (s : ℕ)
      → s < slot_count h w
      → (v.square (m ! s) ≡ slot_square (numbered_slot w s)) × (r.admits s (m ! s) ≡ true)
  -- and there is such an assignment
  pub assignment_exists :
      (r : RuleView) → (sheet_of es).rule ≡ Some r → (m : List ℕ) × First r.admits (slot_count h w) m
  -- the full count is the sum of the plan's stages, and within the bound
  pub full_count_is_the_length :
      (r : RuleView) (p : Plan)
      → (sheet_of es).rule ≡ Some r
      → Planned r h w q p
      → ((sheet_of es).full
      ≡ first_columns_steps p + turn_steps p + rows_steps p + turn_back_steps p + last_columns_steps p)
      × ((sheet_of es).full ≤ longest h w)
  -- the carriers are where the order's plan has them after the net count: accepted steps make that plan's moves in
  -- turn, and accepted backs undo them, the last first
  pub moves_in_turn :
      (r : RuleView) (p : Plan)
      → (sheet_of es).rule ≡ Some r
      → Planned r h w q p
      → (c : ℕ)
      → c < slot_count h w
      → v.square c ≡ (whole p).place (sheet_of es).net c
  -- and there is such a plan
  pub plan_exists : (r : RuleView) → (sheet_of es).rule ≡ Some r → (p : Plan) × Planned r h w q p

-- every chain of calls on the record o over the deck z keeps the promises
abbrev pub EveryChainKeepsItsPromises : ℕ → ℕ → FloorView → DeckView → Type 0
EveryChainKeepsItsPromises h w o z =
    (f : FloorView) (v : DeckView) (es : List Event) (q : ℕ → Square) → Chain o z f v es q → Promised h w f v es q
