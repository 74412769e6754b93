-- The plan of an order: what a rule, and the squares that the carriers stand on, make of a floor.
use Rattle.std.specs.Prelude.{◌≡◌, ℕ, ◌<◌, List, ◌≢◌}
use Rattle.grid.specs.declared.slot.Slot.{Slot}
use Rattle.grid.specs.declared.square.Square.{Square}
use Rattle.grid.specs.Sides.{row_count, slot_count}
use Rattle.grid.specs.Slots.{slot, slot_square}
use Rattle.rules.specs.Rules.{RuleView}
use Rattle.motion.specs.Plans.{Plan, start_row, start_bay, goal_bay}
use Rattle.motion.specs.Carrying.{InSlots}
use Rattle.planning.specs.Assignments.{Assignment, AssignedGoals}
use Rattle.planning.specs.MiddleRows.{MiddleRows, FirstMatchings}

-- p is the plan for the rule on a floor of h by w cells, where carrier c stands on the square `place c`
pub record Planned (v : RuleView) (h w : ℕ) (place : ℕ → Square) (p : Plan) : Type 0 where
  pub height : p.height ≡ h
  pub width : p.width ≡ w
  pub carriers : p.carriers ≡ slot_count h w
  -- each carrier starts in the slot whose square it stands on
  pub starts : (c : ℕ) → c < p.carriers → slot_square (p.start c) ≡ place c
  pub inside : (c : ℕ) → c < p.carriers → (start_row p c < row_count h) × (start_bay p c < w)
  -- its goal is the slot assigned to it
  pub assignment : List ℕ
  pub assigned : Assignment v (slot_count h w) assignment
  pub goals : AssignedGoals p assignment
  -- its middle row is given out by the matchings
  pub matchings : ℕ → List ℕ
  pub middles : MiddleRows p matchings
  pub first : FirstMatchings p matchings

-- no two of n carriers stand on one square
abbrev pub Apart : ℕ → (ℕ → Square) → Type 0
Apart n place = (c d : ℕ) → c < d → d < n → place c ≢ place d

-- two plans say the same of every carrier
pub record Agreeing (p q : Plan) : Type 0 where
  pub start : (c : ℕ) → c < p.carriers → q.start c ≡ p.start c
  pub middle : (c : ℕ) → c < p.carriers → q.middle c ≡ p.middle c
  pub goal : (c : ℕ) → c < p.carriers → q.goal c ≡ p.goal c

-- the places take every slot of the floor, each once
pub record Permutes (p : Plan) (place : ℕ → Slot) : Type 0 where
  pub slots : InSlots p place
  pub all :
      (s : Slot)
      → s.row < row_count p.height
      → s.bay < p.width
      → (c : ℕ) × (c < p.carriers) × (place c ≡ s)

-- A column-row-column shuffle: each of the four lists of places is a permutation of the slots. From the starts to the
-- first middles each carrier keeps its bay, from there to the second middles its row, and from there to the goals its
-- bay; so the three steps permute each bay, each row and each bay.
pub record Shuffle (p : Plan) : Type 0 where
  pub starts : Permutes p p.start
  pub first_middles : Permutes p (λ c. slot (p.middle c) (start_bay p c))
  pub second_middles : Permutes p (λ c. slot (p.middle c) (goal_bay p c))
  pub goals : Permutes p p.goal
