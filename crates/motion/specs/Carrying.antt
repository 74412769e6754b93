-- What holds while a good plan is carried out, move by move.
use Rattle.std.specs.Prelude.{◌≡◌, ℕ, ◌+◌, ◌*◌, ◌<◌, ◌≤◌, true, ◌≢◌}
use Rattle.grid.specs.declared.slot.Slot.{Slot}
use Rattle.grid.specs.Headings.{opposite}
use Rattle.grid.specs.Sides.{row_count, column_count}
use Rattle.grid.specs.Slots.{slot, slot_square}
use Rattle.deck.specs.Decks.{DeckView, Sound, Lawful, end}
use Rattle.motion.specs.Plans.{Plan, start_bay, goal_bay, first_columns_steps, turn_steps, rows_steps, turn_back_steps, last_columns_steps, whole, plan_steps}

-- Good plans.

-- the carriers are in slots of the floor, no two in one; so as many carriers as slots fill them all
pub record InSlots (p : Plan) (place : ℕ → Slot) : Type 0 where
  pub inside : (c : ℕ) → c < p.carriers → ((place c).row < row_count p.height) × ((place c).bay < p.width)
  pub apart : (c d : ℕ) → c < d → d < p.carriers → place c ≢ place d

pub record Good (p : Plan) : Type 0 where
  pub starts : InSlots p p.start
  pub after_first_columns : InSlots p (λ c. slot (p.middle c) (start_bay p c))
  pub before_last_columns : InSlots p (λ c. slot (p.middle c) (goal_bay p c))
  pub goals : InSlots p p.goal

-- The deck on the way.

-- the deck after t steps of the plan, with the headings of the step after them
abbrev pub moment : Plan → ℕ → DeckView
moment p t =
    record {
      rows = row_count p.height;
      columns = column_count p.width;
      carriers = p.carriers;
      square = (whole p).place t;
      heading = (whole p).heading t;
      ready = true;
    }

-- the deck after t + 1 steps of the plan, with the headings that undo the last of them
abbrev pub retreat : Plan → ℕ → DeckView
retreat p t =
    record {
      rows = row_count p.height;
      columns = column_count p.width;
      carriers = p.carriers;
      square = (whole p).place (t + 1);
      heading = λ c. opposite ((whole p).heading t c);
      ready = true;
    }

-- the length that no plan exceeds, on a floor so many cells high and wide
abbrev pub longest : ℕ → ℕ → ℕ
longest height width = 2 * row_count height + column_count width + 5

-- The plan is carried out.

pub record Carried (p : Plan) : Type 0 where
  -- at each time the carriers stand on different squares of the floor
  pub sound : (t : ℕ) → t ≤ plan_steps p → Sound (moment p t)
  -- each move is lawful, and leads on to the next places
  pub lawful : (t : ℕ) → t < plan_steps p → Lawful (moment p t)
  pub leads : (t c : ℕ) → t < plan_steps p → c < p.carriers → end (moment p t) c ≡ (whole p).place (t + 1) c
  -- so is each move undone, and leads back to the places before
  pub undone_lawful : (t : ℕ) → t < plan_steps p → Lawful (retreat p t)
  pub undone_leads : (t c : ℕ) → t < plan_steps p → c < p.carriers → end (retreat p t) c ≡ (whole p).place t c
  -- from the starts to the goals
  pub begins : (c : ℕ) → c < p.carriers → (whole p).place 0 c ≡ slot_square (p.start c)
  pub ends : (c : ℕ) → c < p.carriers → (whole p).place (plan_steps p) c ≡ slot_square (p.goal c)
  -- in as many steps as the stages have together, and at most so many
  pub sum : plan_steps p ≡ first_columns_steps p + turn_steps p + rows_steps p + turn_back_steps p + last_columns_steps p
  pub short : plan_steps p ≤ longest p.height p.width

abbrev pub PlansAreCarried : Type 0
PlansAreCarried = (p : Plan) → Good p → Carried p
