-- What each call answers and leaves, of the floor record and the deck, in every case. Each refusal says when, in the
-- order of the questions, it is given.
use Rattle.std.specs.Prelude.{◌≡◌, ℕ, ◌+◌, ◌<◌, ◌≤◌, min, true, false, ◌⊎◌, List, length, Ok, Err, Result, slice_index}
use Rattle.grid.specs.declared.slot.Slot.{Slot}
use Rattle.grid.specs.Sides.{GoodSides, row_count, slot_count}
use Rattle.grid.specs.Slots.{slot_square}
use Rattle.deck.specs.Decks.{DeckView, SameFloor, Unchanged, Halted, Resting}
use Rattle.rules.specs.Rules.{RuleView}
use Rattle.matchings.specs.Matchings.{Perfect}
use Rattle.motion.specs.Plans.{plan_steps, whole}
use Rattle.planning.specs.Planned.{Planned}
use Rattle.chain.specs.Floors.{FloorView, slots, with_done, Sized, Stands}
use Rattle.chain.specs.declared.fault.FloorFault.{FloorFault}
use Rattle.chain.specs.declared.fault.FloorFault.TheVariants.{BadSides, WrongDeck, OffSlot, FewMarks, DirtyMarks, Unfinished, Astray, WrongRule, Unfillable, NoNextMove, GoRefused, NoLastMove, NoMemory}

-- Open.

-- the slot in which a carrier stands
pub record InSlot (h w : ℕ) (v : DeckView) (c : ℕ) (s : Slot) : Type 0 where
  pub row : s.row < row_count h
  pub bay : s.bay < w
  pub square : slot_square s ≡ v.square c

-- every carrier stands on a slot
abbrev pub OnSlots : ℕ → ℕ → DeckView → Type 0
OnSlots h w v = (c : ℕ) → c < slot_count h w → (s : Slot) × InSlot h w v c s

pub data OpenRefused (h w : ℕ) (v : DeckView) : FloorFault → Type 0 where
  bad_sides : (GoodSides h w → ⊥) → OpenRefused h w v BadSides
  wrong_deck : GoodSides h w → (Sized h w v → ⊥) → OpenRefused h w v WrongDeck
  off_slot : GoodSides h w → Sized h w v → (OnSlots h w v → ⊥) → OpenRefused h w v OffSlot
  no_memory : GoodSides h w → Sized h w v → OnSlots h w v → OpenRefused h w v NoMemory

-- a new record: all four lists of places are the slots in which the carriers stand, and there is nothing to do
pub record Opening (h w : ℕ) (v : DeckView) (f : FloorView) : Type 0 where
  pub height : f.height ≡ h
  pub width : f.width ≡ w
  pub plan_height : f.plan.height ≡ h
  pub plan_width : f.plan.width ≡ w
  pub carriers : f.plan.carriers ≡ slot_count h w
  pub starts : (c : ℕ) → c < slot_count h w → InSlot h w v c (f.plan.start c)
  pub middles : (c : ℕ) → c < slot_count h w → f.plan.middle c ≡ (f.plan.start c).row
  pub goals : (c : ℕ) → c < slot_count h w → f.plan.goal c ≡ f.plan.start c
  pub done : f.done ≡ 0
  pub length : f.length ≡ 0
  pub orders : f.orders ≡ 0

abbrev pub Opened : ℕ → ℕ → DeckView → Result FloorView FloorFault → Type 0
Opened h w v (Ok f) = GoodSides h w × Sized h w v × Opening h w v f
Opened h w v (Err e) = OpenRefused h w v e

-- Order.

-- the steps done are 0 or the length
abbrev pub AtRest : FloorView → Type 0
AtRest f = (f.done ≡ 0) ⊎ (f.done ≡ f.length)

-- the first n marks are all zero
abbrev pub Clean : List ℕ → ℕ → Type 0
Clean marks n = (k : ℕ) → k < n → slice_index marks k ≡ 0

-- the rule is for n slots and n carriers
abbrev pub RuleFor : ℕ → RuleView → Type 0
RuleFor n r = (r.slots ≡ n) × (r.carriers ≡ n)

-- a perfect matching of n slots to n carriers under the rule exists
abbrev pub Fillable : ℕ → RuleView → Type 0
Fillable n r = (m : List ℕ) × Perfect r.admits n m

pub data OrderRefused (f : FloorView) (v : DeckView) (r : RuleView) (marks : List ℕ) : FloorFault → Type 0 where
  unfinished : (AtRest f → ⊥) → OrderRefused f v r marks Unfinished
  few_marks : AtRest f → length marks < slots f → OrderRefused f v r marks FewMarks
  dirty_marks : AtRest f → slots f ≤ length marks → (Clean marks (slots f) → ⊥) → OrderRefused f v r marks DirtyMarks
  astray :
      AtRest f → slots f ≤ length marks → Clean marks (slots f) → (Stands f v → ⊥) → OrderRefused f v r marks Astray
  wrong_rule :
      AtRest f → slots f ≤ length marks → Clean marks (slots f) → Stands f v → (RuleFor (slots f) r → ⊥)
      → OrderRefused f v r marks WrongRule
  unfillable :
      AtRest f → slots f ≤ length marks → Clean marks (slots f) → Stands f v → RuleFor (slots f) r
      → (Fillable (slots f) r → ⊥)
      → OrderRefused f v r marks Unfillable

-- An accepted order: its questions are answered yes, and the record has the plan that the definitions give for the
-- rule and the squares that the deck shows. It answers the plan's length.
pub record Accepted (f : FloorView) (v : DeckView) (r : RuleView) (marks : List ℕ) (n : ℕ) (g : FloorView) : Type 0 where
  pub at_rest : AtRest f
  pub enough : slots f ≤ length marks
  pub clean : Clean marks (slots f)
  pub stands : Stands f v
  pub rule_for : RuleFor (slots f) r
  pub height : g.height ≡ f.height
  pub width : g.width ≡ f.width
  pub planned : Planned r f.height f.width v.square g.plan
  pub answer : n ≡ plan_steps g.plan
  pub length : g.length ≡ n
  pub done : g.done ≡ 0
  pub orders : g.orders ≡ min (f.orders + 1) 65535

-- a refused order leaves the record as found; no order touches the deck
abbrev pub Ordered : FloorView → DeckView → RuleView → List ℕ → Result ℕ FloorFault → FloorView → Type 0
Ordered f v r marks (Ok n) g = Accepted f v r marks n g
Ordered f v r marks (Err e) g = OrderRefused f v r marks e × (g ≡ f)

-- Step and back.

pub data StepRefused (f : FloorView) (v w : DeckView) : FloorFault → Type 0 where
  no_next_move : f.length ≤ f.done → Unchanged v w → StepRefused f v w NoNextMove
  astray : f.done < f.length → (Stands f v → ⊥) → Unchanged v w → StepRefused f v w Astray
  go_refused : f.done < f.length → Stands f v → v.ready ≡ false → Halted v w → StepRefused f v w GoRefused

pub data BackRefused (f : FloorView) (v w : DeckView) : FloorFault → Type 0 where
  no_last_move : f.done ≡ 0 → Unchanged v w → BackRefused f v w NoLastMove
  astray : 0 < f.done → (Stands f v → ⊥) → Unchanged v w → BackRefused f v w Astray
  go_refused : 0 < f.done → Stands f v → v.ready ≡ false → Halted v w → BackRefused f v w GoRefused

-- The deck was ready with each carrier where the record put it, and now each stands where the plan has it after n
-- steps, all headings stay; the record has n steps done. Whether the deck is ready then is free.
pub record MovedTo (f : FloorView) (v : DeckView) (n : ℕ) (g : FloorView) (w : DeckView) : Type 0 where
  pub stands : Stands f v
  pub ready : v.ready ≡ true
  pub floor : SameFloor v w
  pub placed : (c : ℕ) → c < slots f → w.square c ≡ (whole f.plan).place n c
  pub resting : Resting w
  pub recorded : g ≡ with_done f n

-- step makes the next move of the plan
abbrev pub Stepped : FloorView → DeckView → Result ℕ FloorFault → FloorView → DeckView → Type 0
Stepped f v (Ok n) g w = (f.done < f.length) × (n ≡ f.done + 1) × MovedTo f v n g w
Stepped f v (Err e) g w = StepRefused f v w e × (g ≡ f)

-- back makes the reverse of the last
abbrev pub Backed : FloorView → DeckView → Result ℕ FloorFault → FloorView → DeckView → Type 0
Backed f v (Ok n) g w = (n + 1 ≡ f.done) × MovedTo f v n g w
Backed f v (Err e) g w = BackRefused f v w e × (g ≡ f)
