-- What a chain needs of the plans that the definitions give.
use Rattle.std.proofs.Common.{◌≡◌, ℕ, ◌+◌, ◌*◌, ◌/◌, ◌%◌, ◌<◌, List, sym, refl, ap, ◌∙◌, mod-lt, arith}
use native.Mathlib.Nat.{div-add-mod}
use Rattle.grid.specs.declared.slot.Slot.{Slot}
use Rattle.grid.specs.declared.square.Square.{Square}
use Rattle.grid.specs.Sides.{slot_count}
use Rattle.grid.specs.Slots.{numbered_slot, slot_number, slot_square}
use Rattle.rules.specs.Rules.{RuleView}
use Rattle.matchings.specs.Matchings.{First, ◌!◌}
use Rattle.matchings.proofs.Unique.{first_unique}
use Rattle.motion.specs.Motions.{Motion, and_then, across, run, turn}
use Rattle.motion.specs.Plans.{Plan, whole, plan_steps, first_columns_steps, turn_steps, rows_steps, turn_back_steps, last_columns_steps}
use Rattle.motion.specs.Carrying.{Good}
use Rattle.planning.specs.Planned.{Planned, Apart, Agreeing}
use Rattle.planning.specs.Theorems.{SameSteps}
use Rattle.planning.proofs.Plans.{plan_shuffles, plan_is_unique}
use Rattle.planning.proofs.Slots.{one_number}

-- the slot of a number is the one that has it
slot_of_number : (w s : ℕ) (a : Slot) → a.bay < w → slot_number w a ≡ s → a ≡ numbered_slot w s
slot_of_number w s a bay e =
    let some : 0 < w = omega arith in
    one_number w a (numbered_slot w s) bay (mod-lt s some) (e ∙ sym (div-add-mod s w))

-- one carrier's motion, by its route and the lengths of the stages
module _ (first turns along backs last : ℕ) (start : Slot) (middle : ℕ) (goal : Slot) where
  alone : Motion
  alone =
      and_then (run (λ c. start.bay) (λ c. start.row) (λ c. middle) first)
      (and_then (turn (λ c. start.bay) (λ c. middle) turns)
      (and_then (across (run (λ c. middle / 3) (λ c. 3 * start.bay + middle % 3) (λ c. 3 * goal.bay + middle % 3) along))
      (and_then (across (turn (λ c. middle / 3) (λ c. 3 * goal.bay + middle % 3) backs))
      (run (λ c. goal.bay) (λ c. middle) (λ c. goal.row) last))))

placed_alone :
    (p : Plan) (t c : ℕ)
    → (whole p).place t c
    ≡ (alone (first_columns_steps p) (turn_steps p) (rows_steps p) (turn_back_steps p) (last_columns_steps p) (p.start c) (p.middle c) (p.goal c)).place t c
unfolding whole alone
placed_alone p t c = refl

-- plans that agree of a carrier and in their stages have it in the same places
same_places : (a b : Plan) (t c : ℕ) → c < a.carriers → Agreeing a b → SameSteps a b → (whole a).place t c ≡ (whole b).place t c
same_places a b t c below same steps =
    let e0 = steps.first_columns in
    let e1 = steps.turn in
    let e2 = steps.rows in
    let e3 = steps.turn_back in
    let e4 = steps.last_columns in
    let e5 = same.start c below in
    let e6 = same.middle c below in
    let e7 = same.goal c below in
    let pa = placed_alone a t c in
    let pb = placed_alone b t c in
    cc

module _ (r : RuleView) (h w : ℕ) (q : ℕ → Square) (p : Plan) (d : Planned r h w q p) where
  -- the plan of an order, from different squares, is good
  pub planned_good : Apart (slot_count h w) q → Good p
  planned_good apart = (plan_shuffles r h w q p apart d).good

  -- it starts on the squares that the deck showed
  pub planned_starts : (c : ℕ) → c < slot_count h w → slot_square (p.start c) ≡ q c
  planned_starts c below = let e = d.carriers in d.starts c (omega arith)

  -- its goals are those of the first perfect matching
  pub planned_assignment : (m : List ℕ) × First r.admits (slot_count h w) m
  planned_assignment = (d.assignment, d.assigned)

  pub planned_goals :
      (m : List ℕ) → First r.admits (slot_count h w) m → (s : ℕ) → s < slot_count h w → p.goal (m ! s) ≡ numbered_slot w s
  planned_goals m first s below =
      let e = d.carriers in
      let same : d.assignment ≡ m = first_unique r.admits (slot_count h w) m d.assignment first d.assigned in
      let wide = d.width in
      let at : s < p.carriers = omega arith in
      let here : p.goal (d.assignment ! s) ≡ numbered_slot w s =
      slot_of_number w s (p.goal (d.assignment ! s)) (omega (arith, d.goals.bay s at))
      (ap (λ k. slot_number k (p.goal (d.assignment ! s))) (sym wide) ∙ d.goals.number s at) in
      ap (λ (x : List ℕ). p.goal (x ! s)) (sym same) ∙ here

module _ (r : RuleView) (h w : ℕ) (q : ℕ → Square) (a b : Plan) (da : Planned r h w q a) (db : Planned r h w q b) (apart : Apart (slot_count h w) q) where
  -- two plans of one order carry out the same motion
  pub planned_places : (t c : ℕ) → c < slot_count h w → (whole a).place t c ≡ (whole b).place t c
  planned_places t c below =
      let same = plan_is_unique r h w q a b apart da db in
      let e = da.carriers in
      same_places a b t c (omega arith) same.0 same.1

  pub planned_steps : plan_steps a ≡ plan_steps b
  planned_steps = sym (plan_is_unique r h w q a b apart da db).1.whole
