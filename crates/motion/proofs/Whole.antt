-- The five stages of a good plan, one after the other, carry it out.
use Rattle.std.proofs.Common.{◌≡◌, ℕ, suc, ◌+◌, ◌*◌, ◌/◌, ◌%◌, ◌<◌, ◌≤◌, sym, ap, ◌∙◌, inl, inr, add-one, arith}
use native.Mathlib.Decide.{dec_lt}
use Rattle.grid.specs.declared.slot.Slot.{Slot}
use Rattle.grid.specs.Squares.{square}
use Rattle.grid.specs.Sides.{row_count, column_count}
use Rattle.grid.specs.Slots.{slot, slot_square}
use Rattle.deck.specs.Decks.{Sound, Lawful, end}
use Rattle.motion.specs.Motions.{Motion, and_then}
use Rattle.motion.specs.Plans.{Plan, start_row, start_bay, goal_row, goal_bay, cell_row, start_column, goal_column, first_columns_steps, turn_steps, rows_steps, turn_back_steps, last_columns_steps, first_columns, turning, rows, turning_back, last_columns, whole, plan_steps}
use Rattle.motion.specs.Carrying.{InSlots, Good, Carried, moment, PlansAreCarried}
use Rattle.motion.proofs.Squares.{same_square}
use Rattle.motion.proofs.Runs.{run_begins, run_ends}
use Rattle.motion.proofs.Undoing.{undo_leads, undo_lawful}
use Rattle.motion.proofs.Motions.{Orderly, Lined, Below, Joined, orderly_run, orderly_turn, orderly_across, orderly_then, turned_same, place_early, place_late, place_ends}
use Rattle.motion.proofs.Lengths.{moving, run_over, run_short}

-- numbers of one carrier: cells and columns
column_cell : (b m : ℕ) → (3 * ((3 * b + m % 3) / 3) + 1 ≡ 3 * b + 1) × (3 * (m / 3) + (3 * b + m % 3) % 3 ≡ m)
column_cell b m = omega arith

column_one :
    (b b' m m' : ℕ)
    → (m ≡ m' → b ≡ b' → ⊥)
    → 3 * b + m % 3 ≡ 3 * b' + m' % 3
    → m / 3 ≡ m' / 3
    → ⊥
column_one b b' m m' no_same e q = no_same (omega arith) (omega arith)

same_slot : {a b : Slot} → a.row ≡ b.row → a.bay ≡ b.bay → a ≡ b
same_slot r c = λ i. record { row = r i; bay = c i }

module _ (p : Plan) (place : ℕ → Slot) (i : InSlots p place) where
  rows_in : Below p.carriers (λ c. (place c).row) (row_count p.height)
  rows_in c h = (i.inside c h).0

  bays_in : Below p.carriers (λ c. (place c).bay) p.width
  bays_in c h = (i.inside c h).1

  lined : Lined p.carriers (λ c. (place c).bay) (λ c. (place c).row)
  lined c d cd h r b = i.apart c d cd h (same_slot r b)

abbrev OrderlyIn : Plan → Motion → Type 0
OrderlyIn p m = Orderly (row_count p.height) (column_count p.width) p.carriers m

-- the stages from the fourth, the third and the second on
abbrev pub from_turn_back : Plan → Motion
from_turn_back p = and_then (turning_back p) (last_columns p)

abbrev pub from_rows : Plan → Motion
from_rows p = and_then (rows p) (from_turn_back p)

abbrev pub from_turn : Plan → Motion
from_turn p = and_then (turning p) (from_rows p)

module _ (p : Plan) (g : Good p) where
  start_bays_in : Below p.carriers (start_bay p) p.width
  start_bays_in = bays_in p p.start g.starts

  goal_bays_in : Below p.carriers (goal_bay p) p.width
  goal_bays_in = bays_in p p.goal g.goals

  start_rows_in : Below p.carriers (start_row p) (row_count p.height)
  start_rows_in = rows_in p p.start g.starts

  goal_rows_in : Below p.carriers (goal_row p) (row_count p.height)
  goal_rows_in = rows_in p p.goal g.goals

  middles_in : Below p.carriers p.middle (row_count p.height)
  middles_in = rows_in p (λ c. slot (p.middle c) (start_bay p c)) g.after_first_columns

  lined_first : Lined p.carriers (start_bay p) p.middle
  lined_first = lined p (λ c. slot (p.middle c) (start_bay p c)) g.after_first_columns

  lined_last : Lined p.carriers (goal_bay p) p.middle
  lined_last = lined p (λ c. slot (p.middle c) (goal_bay p c)) g.before_last_columns

  cells_in : Below p.carriers (cell_row p) p.height
  cells_in c h = omega (arith, middles_in c h)

  columns_in : (bay : ℕ → ℕ) → Below p.carriers bay p.width → Below p.carriers (λ c. 3 * bay c + p.middle c % 3) (column_count p.width)
  columns_in bay b c h = omega (arith, b c h)

  lined_columns : (bay : ℕ → ℕ) → Lined p.carriers bay p.middle → Lined p.carriers (cell_row p) (λ c. 3 * bay c + p.middle c % 3)
  lined_columns bay o c d cd h = column_one (bay c) (bay d) (p.middle c) (p.middle d) (o c d cd h)

  two : turn_steps p ≤ 2
  two = elim (moving p) [ inl m ↦ omega (arith, m.turns) | inr m ↦ omega (arith, m.turns) ]

  -- each stage is orderly
  orderly_first : OrderlyIn p (first_columns p)
  orderly_first =
      orderly_run (row_count p.height) p.width p.carriers (first_columns_steps p) (start_bay p) (start_row p)
      p.middle
      start_bays_in
      start_rows_in
      middles_in
      (lined p p.start g.starts)
      lined_first

  orderly_turning : OrderlyIn p (turning p)
  orderly_turning =
      orderly_turn p.height p.width p.carriers (turn_steps p) (start_bay p) p.middle two start_bays_in middles_in
      lined_first

  orderly_rows : OrderlyIn p (rows p)
  orderly_rows =
      orderly_across (column_count p.width) (row_count p.height) p.carriers _
      (orderly_run (column_count p.width) p.height p.carriers (rows_steps p) (cell_row p) (start_column p)
      (goal_column p)
      cells_in
      (columns_in (start_bay p) start_bays_in)
      (columns_in (goal_bay p) goal_bays_in)
      (lined_columns (start_bay p) lined_first)
      (lined_columns (goal_bay p) lined_last))

  orderly_back : OrderlyIn p (turning_back p)
  orderly_back =
      orderly_across (column_count p.width) (row_count p.height) p.carriers _
      (orderly_turn p.width p.height p.carriers (turn_back_steps p) (cell_row p) (goal_column p) two cells_in
      (columns_in (goal_bay p) goal_bays_in)
      (lined_columns (goal_bay p) lined_last))

  orderly_last : OrderlyIn p (last_columns p)
  orderly_last =
      orderly_run (row_count p.height) p.width p.carriers (last_columns_steps p) (goal_bay p) p.middle
      (goal_row p)
      goal_bays_in
      middles_in
      goal_rows_in
      lined_last
      (lined p p.goal g.goals)

  -- where the stages begin and end
  first_ends :
      (c : ℕ)
      → c < p.carriers
      → (first_columns p).place (first_columns_steps p) c ≡ slot_square (slot (p.middle c) (start_bay p c))
  first_ends c h =
      run_ends (start_bay p c) (start_row p c) (p.middle c) (first_columns_steps p)
      (run_over p.carriers (start_row p) p.middle c h)

  rows_begin : (c : ℕ) → (rows p).place 0 c ≡ (turning p).place 2 c
  rows_begin c = turned_same (run_begins (cell_row p c) (start_column p c) (goal_column p c))

  rows_end : (c : ℕ) → c < p.carriers → (rows p).place (rows_steps p) c ≡ (turning_back p).place 0 c
  rows_end c h =
      turned_same (run_ends (cell_row p c) (start_column p c) (goal_column p c) (rows_steps p)
      (run_over p.carriers (start_column p) (goal_column p) c h))

  back_ends : (c : ℕ) → (turning_back p).place 2 c ≡ slot_square (slot (p.middle c) (goal_bay p c))
  back_ends c = let q = column_cell (goal_bay p c) (p.middle c) in same_square q.1 q.0

  last_begins : (c : ℕ) → (last_columns p).place 0 c ≡ slot_square (slot (p.middle c) (goal_bay p c))
  last_begins c = run_begins (goal_bay p c) (p.middle c) (goal_row p c)

  last_ends : (c : ℕ) → c < p.carriers → (last_columns p).place (last_columns_steps p) c ≡ slot_square (p.goal c)
  last_ends c h =
      run_ends (goal_bay p c) (p.middle c) (goal_row p c) (last_columns_steps p)
      (run_over p.carriers p.middle (goal_row p) c h)

  -- the stages are joined
  joined_turn_back : Joined p.carriers (turning_back p) (last_columns p)
  joined_turn_back some c h =
      elim (moving p) [
        | inl m ↦ ap (λ (t : ℕ). (turning_back p).place t c) m.turns ∙ back_ends c ∙ sym (last_begins c)
        | inr m ↦ absurd (omega (arith, m.turns))
      ]

  joined_rows : Joined p.carriers (rows p) (from_turn_back p)
  joined_rows some c h =
      elim (moving p) [
        | inl m ↦ rows_end c h ∙ sym (place_early (turning_back p) (last_columns p) 0 c (omega (arith, m.turns)))
        | inr m ↦ absurd (omega (arith, m.runs))
      ]

  joined_turn : Joined p.carriers (turning p) (from_rows p)
  joined_turn some c h =
      elim (moving p) [
        | inl m ↦
            ap (λ (t : ℕ). (turning p).place t c) m.turns
            ∙ sym (rows_begin c)
            ∙ sym (place_early (rows p) (from_turn_back p) 0 c m.runs)
        | inr m ↦ absurd (omega (arith, m.turns))
      ]

  turn_begins : (c : ℕ) → c < p.carriers → (from_turn p).place 0 c ≡ slot_square (slot (p.middle c) (start_bay p c))
  turn_begins c h =
      elim (moving p) [
        | inl m ↦ place_early (turning p) (from_rows p) 0 c (omega (arith, m.turns))
        | inr m ↦
            place_late (turning p) (from_rows p) 0 0 c (omega (arith, m.turns))
            ∙ place_late (rows p) (from_turn_back p) 0 0 c (omega (arith, m.runs))
            ∙ place_late (turning_back p) (last_columns p) 0 0 c (omega (arith, m.turns))
            ∙ last_begins c
            ∙ ap (λ (b : ℕ). square (p.middle c) (3 * b + 1)) (sym (m.bays c h))
      ]

  joined_first : Joined p.carriers (first_columns p) (from_turn p)
  joined_first some c h = first_ends c h ∙ sym (turn_begins c h)

  abbrev high : ℕ
  high = row_count p.height

  abbrev long : ℕ
  long = column_count p.width

  pub orderly_all : OrderlyIn p (and_then (first_columns p) (from_turn p))
  orderly_all =
      let o4 = orderly_then high long p.carriers (turning_back p) (last_columns p) orderly_back orderly_last joined_turn_back in
      let o3 = orderly_then high long p.carriers (rows p) (from_turn_back p) orderly_rows o4 joined_rows in
      let o2 = orderly_then high long p.carriers (turning p) (from_rows p) orderly_turning o3 joined_turn in
      orderly_then high long p.carriers (first_columns p) (from_turn p) orderly_first o2 joined_first

  pub all_begins : (c : ℕ) → c < p.carriers → (and_then (first_columns p) (from_turn p)).place 0 c ≡ slot_square (p.start c)
  all_begins c h =
      elim (dec_lt 0 (first_columns_steps p)) [
        | yes k ↦ place_early (first_columns p) (from_turn p) 0 c k ∙ begins
        | no k ↦
            let z : first_columns_steps p ≡ 0 = omega arith in
            place_late (first_columns p) (from_turn p) 0 0 c (omega arith)
            ∙ turn_begins c h
            ∙ sym (first_ends c h)
            ∙ ap (λ (t : ℕ). (first_columns p).place t c) z
            ∙ begins
      ]
    where
      begins : (first_columns p).place 0 c ≡ slot_square (p.start c)
      begins = run_begins (start_bay p c) (start_row p c) (p.middle c)

  pub all_ends :
      (c : ℕ)
      → c < p.carriers
      → (and_then (first_columns p) (from_turn p)).place (and_then (first_columns p) (from_turn p)).steps c ≡ slot_square (p.goal c)
  all_ends c h =
      place_ends (first_columns p) (from_turn p) c
      ∙ place_ends (turning p) (from_rows p) c
      ∙ place_ends (rows p) (from_turn_back p) c
      ∙ place_ends (turning_back p) (last_columns p) c
      ∙ last_ends c h

  short_first : first_columns_steps p ≤ row_count p.height + 1
  short_first =
      elim (run_short p.carriers (start_row p) p.middle 1 (row_count p.height) (λ c h. omega (arith, start_rows_in c h, middles_in c h))) [
        | inl z ↦ omega arith
        | inr z ↦ omega arith
      ]

  short_last : last_columns_steps p ≤ row_count p.height + 1
  short_last =
      elim (run_short p.carriers p.middle (goal_row p) 1 (row_count p.height) (λ c h. omega (arith, goal_rows_in c h, middles_in c h))) [
        | inl z ↦ omega arith
        | inr z ↦ omega arith
      ]

  short_between : turn_steps p + rows_steps p + turn_back_steps p ≤ column_count p.width + 3
  short_between =
      elim (moving p) [
        | inr m ↦ omega (arith, m.turns, m.runs)
        | inl m ↦
            elim (run_short p.carriers (start_column p) (goal_column p) 3 (column_count p.width) (λ c h. omega (arith, start_bays_in c h, goal_bays_in c h))) [
              | inl z ↦ absurd (omega (arith, m.runs))
              | inr z ↦ omega (arith, m.turns)
            ]
      ]

  carried : Carried p
  unfolding whole
  carried =
      let o = orderly_all in
      let sound : (t : ℕ) → t ≤ plan_steps p → Sound (moment p t) =
      λ t h. record { inside = λ k n. o.inside t k h n; apart = λ j k jk n e. o.apart t j k h jk n e } in
      let lawful : (t : ℕ) → t < plan_steps p → Lawful (moment p t) =
      λ t h.
      record {
        remain = λ k n. o.remains t k h n;
        differ =
            λ j k jk n e.
            o.apart (suc t) j k h jk n (sym (o.leads t j h (omega arith)) ∙ e ∙ o.leads t k h n);
        pass =
            λ j k jk n x.
            o.passes t j k h jk n (sym (o.leads t j h (omega arith)) ∙ x.0) (sym (o.leads t k h n) ∙ x.1);
      } in
      let leads : (t c : ℕ) → t < plan_steps p → c < p.carriers → end (moment p t) c ≡ (whole p).place (t + 1) c =
      λ t c h n. o.leads t c h n ∙ ap (λ (u : ℕ). (whole p).place u c) (sym (add-one t)) in
      record {
        sound = sound;
        lawful = lawful;
        leads = leads;
        undone_lawful =
            λ t h. undo_lawful (moment p t) ((whole p).place (t + 1)) (sound t (omega arith)) (lawful t h) (λ k n. leads t k h n);
        undone_leads =
            λ t c h n. undo_leads (moment p t) ((whole p).place (t + 1)) (sound t (omega arith)) (lawful t h) (λ k q. leads t k h q) c n;
        begins = all_begins;
        ends = all_ends;
        sum = omega arith;
        short = omega (arith, short_first, short_between, short_last);
      }

pub plans_are_carried : PlansAreCarried
plans_are_carried p g = carried p g
