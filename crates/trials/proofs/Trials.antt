-- The trials, one by one.
use Rattle.std.proofs.Common.{ℕ, List, [], ◌∷◌, Ok, refl, ap, arith}
use Rattle.std.specs.Fmt.{digits}
use Rattle.deck.specs.declared.fault.DeckFault.TheVariants.{OffFloor, SharedSquare, Exchange}
use Rattle.rules.specs.NumberRule.{wanting}
use Rattle.matchings.specs.Matchings.{◌!◌}
use Rattle.motion.specs.Plans.{greatest, whole}
use Rattle.planning.specs.Planned.{Planned}
use Rattle.orderfile.specs.Records.{numbers, OrderView, Read}
use Rattle.scripting.specs.Orders.{new_place}
use Rattle.scripting.specs.Scripts.{step_lines}
use Rattle.trials.specs.Trials.{Trials}
use Rattle.trials.proofs.OneCell.{only_ok, only_err, following, exchange, shared, off_floor}
use Rattle.trials.proofs.Checks.{lt?, all?}
use Rattle.trials.proofs.Matchings.{first?, blocked?}
use Rattle.trials.proofs.NewFloors.{plan_of, planned?, lasts, writes, only}
use Rattle.trials.proofs.Records.{only_script}

-- matchings of one bay, and of two

abbrev one : List ℕ
one = 0 ∷ []

abbrev straight : List ℕ
straight = 0 ∷ 1 ∷ []

abbrev crossed : List ℕ
crossed = 1 ∷ 0 ∷ []

-- The plans, by middle rows, goals, assignment and matchings. Each of these orders is its own inverse, so the goals by
-- carrier read as the assignment by slot.

-- in one cell nobody leaves its bay, so the middle rows are the start rows
abbrev in_one_cell : List ℕ → Type 0
in_one_cell wanted = Planned (wanting wanted) 1 1 (new_place 1) (plan_of 1 1 (0 ∷ 1 ∷ 2 ∷ []) wanted)

reversed : in_one_cell (2 ∷ 1 ∷ 0 ∷ [])
reversed = (planned? 1 1 (0 ∷ 1 ∷ 2 ∷ []) (2 ∷ 1 ∷ 0 ∷ []) _ (2 ∷ 1 ∷ 0 ∷ []) (one ∷ one ∷ one ∷ [])).right refl

already : in_one_cell (0 ∷ 1 ∷ 2 ∷ [])
already = (planned? 1 1 (0 ∷ 1 ∷ 2 ∷ []) (0 ∷ 1 ∷ 2 ∷ []) _ (0 ∷ 1 ∷ 2 ∷ []) (one ∷ one ∷ one ∷ [])).right refl

neighbours : in_one_cell (1 ∷ 0 ∷ 2 ∷ [])
neighbours = (planned? 1 1 (0 ∷ 1 ∷ 2 ∷ []) (1 ∷ 0 ∷ 2 ∷ []) _ (1 ∷ 0 ∷ 2 ∷ []) (one ∷ one ∷ one ∷ [])).right refl

abbrev in_two_cells : (middles wanted : List ℕ) → Type 0
in_two_cells middles wanted = Planned (wanting wanted) 1 2 (new_place 2) (plan_of 1 2 middles wanted)

two_reversed : in_two_cells (0 ∷ 0 ∷ 1 ∷ 1 ∷ 2 ∷ 2 ∷ []) (5 ∷ 4 ∷ 3 ∷ 2 ∷ 1 ∷ 0 ∷ [])
two_reversed =
    (planned? 1 2 (0 ∷ 0 ∷ 1 ∷ 1 ∷ 2 ∷ 2 ∷ []) (5 ∷ 4 ∷ 3 ∷ 2 ∷ 1 ∷ 0 ∷ []) _ (5 ∷ 4 ∷ 3 ∷ 2 ∷ 1 ∷ 0 ∷ [])
    (crossed ∷ crossed ∷ crossed ∷ [])).right refl

across : in_two_cells (2 ∷ 0 ∷ 0 ∷ 2 ∷ 1 ∷ 1 ∷ []) (3 ∷ 1 ∷ 2 ∷ 0 ∷ 4 ∷ 5 ∷ [])
across =
    (planned? 1 2 (2 ∷ 0 ∷ 0 ∷ 2 ∷ 1 ∷ 1 ∷ []) (3 ∷ 1 ∷ 2 ∷ 0 ∷ 4 ∷ 5 ∷ []) _ (3 ∷ 1 ∷ 2 ∷ 0 ∷ 4 ∷ 5 ∷ [])
    (straight ∷ straight ∷ crossed ∷ [])).right refl

-- The record.

abbrev one_cell_order : OrderView
one_cell_order = record { height = 1; width = 1; lists = numbers (2 ∷ 1 ∷ 0 ∷ []) }

one_cell_record : Read (76 ∷ 70 ∷ 79 ∷ 0 ∷ 1 ∷ 0 ∷ 1 ∷ 0 ∷ 2 ∷ 0 ∷ 1 ∷ 0 ∷ 0 ∷ []) (Ok one_cell_order)
one_cell_record = (
  record {
    sides = ((omega arith, omega arith), (omega arith, omega arith));
    sized = refl;
    entries = (all? 3 (λ s. lt? ((2 ∷ 1 ∷ 0 ∷ []) ! s) 3)).right refl;
    fits = (all? 3 (λ s. lt? ((2 ∷ 1 ∷ 0 ∷ []) ! s) 65536)).right refl;
  },
  refl,
)

pub trials : Trials
unfolding greatest whole step_lines digits
trials = record {
  following_is_accepted = record { lawful = following; only_answer = only_ok _ refl following };
  exchange_is_refused = record { fits = exchange; only_answer = only_err _ Exchange exchange };
  entering_a_taken_square_is_refused = record { fits = shared; only_answer = only_err _ SharedSquare shared };
  leaving_the_floor_is_refused = record { fits = off_floor; only_answer = only_err _ OffFloor off_floor };
  reversing_one_cell = lasts _ 1 1 _ reversed;
  letters_of_reversing_one_cell = writes _ 1 1 _ reversed;
  all_in_their_slots_already = lasts _ 1 1 _ already;
  exchanging_two_neighbours = lasts _ 1 1 _ neighbours;
  reversing_two_cells = lasts _ 1 2 _ two_reversed;
  exchanging_two_across_the_bays = lasts _ 1 2 _ across;
  a_carrier_wanted_twice_is_unfillable = (blocked? _ 3 (0 ∷ 1 ∷ [])).right refl;
  the_first_of_two_matchings_is_assigned = only _ 3 (1 ∷ 0 ∷ 2 ∷ []) ((first? _ 3 (1 ∷ 0 ∷ 2 ∷ [])).right refl);
  a_slot_leaves_a_carrier_to_another = only _ 3 (1 ∷ 0 ∷ 2 ∷ []) ((first? _ 3 (1 ∷ 0 ∷ 2 ∷ [])).right refl);
  a_slot_that_admits_nobody_is_unfillable = (blocked? _ 3 (0 ∷ [])).right refl;
  a_record_that_reverses_one_cell = only_script _ _ one_cell_order _ one_cell_record reversed refl (λ e. let z = ap (λ (t : List ℕ). t ! 0) e in omega arith);
}
