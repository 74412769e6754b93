-- The list of proved trials.
use Rattle.std.specs.Prelude.{[], ◌∷◌, codes}
use Rattle.grid.specs.declared.heading.Heading.TheVariants.{Up, Down, Left}
use Rattle.deck.specs.declared.fault.DeckFault.TheVariants.{OffFloor, SharedSquare, Exchange}
use Rattle.rules.specs.NumberRule.{wanting}
use Rattle.rules.specs.KindRule.{masking}
use Rattle.planning.specs.Assignments.{Blocked}
use Rattle.trials.specs.OneCell.{steered, Accepted, Refused}
use Rattle.trials.specs.NewFloors.{PlanLasts, PlanWrites, OnlyAssignment}
use Rattle.trials.specs.Records.{lines, OnlyScript}

pub record Trials : Type 0 where
  -- moves in one cell: a carrier may enter a square that another leaves in the same move
  pub following_is_accepted : Accepted (steered (Down ∷ Down ∷ Left ∷ []))
  pub exchange_is_refused : Refused (steered (Down ∷ Up ∷ [])) Exchange
  pub entering_a_taken_square_is_refused : Refused (steered (Down ∷ [])) SharedSquare
  pub leaving_the_floor_is_refused : Refused (steered (Up ∷ [])) OffFloor
  -- plans on new floors where each slot wants one carrier: the steps of the five stages, and of all together
  pub reversing_one_cell : PlanLasts (wanting (2 ∷ 1 ∷ 0 ∷ [])) 1 1 (0 ∷ 0 ∷ 0 ∷ 0 ∷ 4 ∷ []) 4
  pub letters_of_reversing_one_cell :
      PlanWrites (wanting (2 ∷ 1 ∷ 0 ∷ [])) 1 1 (codes "R.L" ∷ codes "D.U" ∷ codes "D.U" ∷ codes "L.R" ∷ [])
  pub all_in_their_slots_already : PlanLasts (wanting (0 ∷ 1 ∷ 2 ∷ [])) 1 1 (0 ∷ 0 ∷ 0 ∷ 0 ∷ 0 ∷ []) 0
  pub exchanging_two_neighbours : PlanLasts (wanting (1 ∷ 0 ∷ 2 ∷ [])) 1 1 (0 ∷ 0 ∷ 0 ∷ 0 ∷ 3 ∷ []) 3
  pub reversing_two_cells : PlanLasts (wanting (5 ∷ 4 ∷ 3 ∷ 2 ∷ 1 ∷ 0 ∷ [])) 1 2 (0 ∷ 2 ∷ 5 ∷ 2 ∷ 4 ∷ []) 13
  pub exchanging_two_across_the_bays : PlanLasts (wanting (3 ∷ 1 ∷ 2 ∷ 0 ∷ 4 ∷ 5 ∷ [])) 1 2 (4 ∷ 2 ∷ 5 ∷ 2 ∷ 4 ∷ []) 17
  pub a_carrier_wanted_twice_is_unfillable : Blocked (wanting (0 ∷ 0 ∷ 1 ∷ [])) 3
  -- carriers of the kinds 1, 2 and 3, each slot with a mask: the first slot admits the carriers 1 and 2, the next 0 and 1,
  -- the last 0 and 2
  pub the_first_of_two_matchings_is_assigned : OnlyAssignment (masking (1 ∷ 2 ∷ 3 ∷ []) (12 ∷ 6 ∷ 10 ∷ [])) 3 (1 ∷ 0 ∷ 2 ∷ [])
  -- the first slot admits carrier 0 too, but the next admits nobody else
  pub a_slot_leaves_a_carrier_to_another : OnlyAssignment (masking (1 ∷ 2 ∷ 3 ∷ []) (6 ∷ 2 ∷ 14 ∷ [])) 3 (1 ∷ 0 ∷ 2 ∷ [])
  pub a_slot_that_admits_nobody_is_unfillable : Blocked (masking (1 ∷ 2 ∷ 3 ∷ []) (0 ∷ 14 ∷ 14 ∷ [])) 3
  -- from the bytes of a record, by the definitions of records, plans and letters, to the lines of its script
  pub a_record_that_reverses_one_cell :
      OnlyScript (76 ∷ 70 ∷ 79 ∷ 0 ∷ 1 ∷ 0 ∷ 1 ∷ 0 ∷ 2 ∷ 0 ∷ 1 ∷ 0 ∷ 0 ∷ [])
      (lines (codes "LFS 1 1 1 4" ∷ codes "R.L" ∷ codes "D.U" ∷ codes "D.U" ∷ codes "L.R" ∷ []))
