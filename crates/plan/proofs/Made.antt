-- What the search answers of a rule, and what goals and middle rows make together: the plan of the rule.
use Rattle.std.proofs.Common.{◌≡◌, ℕ, List, length, Result, Ok, Err, is_ok, true≢false, refl, sym, ap, ◌∙◌, subst, arith}
use Rattle.grid.specs.declared.sides.Sides.{Sides}
use Rattle.grid.specs.declared.slot.Slot.{Slot}
use Rattle.grid.specs.declared.square.Square.{Square}
use Rattle.grid.specs.Sides.{row_count, slot_count}
use Rattle.grid.specs.Slots.{slot_number, slot_square}
use Rattle.rules.specs.Rules.{RuleView}
use Rattle.matchings.specs.Matchings.{◌!◌, First}
use Rattle.matchings.specs.Reaching.{Inj}
use Rattle.motion.specs.Carrying.{InSlots}
use Rattle.course.specs.declared.route.Route.{Route}
use Rattle.course.specs.Routes.{route_at}
use Rattle.matching.specs.declared.search.Blockers.{Blockers}
use Rattle.matching.specs.Answers.{Answer, Exactly}
use Rattle.planning.specs.Assignments.{Blocked}
use Rattle.planning.specs.Planned.{Planned}
use Rattle.planning.specs.Theorems.{Shuffled}
use Rattle.planning.proofs.Slots.{same_slot, in_slots}
use Rattle.planning.proofs.Plans.{goal_slots, plan_shuffles}
use Rattle.plan.specs.Routes.{plan_on, SameStarts, SameEnds}
use Rattle.plan.specs.Rows.{Whole, FirstRows}
use Rattle.plan.specs.Making.{start_square, Assigned}
use Rattle.plan.proofs.Gives.{in_slots_kept}

-- a search that finds no assignment, whose error is told on as another, tells what blocks the rule
pub blocked :
    {T E : Type 0} (v : RuleView) (n : ℕ) (mate members : List ℕ) (r : Result (Unit {0}) Blockers) (told : Result T E) (e : E)
    → told ≡ Err e
    → is_ok told ≡ is_ok r
    → Answer v.admits n mate members r
    → Exactly v.admits n r
    → Blocked v n
blocked v n mate members (Ok _) told e is same answer exactly = absurd (true≢false (sym same ∙ ap is_ok is))
blocked v n mate members (Err b) told e is same answer exactly =
    record { none = λ m p. absurd (true≢false (sym (exactly.found m p))); slots = members; many = b.count; blocking = answer }

module _ (s : Sides) (v : RuleView) (a b : List Route) (K : SameStarts a b) (many : length a ≡ slot_count s.height s.width)
    (S : InSlots (plan_on s a) (λ c. (route_at a c).start)) (G : Assigned v (plan_on s b)) where
  inj : Inj (length b) (λ i. G.assignment ! i)
  inj = record { below = G.first.perfect.below; apart = G.first.perfect.apart }

  -- starts as they were, and goals by the assignment, are all slots
  pub whole_of : Whole s b
  whole_of =
      record {
        many = K.long ∙ many;
        starts = in_slots_kept s a b (λ c. (route_at a c).start) (λ c. (route_at b c).start) K.long K.start S;
        goals =
            in_slots (plan_on s b) (λ c. (route_at b c).goal)
            (goal_slots (plan_on s b) G.assignment inj G.goals (row_count s.height) (K.long ∙ many));
      }

  module _ (d : List Route) (E : SameEnds b d) (R : FirstRows s d) where
    pub starts_stand : SameStarts a d
    starts_stand = record { long = E.long ∙ K.long; start = λ c. E.start c ∙ K.start c }

    pub made : Planned v s.height s.width (start_square a) (plan_on s d)
    made =
        record {
          height = refl;
          width = refl;
          carriers = E.long ∙ K.long ∙ many;
          starts = λ c l. ap slot_square (starts_stand.start c);
          inside = λ c l. (in_slots_kept s a d (λ i. (route_at a i).start) (λ i. (route_at d i).start) starts_stand.long starts_stand.start S).inside c l;
          assignment = G.assignment;
          assigned = subst (λ (x : ℕ). First v.admits x G.assignment) (K.long ∙ many) G.first;
          goals = record {
            number =
                λ i l.
                ap (slot_number s.width) (E.goal (G.assignment ! i)) ∙ G.goals.number i (let z = E.long in omega arith);
            bay =
                λ i l.
                let z = ap (λ (x : Slot). x.bay) (E.goal (G.assignment ! i)) in
                let y = G.goals.bay i (let z = E.long in omega arith) in
                omega arith;
          };
          matchings = R.matchings;
          middles = record { below = R.below; rounds = R.rounds };
          first = R.first;
        }

    pub made_shuffles : Shuffled (plan_on s d)
    made_shuffles =
        plan_shuffles v s.height s.width (start_square a) (plan_on s d)
        (λ c i l li e.
        S.apart c i l (omega arith)
        (same_slot (ap (λ (x : Square). x.row) e) (let y = ap (λ (x : Square). x.column) e in omega arith)))
        made
