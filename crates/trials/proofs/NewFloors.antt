-- Plans on new floors: a computed check of a plan, and what holds of every plan then.
use Rattle.std.proofs.Common.{◌≡◌, ℕ, List, [], map, get_or, sym, refl, ap, ◌∙◌}
use Rattle.std.specs.List.{range_with_len}
use Rattle.grid.specs.Sides.{row_count, slot_count}
use Rattle.grid.specs.Slots.{slot_number, numbered_slot}
use Rattle.rules.specs.Rules.{RuleView}
use Rattle.matchings.specs.Matchings.{◌!◌}
use Rattle.matchings.proofs.Unique.{first_unique}
use Rattle.motion.specs.Plans.{Plan, start_row, start_bay, goal_bay, plan_steps}
use Rattle.planning.specs.Assignments.{Assignment, AssignedGoals}
use Rattle.planning.specs.MiddleRows.{allows, Round}
use Rattle.planning.specs.Planned.{Planned, Agreeing}
use Rattle.planning.specs.Theorems.{SameSteps}
use Rattle.planning.proofs.Plans.{plan_is_unique}
use Rattle.scripting.specs.Orders.{new_place}
use Rattle.scripting.proofs.Fixed.{new_apart, map_same, same_letters}
use Rattle.trials.specs.NewFloors.{stage_steps, step_letters, plan_letters, PlanLasts, PlanWrites, OnlyAssignment}
use Rattle.trials.proofs.Checks.{Check, lt?, le?, eq?, both?, so?, when-eq?, when-le?, all?, some?}
use Rattle.trials.proofs.Matchings.{perfect?, first?}

-- The check of a plan.

abbrev pub round? : (p : Plan) (k : ℕ) (matching : List ℕ) → Check (Round p k matching)
round? p k matching =
    let n = p.carriers in
    so? (λ (perfect, (paired, (lowest, each))). record {
      perfect = perfect;
      paired = paired;
      lowest = λ c d lc ld. lowest c lc d ld;
      each = λ j l. let o = each j l in (o.0, o.1, o.2.0, o.2.1);
    })
    (both? (perfect? (allows p k) p.width matching)
    (both? (all? n (λ c. when-eq? (p.middle c) k (eq? (goal_bay p c) (matching ! start_bay p c))))
    (both? (all? n (λ c. all? n (λ d. when-eq? (p.middle c) k (when-le? k (p.middle d)
    (when-eq? (start_bay p d) (start_bay p c) (when-eq? (goal_bay p d) (goal_bay p c) (le? (start_row p c) (start_row p d))))))))
    (all? p.width (λ j. some? n (λ c. both? (eq? (p.middle c) k) (eq? (start_bay p c) j)))))))

-- the plan with these middle rows and these slots as goals, by the carriers' numbers
abbrev pub plan_of : (h w : ℕ) (middles goals : List ℕ) → Plan
plan_of h w middles goals =
    record {
      height = h;
      width = w;
      carriers = slot_count h w;
      start = λ c. numbered_slot w c;
      middle = λ c. middles ! c;
      goal = λ c. numbered_slot w (goals ! c);
    }

module _ (h w : ℕ) (middles goals : List ℕ) where
  abbrev pub goals? : (assignment : List ℕ) → Check (AssignedGoals (plan_of h w middles goals) assignment)
  goals? assignment =
      let p = plan_of h w middles goals in
      so? (λ (number, bay). record { number = number; bay = bay })
      (both? (all? p.carriers (λ s. eq? (slot_number p.width (p.goal (assignment ! s))) s))
      (all? p.carriers (λ s. lt? (goal_bay p (assignment ! s)) p.width)))

  abbrev pub planned? :
      (v : RuleView) (assignment : List ℕ) (matchings : List (List ℕ)) → Check (Planned v h w (new_place w) (plan_of h w middles goals))
  planned? v assignment matchings =
      let p = plan_of h w middles goals in
      let matching : ℕ → List ℕ = λ k. get_or matchings k [] in
      so? (λ (inside, (assigned, (goal, (below, (rounds, first))))). record {
        height = refl;
        width = refl;
        carriers = refl;
        starts = λ c l. refl;
        inside = inside;
        assignment = assignment;
        assigned = assigned;
        goals = goal;
        matchings = matching;
        middles = record { below = below; rounds = rounds };
        first = first;
      })
      (both? (all? p.carriers (λ c. both? (lt? (start_row p c) (row_count h)) (lt? (start_bay p c) w)))
      (both? (first? v.admits (slot_count h w) assignment)
      (both? (goals? assignment)
      (both? (all? p.carriers (λ c. lt? (p.middle c) (row_count h)))
      (both? (all? (row_count h) (λ k. round? p k (matching k)))
      (all? (row_count h) (λ k. first? (allows p k) w (matching k))))))))

-- Plans that agree have the same letters.
all_letters :
    (p q : Plan)
    → q.carriers ≡ p.carriers
    → Agreeing p q
    → SameSteps p q
    → plan_letters q ≡ plan_letters p
all_letters p q many A S =
    ap (λ (n : ℕ). map (λ t. step_letters q t) (range_with_len 0 n)) S.whole
    ∙ map_same (λ t. step_letters p t) (λ t. step_letters q t) (plan_steps p) [] (λ t _. same_letters p q many A S t)

-- What one plan has, every plan has.
module _ (v : RuleView) (h w : ℕ) (p : Plan) (P : Planned v h w (new_place w) p) where
  same : (q : Plan) → Planned v h w (new_place w) q → Agreeing p q × SameSteps p q
  same q Q = plan_is_unique v h w (new_place w) p q (new_apart (slot_count h w) w) P Q

  pub lasts : PlanLasts v h w (stage_steps p) (plan_steps p)
  lasts =
      record {
        exists = (p, P);
        each_stage =
            λ q Q.
            let s = (same q Q).1 in
            let first_columns = s.first_columns in
            let turn = s.turn in
            let rows = s.rows in
            let last_columns = s.last_columns in
            cc;
        altogether = λ q Q. (same q Q).1.whole;
      }

  pub writes : PlanWrites v h w (plan_letters p)
  writes q Q = let s = same q Q in all_letters p q (Q.carriers ∙ sym P.carriers) s.0 s.1

pub only : (v : RuleView) (n : ℕ) (m : List ℕ) → Assignment v n m → OnlyAssignment v n m
only v n m F = record { assigned = F; only = λ other G. first_unique v.admits n m other F G }
