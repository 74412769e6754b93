-- The plan of an order: its goals are slots, it is a shuffle, and there is one at most.
use Rattle.std.proofs.Common.{◌≡◌, ℕ, zero, suc, ◌+◌, ◌*◌, ◌%◌, ◌<◌, ◌≤◌, max, Bool, cond, eqb, List, sym, refl, ap, ◌∙◌, subst, mul-le-mul_right, mul_comm, add-mul, one-mul, arith}
use Rattle.grid.specs.declared.slot.Slot.{Slot}
use Rattle.grid.specs.declared.square.Square.{Square}
use Rattle.grid.specs.Sides.{row_count, slot_count}
use Rattle.grid.specs.Slots.{slot, slot_number, slot_square}
use Rattle.rules.specs.Rules.{RuleView}
use Rattle.matchings.specs.Matchings.{◌!◌, First}
use Rattle.matchings.specs.Reaching.{Inj}
use Rattle.matchings.proofs.Counting.{holder}
use Rattle.matchings.proofs.Regularity.{never_blocks}
use Rattle.matchings.proofs.Unique.{first_unique}
use Rattle.motion.specs.Runs.{away}
use Rattle.motion.specs.Plans.{Plan, start_row, start_bay, goal_row, goal_bay, start_column, goal_column, greatest, furthest, run_steps, whole}
use Rattle.motion.specs.Carrying.{Good}
use Rattle.motion.proofs.Whole.{plans_are_carried}
use Rattle.planning.specs.Assignments.{AssignedGoals}
use Rattle.planning.specs.MiddleRows.{allows, Round, MiddleRows}
use Rattle.planning.specs.Planned.{Planned, Apart, Agreeing, Permutes, Shuffle}
use Rattle.planning.specs.Theorems.{SameSteps, PlanIsUnique, Shuffled, PlanShuffles, MatchingsNeverBlock}
use Rattle.planning.proofs.Slots.{Slots, same_slot, slots_of, in_slots, cell_same, row_below, one_number}
use Rattle.planning.proofs.Counts.{number, numbered}
use Rattle.planning.proofs.Rounds.{SameEnds, one_start, one_goal, regular_counts}
use Rattle.planning.proofs.Unique.{first_solution}

module _ (p : Plan) (assignment : List ℕ) (I : Inj p.carriers (λ s. assignment ! s)) (G : AssignedGoals p assignment) where
  -- each carrier is assigned to a slot, which is its goal
  pub assigned_to :
      (c : ℕ)
      → c < p.carriers
      → (s : ℕ) × (s < p.carriers) × (assignment ! s ≡ c) × (slot_number p.width (p.goal c) ≡ s) × (goal_bay p c < p.width)
  assigned_to c l =
      let o = holder p.carriers (λ s. assignment ! s) c I l in (
        o.0,
        o.1,
        o.2,
        subst (λ (x : ℕ). slot_number p.width (p.goal x) ≡ o.0) o.2 (G.number o.0 o.1),
        subst (λ (x : ℕ). goal_bay p x < p.width) o.2 (G.bay o.0 o.1),
      )

  pub goal_slots : (r : ℕ) → p.carriers ≡ r * p.width → Slots p.carriers r p.width (goal_row p) (goal_bay p)
  goal_slots r many =
      record {
        row_in =
            λ c l.
            let t = assigned_to c l in
            row_below p.width r (goal_row p c) (goal_bay p c) t.0 t.3 (let z = t.1 in omega arith);
        bay_in = λ c l. (assigned_to c l).4;
        apart =
            λ c d lc ld x y.
            let t = assigned_to c lc in
            let u = assigned_to d ld in
            let e : t.0 ≡ u.0 = sym t.3 ∙ ap (slot_number p.width) (same_slot x y) ∙ u.3 in
            sym t.2 ∙ ap (λ (s : ℕ). assignment ! s) e ∙ u.2;
      }

inj_of : (A : ℕ → ℕ → Bool) (n k : ℕ) (m : List ℕ) → k ≡ n → First A n m → Inj k (λ s. m ! s)
inj_of A n k m e F =
    subst (λ (x : ℕ). Inj x (λ s. m ! s)) (sym e) (record { below = F.perfect.below; apart = F.perfect.apart })

-- slots of their own, as many as there are, are all slots
permutes :
    (p : Plan) (place : ℕ → Slot)
    → p.carriers ≡ p.width * row_count p.height
    → Slots p.carriers (row_count p.height) p.width (λ c. (place c).row) (λ c. (place c).bay)
    → Permutes p place
unfolding number
permutes p place many S =
    let r = row_count p.height in
    let row : ℕ → ℕ = λ c. (place c).row in
    let bay : ℕ → ℕ = λ c. (place c).bay in
    record {
      slots = in_slots p place S;
      all =
          λ s lr lb.
          let a : (s.bay + 1) * r ≤ p.width * r = mul-le-mul_right r (omega arith) in
          let b = add-mul s.bay 1 r in
          let d = one-mul r in
          let o =
          holder p.carriers (number p.carriers r p.width row bay many S) (s.bay * r + s.row)
          (numbered p.carriers r p.width row bay many S) (omega arith)
          in
          let t = cell_same (bay o.0) (row o.0) s.bay s.row r (S.row_in o.0 o.1) lr o.2 in
          (o.0, o.1, same_slot t.1 t.0);
    }

module _ (p : Plan) (matchings : ℕ → List ℕ) (many : p.carriers ≡ p.width * row_count p.height)
    (S : Slots p.carriers (row_count p.height) p.width (start_row p) (start_bay p))
    (G : Slots p.carriers (row_count p.height) p.width (goal_row p) (goal_bay p))
    (M : MiddleRows p matchings) where
  -- middle rows by any perfect matchings make a shuffle
  pub shuffle : Shuffle p
  shuffle =
      let r = row_count p.height in
      let round : (c : ℕ) → c < p.carriers → Round p (p.middle c) (matchings (p.middle c)) = λ c l. M.rounds (p.middle c) (M.below c l) in
      record {
        starts = permutes p p.start many S;
        first_middles =
            permutes p (λ c. slot (p.middle c) (start_bay p c)) many (record {
              row_in = M.below;
              bay_in = S.bay_in;
              apart = λ c d lc ld e f. one_start p r S (p.middle c) (matchings (p.middle c)) (round c lc) c d lc ld refl (sym e) f;
            });
        second_middles =
            permutes p (λ c. slot (p.middle c) (goal_bay p c)) many (record {
              row_in = M.below;
              bay_in = G.bay_in;
              apart = λ c d lc ld e f. one_goal p r S (p.middle c) (matchings (p.middle c)) (round c lc) c d lc ld refl (sym e) f;
            });
        goals = permutes p p.goal many G;
      }

pub shuffled : (p : Plan) → Shuffle p → Shuffled p
shuffled p s =
    let good : Good p =
    record {
      starts = s.starts.slots;
      after_first_columns = s.first_middles.slots;
      before_last_columns = s.second_middles.slots;
      goals = s.goals.slots;
    }
    in
    record { shuffle = s; good = good; carried = plans_are_carried p good }

module _ (v : RuleView) (place : ℕ → Square) (p : Plan) where
  -- on the plan's own floor
  own : (h w : ℕ) → Planned v h w place p → Planned v p.height p.width place p
  own h w P =
      subst (λ (x : ℕ). Planned v x p.width place p) (sym P.height)
      (subst (λ (x : ℕ). Planned v h x place p) (sym P.width) P)

  module _ (P : Planned v p.height p.width place p) (A : Apart (slot_count p.height p.width) place) where
    start_slots : Slots p.carriers (row_count p.height) p.width (start_row p) (start_bay p)
    start_slots =
        slots_of p p.start (record {
          inside = P.inside;
          apart =
              λ c d l ld e.
              A c d l (let z = P.carriers in omega arith)
              (sym (P.starts c (omega arith)) ∙ ap slot_square e ∙ P.starts d ld);
        })

    their_goal_slots : Slots p.carriers (row_count p.height) p.width (goal_row p) (goal_bay p)
    their_goal_slots =
        goal_slots p P.assignment (inj_of v.admits (slot_count p.height p.width) p.carriers P.assignment P.carriers P.assigned)
        P.goals (row_count p.height) P.carriers

    planned_shuffles : Shuffled p
    planned_shuffles =
        shuffled p
        (shuffle p P.matchings (P.carriers ∙ mul_comm (row_count p.height) p.width) start_slots their_goal_slots P.middles)

pub plan_shuffles : PlanShuffles
plan_shuffles v h w place p A P =
    let own-apart : Apart (slot_count p.height p.width) place =
    subst (λ (x : ℕ). Apart (slot_count x p.width) place) (sym P.height)
    (subst (λ (x : ℕ). Apart (slot_count h x) place) (sym P.width) A)
    in
    planned_shuffles v place p (own v place p h w P) own-apart

greatest_same : (n : ℕ) (f g : ℕ → ℕ) → ((c : ℕ) → c < n → f c ≡ g c) → greatest n f ≡ greatest n g
unfolding greatest
greatest_same zero f g h = refl
greatest_same (suc n) f g h =
    ap (λ (x : ℕ). max x (greatest n f)) (h n (omega arith)) ∙ ap (λ (x : ℕ). max (g n) x) (greatest_same n f g (λ c l. h c (omega arith)))

module _ (p q : Plan) (many : q.carriers ≡ p.carriers) (A : Agreeing p q) where
  far :
      (a b x y : ℕ → ℕ)
      → ((c : ℕ) → c < p.carriers → x c ≡ a c)
      → ((c : ℕ) → c < p.carriers → y c ≡ b c)
      → furthest q.carriers x y ≡ furthest p.carriers a b
  far a b x y e f =
      ap (λ (n : ℕ). furthest n x y) many
      ∙ greatest_same p.carriers (λ c. away (x c) (y c)) (λ c. away (a c) (b c))
      (λ c l. ap (λ (z : ℕ). away z (y c)) (e c l) ∙ ap (λ (z : ℕ). away (a c) z) (f c l))

  across_far : furthest q.carriers (start_bay q) (goal_bay q) ≡ furthest p.carriers (start_bay p) (goal_bay p)
  across_far =
      far (start_bay p) (goal_bay p) (start_bay q) (goal_bay q) (λ c l. ap (λ (s : Slot). s.bay) (A.start c l))
      (λ c l. ap (λ (s : Slot). s.bay) (A.goal c l))

  pub same_steps : SameSteps p q
  unfolding whole
  same_steps =
      let first = ap run_steps (far (start_row p) p.middle (start_row q) q.middle (λ c l. ap (λ (s : Slot). s.row) (A.start c l)) A.middle) in
      let turn = ap (λ (n : ℕ). cond (eqb n 0) 0 2) across_far in
      let rows =
      ap run_steps (far (start_column p) (goal_column p) (start_column q) (goal_column q)
      (λ c l. ap (λ (s : Slot). 3 * s.bay + q.middle c % 3) (A.start c l) ∙ ap (λ (m : ℕ). 3 * start_bay p c + m % 3) (A.middle c l))
      (λ c l. ap (λ (s : Slot). 3 * s.bay + q.middle c % 3) (A.goal c l) ∙ ap (λ (m : ℕ). 3 * goal_bay p c + m % 3) (A.middle c l)))
      in
      let last = ap run_steps (far p.middle (goal_row p) q.middle (goal_row q) A.middle (λ c l. ap (λ (s : Slot). s.row) (A.goal c l))) in
      record { first_columns = first; turn = turn; rows = rows; turn_back = turn; last_columns = last; whole = omega (arith, first, turn, rows, last) }

-- both on the first plan's own floor
module _ (v : RuleView) (place : ℕ → Square) (p q : Plan) (P : Planned v p.height p.width place p) (Q : Planned v p.height p.width place q)
    (A : Apart (slot_count p.height p.width) place) where
  many : q.carriers ≡ p.carriers
  many = Q.carriers ∙ sym P.carriers

  out : (c : ℕ) → c < p.carriers → c < q.carriers
  out c l = let z = many in omega arith

  starts : (c : ℕ) → c < p.carriers → q.start c ≡ p.start c
  starts c l =
      let e : slot_square (q.start c) ≡ slot_square (p.start c) = Q.starts c (out c l) ∙ sym (P.starts c l) in
      let x = ap (λ (s : Square). s.row) e in
      let y = ap (λ (s : Square). s.column) e in
      same_slot x (omega arith)

  goals : (c : ℕ) → c < p.carriers → q.goal c ≡ p.goal c
  goals c l =
      let n = slot_count p.height p.width in
      let t = assigned_to p P.assignment (inj_of v.admits n p.carriers P.assignment P.carriers P.assigned) P.goals c l in
      let u = assigned_to q Q.assignment (inj_of v.admits n q.carriers Q.assignment Q.carriers Q.assigned) Q.goals c (out c l) in
      let same : P.assignment ≡ Q.assignment = first_unique v.admits n Q.assignment P.assignment Q.assigned P.assigned in
      let e : u.0 ≡ t.0 =
      Q.assigned.perfect.apart u.0 t.0 (let z = u.1 in let y = Q.carriers in omega arith) (let z = t.1 in let y = P.carriers in omega arith)
      (u.2 ∙ sym t.2 ∙ ap (λ (m : List ℕ). m ! t.0) same)
      in
      let a : slot_number p.width (q.goal c) ≡ u.0 = subst (λ (x : ℕ). slot_number x (q.goal c) ≡ u.0) Q.width u.3 in
      one_number p.width (q.goal c) (p.goal c) (let z = u.4 in let y = Q.width in omega arith) t.4 (a ∙ e ∙ sym t.3)

  unique : Agreeing p q × SameSteps p q
  unique =
      let r = row_count p.height in
      let E : SameEnds p q = record { width = Q.width; carriers = many; start = starts; goal = goals } in
      let same : row_count q.height ≡ r = ap row_count Q.height in
      let middle : (c : ℕ) → c < p.carriers → q.middle c ≡ p.middle c =
      λ c l.
      sym (first_solution p q E r (start_slots v place p P A) P.matchings Q.matchings P.middles.rounds
      (λ k lk. Q.middles.rounds k (omega arith)) P.first (λ k lk. Q.first k (omega arith)) P.middles.below c l)
      in
      let agreeing : Agreeing p q = record { start = starts; middle = middle; goal = goals } in
      (agreeing, same_steps p q many agreeing)

pub plan_is_unique : PlanIsUnique
plan_is_unique v h w place p q A P Q =
    let at : (s : Plan) → Planned v h w place s → Planned v p.height p.width place s =
    λ s S.
    subst (λ (x : ℕ). Planned v x p.width place s) (sym P.height)
    (subst (λ (x : ℕ). Planned v h x place s) (sym P.width) S)
    in
    unique v place p q (at p P) (at q Q)
    (subst (λ (x : ℕ). Apart (slot_count x p.width) place) (sym P.height)
    (subst (λ (x : ℕ). Apart (slot_count h x) place) (sym P.width) A))

pub matchings_never_block : MatchingsNeverBlock
matchings_never_block p many S G k l matchings R =
    let counts =
    regular_counts p (row_count p.height) (many ∙ mul_comm (row_count p.height) p.width) (slots_of p p.start S) (slots_of p p.goal G)
    matchings k l R
    in
    (counts, λ bays b. never_blocks (allows p k) p.width bays counts b)
