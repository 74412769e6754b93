-- An order's marks, and the slots that its plan starts from.
use Rattle.std.proofs.Common.{◌≡◌, ℕ, zero, suc, ◌*◌, ◌<◌, ◌≤◌, Bool, cond, ◌⊎◌, List, length, take, vec_items, sym, ap, ◌∙◌, subst, inl, inr, arith, length-take, get_or-take, ne_eqb}
use Rattle.grid.specs.declared.slot.Slot.{Slot}
use Rattle.grid.specs.declared.square.Square.{Square}
use Rattle.grid.specs.Sides.{slot_count}
use Rattle.grid.specs.Slots.{slot_square}
use Rattle.deck.specs.Decks.{DeckView}
use Rattle.rules.specs.Rules.{RuleView}
use Rattle.motion.specs.Plans.{Plan, whole, plan_steps}
use Rattle.motion.specs.Carrying.{InSlots}
use Rattle.motion.proofs.Whole.{plans_are_carried}
use Rattle.course.specs.declared.route.Route.{Route}
use Rattle.course.specs.Routes.{route_at, plan_of}
use Rattle.planning.specs.Planned.{Planned}
use Rattle.chain.specs.Floors.{Stands}
use Rattle.chain.specs.Calls.{AtRest, Clean}
use Rattle.floor.specs.Present.{present}
use Rattle.floor.specs.Shown.{shown, plan_in, kept}
use Rattle.floor.specs.declared.record.Floor.{Floor}

-- the first marks, looked at alone
module _ (marks : List ℕ) (n m : ℕ) (same : m ≡ n) (room : n ≤ length marks) where
  long : length (take m marks) ≡ n
  long = simp length-take (omega arith)

  pub clean_whole : Clean (take m marks) (length (take m marks)) → Clean marks n
  clean_whole clean k l =
      let e = long in
      let h : k < length (take m marks) = omega arith in
      sym (get_or-take m marks k 0 (omega arith)) ∙ clean k h

  pub clean_front : Clean marks n → Clean (take m marks) (length (take m marks))
  clean_front clean k l = let e = long in get_or-take m marks k 0 (omega arith) ∙ clean k (omega arith)

-- where the carriers are when an order comes
module _ (f : Floor) (routes : List Route) (long : length routes ≡ slot_count f.sides.height f.sides.width) (here : (c : ℕ) → c < length (vec_items f.routes) → (route_at routes c).start ≡ present f.steps_done (route_at (vec_items f.routes) c)) where
  later : (n : ℕ) (r : Route) → present (suc n) r ≡ r.goal
  later n r = ap (λ (b : Bool). cond b r.start r.goal) (ne_eqb (suc n) 0 (λ e. omega arith))

  present_in : (n : ℕ) → InSlots (plan_in f) (λ c. present n (route_at (vec_items f.routes) c))
  present_in zero = (kept f).good.starts
  present_in (suc n) =
      let i = (kept f).good.goals in
      record {
        inside = λ c l.
            subst (λ (s : Slot). (s.row < 3 * f.sides.height) × (s.bay < f.sides.width)) (sym (later n (route_at (vec_items f.routes) c))) (i.inside c l);
        apart = λ c d cd l e.
            i.apart c d cd l (sym (later n (route_at (vec_items f.routes) c)) ∙ e ∙ later n (route_at (vec_items f.routes) d));
      }

  pub starts_in_slots : InSlots (plan_of f.sides.height f.sides.width routes) (λ c. (route_at routes c).start)
  starts_in_slots =
      let many = f.many in
      let i = present_in f.steps_done in
      record {
        inside = λ c l.
            let m : c < length (vec_items f.routes) = omega arith in
            subst (λ (s : Slot). (s.row < 3 * f.sides.height) × (s.bay < f.sides.width)) (sym (here c m)) (i.inside c m);
        apart = λ c d cd l e.
            let m : c < length (vec_items f.routes) = omega arith in
            let n : d < length (vec_items f.routes) = omega arith in
            i.apart c d cd n (sym (here c m) ∙ e ∙ here d n);
      }

  present_place :
      (n : ℕ)
      → (n ≡ 0) ⊎ (n ≡ plan_steps (plan_in f))
      → (c : ℕ)
      → c < length (vec_items f.routes)
      → slot_square (present n (route_at (vec_items f.routes) c)) ≡ (whole (plan_in f)).place n c
  present_place zero e c l = sym ((plans_are_carried (plan_in f) (kept f).good).begins c l)
  present_place (suc n) (inl e) c l = absurd (omega arith)
  present_place (suc n) (inr e) c l =
      ap slot_square (later n (route_at (vec_items f.routes) c))
      ∙ sym ((plans_are_carried (plan_in f) (kept f).good).ends c l)
      ∙ ap (λ (t : ℕ). (whole (plan_in f)).place t c) (sym e)

  at_rest : AtRest (shown f) → (f.steps_done ≡ 0) ⊎ (f.steps_done ≡ plan_steps (plan_in f))
  at_rest (inl e) = inl e
  at_rest (inr e) = inr (e ∙ (kept f).length)

  -- they start where the deck shows them
  pub starts_shown :
      (v : DeckView)
      → AtRest (shown f)
      → Stands (shown f) v
      → (c : ℕ)
      → c < length routes
      → slot_square (route_at routes c).start ≡ v.square c
  starts_shown v rest stands c l =
      let many = f.many in
      let m : c < length (vec_items f.routes) = omega arith in
      ap slot_square (here c m)
      ∙ present_place f.steps_done (at_rest rest) c m
      ∙ sym (stands.placed c (omega arith))

-- of the squares only those of the plan's carriers count
pub planned_at :
    (r : RuleView) (h w : ℕ) (a b : ℕ → Square) (p : Plan)
    → Planned r h w a p
    → ((c : ℕ) → c < p.carriers → a c ≡ b c)
    → Planned r h w b p
planned_at r h w a b p d same =
    record {
      height = d.height;
      width = d.width;
      carriers = d.carriers;
      starts = λ c l. d.starts c l ∙ same c l;
      inside = d.inside;
      assignment = d.assignment;
      assigned = d.assigned;
      goals = d.goals;
      matchings = d.matchings;
      middles = d.middles;
      first = d.first;
    }
