-- Every chain keeps its promises.
use Rattle.std.proofs.Common.{◌≡◌, ℕ, ◌+◌, ◌<◌, ◌≤◌, Bool, true, false, ◌⊎◌, List, Some, Ok, Err, Result, sym, refl, ap, ◌∙◌, subst, inl, inr, arith}
use Rattle.grid.specs.declared.square.Square.{Square}
use Rattle.grid.specs.Sides.{GoodSides, slot_count}
use Rattle.grid.specs.Slots.{slot_square, numbered_slot}
use Rattle.deck.specs.Decks.{DeckView, Sound, Unmoved}
use Rattle.rules.specs.Rules.{RuleView}
use Rattle.matchings.specs.Matchings.{First, ◌!◌}
use Rattle.motion.specs.Plans.{Plan, whole, plan_steps, first_columns_steps, turn_steps, rows_steps, turn_back_steps, last_columns_steps}
use Rattle.motion.specs.Carrying.{longest, Carried}
use Rattle.planning.specs.Planned.{Planned}
use Rattle.chain.specs.Floors.{FloorView, slots, Sized}
use Rattle.chain.specs.Calls.{Clean, RuleFor, Fillable, Opening, OrderRefused, Accepted, Ordered, StepRefused, BackRefused, Stepped, Backed}
use Rattle.chain.specs.Sheets.{Event, Sheet, sheet_of}
use Rattle.chain.specs.Promises.{EarlierChecks, IsOk, Swapped, Promised, EveryChainKeepsItsPromises}
use Rattle.chain.specs.declared.fault.FloorFault.{FloorFault}
use Rattle.chain.specs.declared.fault.FloorFault.TheVariants.{Astray, Unfillable}
use Rattle.chain.proofs.PlanFacts.{planned_assignment, planned_goals, planned_places, planned_steps}
use Rattle.chain.proofs.Fitting.{Fits, carried, many, fits_opened, fits_always, step_still, back_still}

steps_sum : (p : Plan) → plan_steps p ≡ first_columns_steps p + turn_steps p + rows_steps p + turn_back_steps p + last_columns_steps p
unfolding whole
steps_sum p = omega arith

module _ (h w : ℕ) (f : FloorView) (v : DeckView) (s : Sheet) (q : ℕ → Square) (x : Fits h w f v s q) where
  n_slots : slots f ≡ slot_count h w
  n_slots = many h w f x.height x.width

  -- Orders.

  at_rest : (s.net ≡ 0) ⊎ (s.net ≡ s.full) → (f.done ≡ 0) ⊎ (f.done ≡ f.length)
  at_rest (inl e) = inl (sym x.net ∙ e)
  at_rest (inr e) = inr (sym x.net ∙ e ∙ x.full)

  clean_here : (marks : List ℕ) → Clean marks (slot_count h w) → Clean marks (slots f)
  clean_here marks c k below = let e = n_slots in c k (omega arith)

  rule_here : (r : RuleView) → RuleFor (slot_count h w) r → RuleFor (slots f) r
  rule_here r (a, b) = (a ∙ sym n_slots, b ∙ sym n_slots)

  fillable_here : (r : RuleView) → Fillable (slots f) r → Fillable (slot_count h w) r
  fillable_here r a = subst (λ (k : ℕ). Fillable k r) n_slots a

  fillable_there : (r : RuleView) → Fillable (slot_count h w) r → Fillable (slots f) r
  fillable_there r a = subst (λ (k : ℕ). Fillable k r) (sym n_slots) a

  -- of an order that passes the earlier checks only this refusal is left
  only_unfillable :
      (r : RuleView) (marks : List ℕ) (e : FloorFault)
      → EarlierChecks (slot_count h w) s r marks
      → OrderRefused f v r marks e
      → (e ≡ Unfillable) × (Fillable (slot_count h w) r → ⊥)
  only_unfillable r marks e c (OrderRefused.unfinished busy) = absurd (busy (at_rest c.at_rest))
  only_unfillable r marks e c (OrderRefused.few_marks a few) = let k = n_slots in absurd (omega (arith, c.enough))
  only_unfillable r marks e c (OrderRefused.dirty_marks a b dirty) = absurd (dirty (clean_here marks c.clean))
  only_unfillable r marks e c (OrderRefused.astray a b d off) = absurd (off x.stands)
  only_unfillable r marks e c (OrderRefused.wrong_rule a b d k wrong) = absurd (wrong (rule_here r c.rule_for))
  only_unfillable r marks e c (OrderRefused.unfillable a b d k l none) = (refl, λ m. none (fillable_there r m))

  accepted_fillable : (r : RuleView) (marks : List ℕ) (n : ℕ) (g : FloorView) → Accepted f v r marks n g → Fillable (slot_count h w) r
  accepted_fillable r marks n g a =
      let m = planned_assignment r f.height f.width v.square g.plan a.planned in
      fillable_here r (m.0, m.1.perfect)

  filled :
      (r : RuleView) (marks : List ℕ) (answer : Result ℕ FloorFault) (g : FloorView)
      → Ordered f v r marks answer g
      → EarlierChecks (slot_count h w) s r marks
      → Fillable (slot_count h w) r
      → IsOk answer
  filled r marks (Ok n) g is c m = tt
  filled r marks (Err e) g is c m = (only_unfillable r marks e c is.0).1 m

  refused :
      (r : RuleView) (marks : List ℕ) (answer : Result ℕ FloorFault) (g : FloorView)
      → Ordered f v r marks answer g
      → EarlierChecks (slot_count h w) s r marks
      → (Fillable (slot_count h w) r → ⊥)
      → answer ≡ Err Unfillable
  refused r marks (Ok n) g is c none = absurd (none (accepted_fillable r marks n g is))
  refused r marks (Err e) g is c none = ap Err (only_unfillable r marks e c is.0).0

  not_astray : (r : RuleView) (marks : List ℕ) (e : FloorFault) → OrderRefused f v r marks e → e ≡ Astray → ⊥
  not_astray r marks e (OrderRefused.astray a b d off) is = off x.stands
  not_astray r marks e (OrderRefused.unfinished a) is = cc
  not_astray r marks e (OrderRefused.few_marks a b) is = cc
  not_astray r marks e (OrderRefused.dirty_marks a b d) is = cc
  not_astray r marks e (OrderRefused.wrong_rule a b d k l) is = cc
  not_astray r marks e (OrderRefused.unfillable a b d k l m) is = cc

  step_not_astray : (u : DeckView) (e : FloorFault) → StepRefused f v u e → e ≡ Astray → ⊥
  step_not_astray u e (StepRefused.astray a off b) is = off x.stands
  step_not_astray u e (StepRefused.no_next_move a b) is = cc
  step_not_astray u e (StepRefused.go_refused a b d k) is = cc

  back_not_astray : (u : DeckView) (e : FloorFault) → BackRefused f v u e → e ≡ Astray → ⊥
  back_not_astray u e (BackRefused.astray a off b) is = off x.stands
  back_not_astray u e (BackRefused.no_last_move a b) is = cc
  back_not_astray u e (BackRefused.go_refused a b d k) is = cc

  -- Moves.

  way : Carried f.plan
  way = carried f x.kept

  in_plan : (c : ℕ) → c < slot_count h w → c < f.plan.carriers
  in_plan c below = let a = x.kept.carriers in let b = n_slots in omega arith

  in_floor : (c : ℕ) → c < slot_count h w → c < slots f
  in_floor c below = let b = n_slots in omega arith

  in_deck : (c : ℕ) → c < slot_count h w → c < v.carriers
  in_deck c below = let a = x.stands.sized.carriers in let b = n_slots in omega arith

  -- a deck that did not move shows no exchange
  still_apart : (u : DeckView) (c d : ℕ) → Unmoved v u → c < d → d < slot_count h w → Swapped v u c d → ⊥
  still_apart u c d still cd dn sw =
      x.sound.apart c d cd (in_deck d dn) (sym (still c (in_deck c (omega arith))) ∙ sw.0)

  step_apart :
      (answer : Result ℕ FloorFault) (g : FloorView) (u : DeckView) (c d : ℕ)
      → Stepped f v answer g u
      → c < d
      → d < slot_count h w
      → Swapped v u c d
      → ⊥
  step_apart (Ok n) g u c d is cd dn sw =
      let t = f.done in
      let m = is.2 in
      let cn : c < slot_count h w = omega arith in
      let go : t < plan_steps f.plan = omega (arith, is.0, x.kept.length) in
      let next : (k : ℕ) → k < slot_count h w → u.square k ≡ (whole f.plan).place (t + 1) k =
      λ k kn. m.placed k (in_floor k kn) ∙ ap (λ i. (whole f.plan).place i k) is.1 in
      let was : (k : ℕ) → k < slot_count h w → v.square k ≡ (whole f.plan).place t k = λ k kn. x.stands.placed k (in_floor k kn) in
      (way.lawful t go).pass c d cd (in_plan d dn) (
        way.leads t c go (in_plan c cn) ∙ sym (next c cn) ∙ sw.0 ∙ was d dn,
        way.leads t d go (in_plan d dn) ∙ sym (next d dn) ∙ sw.1 ∙ was c cn,
      )
  step_apart (Err e) g u c d is cd dn sw = still_apart u c d (step_still f v u e is.0).1 cd dn sw

  back_apart :
      (answer : Result ℕ FloorFault) (g : FloorView) (u : DeckView) (c d : ℕ)
      → Backed f v answer g u
      → c < d
      → d < slot_count h w
      → Swapped v u c d
      → ⊥
  back_apart (Ok n) g u c d is cd dn sw =
      let m = is.1 in
      let cn : c < slot_count h w = omega arith in
      let go : n < plan_steps f.plan = omega (arith, is.0, x.kept.length, x.kept.within) in
      let next : (k : ℕ) → k < slot_count h w → u.square k ≡ (whole f.plan).place n k = λ k kn. m.placed k (in_floor k kn) in
      let was : (k : ℕ) → k < slot_count h w → v.square k ≡ (whole f.plan).place (n + 1) k =
      λ k kn. x.stands.placed k (in_floor k kn) ∙ ap (λ i. (whole f.plan).place i k) (sym is.0) in
      (way.undone_lawful n go).pass c d cd (in_plan d dn) (
        way.undone_leads n c go (in_plan c cn) ∙ sym (next c cn) ∙ sw.0 ∙ was d dn,
        way.undone_leads n d go (in_plan d dn) ∙ sym (next d dn) ∙ sw.1 ∙ was c cn,
      )
  back_apart (Err e) g u c d is cd dn sw = still_apart u c d (back_still f v u e is.0).1 cd dn sw

  never_both : (b : Bool) → b ≡ true → b ≡ false → ⊥
  never_both true a b = cc
  never_both false a b = cc

  step_not_refused :
      (u : DeckView) (e : FloorFault) → StepRefused f v u e → s.net < s.full → v.ready ≡ true → ⊥
  step_not_refused u e (StepRefused.no_next_move a b) less ready = omega (arith, x.net, x.full)
  step_not_refused u e (StepRefused.astray a off b) less ready = off x.stands
  step_not_refused u e (StepRefused.go_refused a b no-go d) less ready = never_both v.ready ready no-go

  step_goes :
      (answer : Result ℕ FloorFault) (g : FloorView) (u : DeckView)
      → Stepped f v answer g u
      → s.net < s.full
      → v.ready ≡ true
      → IsOk answer
  step_goes (Ok n) g u is less ready = tt
  step_goes (Err e) g u is less ready = step_not_refused u e is.0 less ready

  step_went :
      (answer : Result ℕ FloorFault) (g : FloorView) (u : DeckView)
      → Stepped f v answer g u
      → IsOk answer
      → (s.net < s.full) × (v.ready ≡ true)
  step_went (Ok n) g u is ok = (omega (arith, is.0, x.net, x.full), is.2.ready)
  step_went (Err e) g u is ok = absurd ok

  back_not_refused : (u : DeckView) (e : FloorFault) → BackRefused f v u e → 0 < s.net → v.ready ≡ true → ⊥
  back_not_refused u e (BackRefused.no_last_move a b) some ready = omega (arith, x.net)
  back_not_refused u e (BackRefused.astray a off b) some ready = off x.stands
  back_not_refused u e (BackRefused.go_refused a b no-go d) some ready = never_both v.ready ready no-go

  back_goes :
      (answer : Result ℕ FloorFault) (g : FloorView) (u : DeckView)
      → Backed f v answer g u
      → 0 < s.net
      → v.ready ≡ true
      → IsOk answer
  back_goes (Ok n) g u is some ready = tt
  back_goes (Err e) g u is some ready = back_not_refused u e is.0 some ready

  back_went :
      (answer : Result ℕ FloorFault) (g : FloorView) (u : DeckView)
      → Backed f v answer g u
      → IsOk answer
      → (0 < s.net) × (v.ready ≡ true)
  back_went (Ok n) g u is ok = (omega (arith, is.0, x.net), is.1.ready)
  back_went (Err e) g u is ok = absurd ok

  -- The order's plan.

  placed_by_plan : (c : ℕ) → c < slot_count h w → v.square c ≡ (whole f.plan).place s.net c
  placed_by_plan c below = x.stands.placed c (in_floor c below) ∙ ap (λ t. (whole f.plan).place t c) (sym x.net)

  full_is_length : s.full ≡ plan_steps f.plan
  full_is_length = x.full ∙ x.kept.length

  assigned :
      (r : RuleView) (m : List ℕ)
      → s.rule ≡ Some r
      → s.net ≡ s.full
      → First r.admits (slot_count h w) m
      → (k : ℕ)
      → k < slot_count h w
      → (v.square (m ! k) ≡ slot_square (numbered_slot w k)) × (r.admits k (m ! k) ≡ true)
  assigned r m rule end first k below =
      let planned = x.current r rule in
      let c = m ! k in
      let cn : c < slot_count h w = first.perfect.below k below in
      let goal = planned_goals r h w q f.plan planned m first k below in (
        placed_by_plan c cn
            ∙ ap (λ t. (whole f.plan).place t c) (end ∙ full_is_length)
            ∙ way.ends c (in_plan c cn)
            ∙ ap slot_square goal,
        first.perfect.allowed k below,
      )

  length_bounded : s.full ≤ longest h w
  length_bounded =
      let a = x.kept.height ∙ x.height in
      let b = x.kept.width ∙ x.width in
      omega (arith, full_is_length, way.short)

  stages_sum :
      (r : RuleView) (p : Plan)
      → s.rule ≡ Some r
      → Planned r h w q p
      → s.full ≡ first_columns_steps p + turn_steps p + rows_steps p + turn_back_steps p + last_columns_steps p
  stages_sum r p rule planned =
      full_is_length ∙ planned_steps r h w q f.plan p (x.current r rule) planned x.apart_then ∙ steps_sum p

  promised : (es : List Event) → s ≡ sheet_of es → Promised h w f v es q
  promised es e =
      record {
        filled_if_fillable = λ r marks answer g is c m. filled r marks answer g is (checks c) m;
        refused_if_unfillable = λ r marks answer g is c none. refused r marks answer g is (checks c) none;
        never_astray = λ r marks g is. not_astray r marks Astray is.0 refl;
        never_astray_in_step = λ g u is. step_not_astray u Astray is.0 refl;
        never_astray_in_back = λ g u is. back_not_astray u Astray is.0 refl;
        never_two_on_a_square = x.sound;
        never_an_exchange_in_step = step_apart;
        never_an_exchange_in_back = back_apart;
        step_accepted = λ answer g u is less ready. step_goes answer g u is (subst (λ (y : Sheet). y.net < y.full) (sym e) less) ready;
        step_had_a_move = λ answer g u is ok. let b = step_went answer g u is ok in (subst (λ (y : Sheet). y.net < y.full) e b.0, b.1);
        back_accepted = λ answer g u is some ready. back_goes answer g u is (subst (λ (y : Sheet). 0 < y.net) (sym e) some) ready;
        back_had_a_move = λ answer g u is ok. let b = back_went answer g u is ok in (subst (λ (y : Sheet). 0 < y.net) e b.0, b.1);
        filled_at_the_full_count = λ r m rule end first. assigned r m (named rule) (subst (λ (y : Sheet). y.net ≡ y.full) (sym e) end) first;
        assignment_exists = λ r rule. planned_assignment r h w q f.plan (x.current r (named rule));
        full_count_is_the_length =
            λ r p rule planned. (
              ap (λ (y : Sheet). y.full) (sym e) ∙ stages_sum r p (named rule) planned,
              subst (λ (y : Sheet). y.full ≤ longest h w) e length_bounded,
            );
        moves_in_turn =
            λ r p rule planned c below.
            placed_by_plan c below
            ∙ planned_places r h w q f.plan p (x.current r (named rule)) planned x.apart_then s.net c below
            ∙ ap (λ (y : Sheet). (whole p).place y.net c) e;
        plan_exists = λ r rule. (f.plan, x.current r (named rule));
      }
    where
      checks : {r : RuleView} {marks : List ℕ} → EarlierChecks (slot_count h w) (sheet_of es) r marks → EarlierChecks (slot_count h w) s r marks
      checks {r} {marks} c = subst (λ (y : Sheet). EarlierChecks (slot_count h w) y r marks) (sym e) c

      named : {r : RuleView} → (sheet_of es).rule ≡ Some r → s.rule ≡ Some r
      named rule = ap (λ (y : Sheet). y.rule) e ∙ rule

-- every chain of calls on a record that was opened over a sound deck
pub every_chain :
    (h w : ℕ) (o : FloorView) (z : DeckView)
    → GoodSides h w
    → Sized h w z
    → Sound z
    → Opening h w z o
    → EveryChainKeepsItsPromises h w o z
every_chain h w o z sides sized sound new f v es q chain =
    promised h w f v (sheet_of es) q
    (fits_always h w o z (fits_opened h w z o sides sized sound new) f v es q chain)
    es refl
