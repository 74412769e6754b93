-- The plan that a floor takes on for an order is the order's plan on a new deck.
use Rattle.std.proofs.Common.{◌≡◌, ℕ, ◌<◌, ◌≤◌, List, length, get_or, replicate, sym, refl, ap, ◌∙◌, subst, inl, arith}
use Rattle.std.proofs.lemmas.List.{length-replicate, get_or-replicate}
use Rattle.grid.specs.declared.square.Square.{Square}
use Rattle.grid.specs.Sides.{row_count, column_count, slot_count}
use Rattle.deck.specs.Decks.{DeckView}
use Rattle.rules.specs.Rules.{RuleView}
use Rattle.motion.specs.Plans.{Plan, whole, plan_steps}
use Rattle.motion.specs.Carrying.{longest}
use Rattle.planning.specs.Planned.{Planned}
use Rattle.orderfile.specs.Records.{Lists, numbers, kinds, OrderView, GoodOrder, Sized}
use Rattle.chain.specs.declared.fault.FloorFault.{FloorFault}
use Rattle.chain.specs.declared.fault.FloorFault.TheVariants.{Unfillable}
use Rattle.chain.specs.Floors.{FloorView, slots, Kept, Stands}
use Rattle.chain.specs.Calls.{Clean, RuleFor, Fillable, OrderRefused, Accepted}
use Rattle.chain.proofs.Fitting.{carried, many}
use Rattle.scripting.specs.Orders.{lists_meaning, order_rule, order_slots, new_place}
use Rattle.scripting.specs.Scripts.{PlanOf}
use Rattle.scripting.specs.Writing.{AtHome}

-- only the squares of the carriers count
planned_at :
    (r : RuleView) (h w : ℕ) (q q' : ℕ → Square) (p : Plan)
    → ((c : ℕ) → c < slot_count h w → q c ≡ q' c)
    → Planned r h w q p
    → Planned r h w q' p
planned_at r h w q q' p same P =
    record {
      height = P.height;
      width = P.width;
      carriers = P.carriers;
      starts = λ c l. P.starts c l ∙ same c (subst (λ (n : ℕ). c < n) P.carriers l);
      inside = P.inside;
      assignment = P.assignment;
      assigned = P.assigned;
      goals = P.goals;
      matchings = P.matchings;
      middles = P.middles;
      first = P.first;
    }

rule_for : (l : Lists) (n : ℕ) → Sized n l → RuleFor n (lists_meaning l)
rule_for (numbers wanted) n e = (e, e)
rule_for (kinds ks masks) n e = (e.1, e.0)

module _ (o : OrderView) (f : FloorView) (v : DeckView) (at : AtHome o f v) where
  slots_are : slots f ≡ order_slots o
  slots_are = many o.height o.width f at.height at.width

  module _ (marks : List ℕ) (clean : marks ≡ replicate (order_slots o) 0) (good : GoodOrder o) (r : RuleView) (is : r ≡ order_rule o) where
    long : length marks ≡ order_slots o
    long = ap length clean ∙ length-replicate (order_slots o) 0

    all_clean : Clean marks (slots f)
    all_clean k l = ap (λ (m : List ℕ). get_or m k 0) clean ∙ get_or-replicate (order_slots o) k 0 0 (subst (λ (n : ℕ). k < n) slots_are l)

    -- nothing but that it cannot be filled refuses the order
    pub only_unfillable :
        (fault : FloorFault)
        → OrderRefused f v r marks fault
        → (fault ≡ Unfillable) × (Fillable (order_slots o) (order_rule o) → ⊥)
    only_unfillable fault (OrderRefused.unfinished busy) = absurd (busy (inl at.done))
    only_unfillable fault (OrderRefused.few_marks a few) = let k = slots_are in let n = long in absurd (omega arith)
    only_unfillable fault (OrderRefused.dirty_marks a b dirty) = absurd (dirty all_clean)
    only_unfillable fault (OrderRefused.astray a b d astray) = absurd (astray at.stands)
    only_unfillable fault (OrderRefused.wrong_rule a b d e wrong) =
        absurd
        (wrong
        (subst (λ (n : ℕ). RuleFor n r) (sym slots_are)
        (subst (λ (x : RuleView). RuleFor (order_slots o) x) (sym is) (rule_for o.lists (order_slots o) good.sized))))
    only_unfillable fault (OrderRefused.unfillable a b d e g none) =
        (refl, λ m. none (subst (λ (n : ℕ). Fillable n r) (sym slots_are) (subst (λ (x : RuleView). Fillable (order_slots o) x) (sym is) m)))

  module _ (r : RuleView) (is : r ≡ order_rule o) (marks : List ℕ) (n : ℕ) (g : FloorView) (kept : Kept g) (A : Accepted f v r marks n g) where
    tall : g.height ≡ o.height
    tall = A.height ∙ at.height

    wide : g.width ≡ o.width
    wide = A.width ∙ at.width

    pub plan_of : PlanOf o g.plan
    plan_of =
        planned_at (order_rule o) o.height o.width v.square (new_place o.width) g.plan at.home
        (subst (λ (x : RuleView). Planned x o.height o.width v.square g.plan) is
        (subst (λ (h : ℕ). Planned r h o.width v.square g.plan) at.height
        (subst (λ (w : ℕ). Planned r f.height w v.square g.plan) at.width A.planned)))

    pub short : plan_steps g.plan ≤ longest o.height o.width
    short =
        let h : g.plan.height ≡ o.height = kept.height ∙ tall in
        let w : g.plan.width ≡ o.width = kept.width ∙ wide in
        subst (λ (x : ℕ). plan_steps g.plan ≤ longest x o.width) h
        (subst (λ (x : ℕ). plan_steps g.plan ≤ longest g.plan.height x) w (carried g kept).short)

    -- the deck stands as the new plan says
    pub stands : Stands g v
    stands =
        let s = at.stands.sized in
        record {
          sized = record {
            rows = s.rows ∙ ap row_count (sym A.height);
            columns = s.columns ∙ ap column_count (sym A.width);
            carriers = s.carriers ∙ sym (many f.height f.width g A.height A.width);
          };
          placed = λ c l.
              let l' : c < g.plan.carriers = subst (λ (k : ℕ). c < k) (sym kept.carriers) l in
              sym
              (ap (λ (t : ℕ). (whole g.plan).place t c) A.done
              ∙ (carried g kept).begins c l'
              ∙ A.planned.starts c l');
        }
