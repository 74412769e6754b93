-- What the sheet, the record and the deck have to do with each other, kept by every call of a chain.
use Rattle.std.proofs.Common.{◌≡◌, ℕ, zero, suc, ◌+◌, ◌-◌, ◌*◌, ◌%◌, ◌<◌, ◌≤◌, cond, eqb, List, Some, None, Ok, Err, sym, refl, ap, ◌∙◌, subst, arith}
use Rattle.grid.specs.declared.slot.Slot.{Slot}
use Rattle.grid.specs.declared.square.Square.{Square}
use Rattle.grid.specs.Sides.{GoodSides, row_count, slot_count}
use Rattle.grid.specs.Slots.{slot, slot_square}
use Rattle.deck.specs.Decks.{DeckView, Sound, SameFloor, Unmoved}
use Rattle.rules.specs.Rules.{RuleView}
use Rattle.motion.specs.Runs.{away}
use Rattle.motion.specs.Plans.{greatest, run_steps, furthest, start_row, start_bay, goal_row, goal_bay, start_column, goal_column, first_columns_steps, turn_steps, rows_steps, last_columns_steps, whole, plan_steps}
use Rattle.motion.specs.Carrying.{InSlots, Good, moment, Carried}
use Rattle.motion.proofs.Lengths.{greatest_none, greatest_more}
use Rattle.motion.proofs.Whole.{plans_are_carried}
use Rattle.planning.specs.Planned.{Planned, Apart}
use Rattle.chain.specs.Floors.{FloorView, slots, with_done, Kept, Sized, Stands}
use Rattle.chain.specs.Calls.{Opening, Accepted, StepRefused, BackRefused, MovedTo}
use Rattle.chain.specs.Sheets.{Event, Sheet, sheet, sheet_of}
use Rattle.chain.specs.Chains.{Chain}
use Rattle.chain.specs.declared.fault.FloorFault.{FloorFault}
use Rattle.chain.proofs.PlanFacts.{planned_good, planned_starts}
use Rattle.chain.proofs.Decked.{same_sound}

pub record Fits (h w : ℕ) (f : FloorView) (v : DeckView) (s : Sheet) (q : ℕ → Square) : Type 0 where
  pub height : f.height ≡ h
  pub width : f.width ≡ w
  pub kept : Kept f
  pub stands : Stands f v
  pub full : s.full ≡ f.length
  pub net : s.net ≡ f.done
  pub sound : Sound v
  pub current : (r : RuleView) → s.rule ≡ Some r → Planned r h w q f.plan
  pub apart_then : Apart (slot_count h w) q

-- the plan of a record is carried out
pub carried : (f : FloorView) → Kept f → Carried f.plan
carried f k = plans_are_carried f.plan k.good

pub many : (h w : ℕ) (f : FloorView) → f.height ≡ h → f.width ≡ w → slots f ≡ slot_count h w
many h w f e g = cc

-- A deck that changed neither its size nor its squares.

stands_still : (f : FloorView) (v w : DeckView) → SameFloor v w → Unmoved v w → Stands f v → Stands f w
stands_still f v w same still st =
    let n = st.sized.carriers in
    record {
      sized = record {
        rows = same.rows ∙ st.sized.rows;
        columns = same.columns ∙ st.sized.columns;
        carriers = same.carriers ∙ st.sized.carriers;
      };
      placed = λ c h. still c (omega arith) ∙ st.placed c h;
    }

sound_still : (v w : DeckView) → SameFloor v w → Unmoved v w → Sound v → Sound w
sound_still v w same still s = same_sound w v same.rows same.columns same.carriers still s

fits_still :
    (h w : ℕ) (f : FloorView) (v u : DeckView) (s : Sheet) (q : ℕ → Square)
    → SameFloor v u
    → Unmoved v u
    → Fits h w f v s q
    → Fits h w f u s q
fits_still h w f v u s q same still x =
    record {
      height = x.height;
      width = x.width;
      kept = x.kept;
      stands = stands_still f v u same still x.stands;
      full = x.full;
      net = x.net;
      sound = sound_still v u same still x.sound;
      current = x.current;
      apart_then = x.apart_then;
    }

fits_same :
    (h w : ℕ) (f g : FloorView) (v : DeckView) (s : Sheet) (q : ℕ → Square) → g ≡ f → Fits h w f v s q → Fits h w g v s q
fits_same h w f g v s q e x = subst (λ (y : FloorView). Fits h w y v s q) (sym e) x

-- A new record.

greatest_zero : (n : ℕ) (f : ℕ → ℕ) → ((c : ℕ) → c < n → f c ≡ 0) → greatest n f ≡ 0
greatest_zero zero f none = greatest_none f
greatest_zero (suc n) f none =
    greatest_more n f
    ∙ grind (arith, none n (omega arith), greatest_zero n f (λ c h. none c (omega arith)))

-- what the lists of a new record have in common
module _ (h w : ℕ) (z : DeckView) (o : FloorView) (sized : Sized h w z) (sound : Sound z) (new : Opening h w z o) where
  here : (c : ℕ) → c < o.plan.carriers → c < slot_count h w
  here c n = let e = new.carriers in omega arith

  in_slots :
      (place : ℕ → Slot)
      → ((c : ℕ) → c < slot_count h w → place c ≡ o.plan.start c)
      → InSlots o.plan place
  in_slots place same =
      record {
        inside = λ c n.
            let at = new.starts c (here c n) in
            let row : (place c).row ≡ (o.plan.start c).row = ap (λ (x : Slot). x.row) (same c (here c n)) in
            let bay : (place c).bay ≡ (o.plan.start c).bay = ap (λ (x : Slot). x.bay) (same c (here c n)) in
            let tall = new.plan_height in
            let wide = new.plan_width in
            (omega (arith, at.row), omega (arith, at.bay));
        apart = λ c d cd dn e.
            let hc : c < slot_count h w = let e = new.carriers in omega arith in
            let hd = here d dn in
            let starts : o.plan.start c ≡ o.plan.start d = sym (same c hc) ∙ e ∙ same d hd in
            let squares : z.square c ≡ z.square d =
            sym (new.starts c hc).square ∙ ap slot_square starts ∙ (new.starts d hd).square in
            let size = sized.carriers in
            sound.apart c d cd (omega arith) squares;
      }

  pub opened_good : Good o.plan
  opened_good =
      record {
        starts = in_slots o.plan.start (λ c n. refl);
        after_first_columns =
            in_slots (λ c. slot (o.plan.middle c) (start_bay o.plan c))
            (λ c n. ap (λ k. slot k (start_bay o.plan c)) (new.middles c n));
        before_last_columns =
            in_slots (λ c. slot (o.plan.middle c) (goal_bay o.plan c))
            (λ c n.
            ap (λ k. slot k (goal_bay o.plan c)) (new.middles c n)
            ∙ ap (λ (x : Slot). slot (o.plan.start c).row x.bay) (new.goals c n));
        goals = in_slots o.plan.goal new_goals;
      }
    where
      new_goals : (c : ℕ) → c < slot_count h w → o.plan.goal c ≡ o.plan.start c
      new_goals = new.goals

  opened_way : Carried o.plan
  opened_way = plans_are_carried o.plan opened_good

  -- nobody has any way to go
  none :
      (from to : ℕ → ℕ)
      → ((c : ℕ) → c < slot_count h w → from c ≡ to c)
      → furthest o.plan.carriers from to ≡ 0
  none from to same =
      greatest_zero o.plan.carriers (λ c. away (from c) (to c)) (λ c n. let e = same c (here c n) in omega arith)

  pub opened_steps : plan_steps o.plan ≡ 0
  opened_steps =
      let p = o.plan in
      let first : first_columns_steps p ≡ 0 = ap run_steps (none (start_row p) p.middle (λ c n. sym (new.middles c n))) in
      let bays = none (start_bay p) (goal_bay p) (λ c n. sym (ap (λ (x : Slot). x.bay) (new.goals c n))) in
      let turns : turn_steps p ≡ 0 = ap (λ k. cond (eqb k 0) 0 2) bays in
      let across : rows_steps p ≡ 0 =
      ap run_steps
      (none (start_column p) (goal_column p)
      (λ c n. ap (λ (x : Slot). 3 * x.bay + p.middle c % 3) (sym (new.goals c n)))) in
      let last : last_columns_steps p ≡ 0 =
      ap run_steps
      (none p.middle (goal_row p) (λ c n. new.middles c n ∙ ap (λ (x : Slot). x.row) (sym (new.goals c n)))) in
      omega (arith, opened_way.sum)

-- Fits after open.

pub fits_opened :
    (h w : ℕ) (z : DeckView) (o : FloorView)
    → GoodSides h w
    → Sized h w z
    → Sound z
    → Opening h w z o
    → Fits h w o z (sheet None 0 0) z.square
fits_opened h w z o sides sized sound new =
    let n = many h w o new.height new.width in
    record {
      height = new.height;
      width = new.width;
      kept = record {
        sides =
            subst (λ (k : ℕ). GoodSides o.height k) (sym new.width)
            (subst (λ (k : ℕ). GoodSides k w) (sym new.height) sides);
        height = new.plan_height ∙ sym new.height;
        width = new.plan_width ∙ sym new.width;
        carriers = new.carriers ∙ sym n;
        good = opened_good h w z o sized sound new;
        length = new.length ∙ sym (opened_steps h w z o sized sound new);
        within = omega (arith, new.done);
      };
      stands = record {
        sized = record {
          rows = sized.rows ∙ ap row_count (sym new.height);
          columns = sized.columns ∙ ap (λ k. 3 * k) (sym new.width);
          carriers = sized.carriers ∙ sym n;
        };
        placed = λ c below.
            let at : c < slot_count h w = omega arith in
            let many-plan = new.carriers in
            let at' : c < o.plan.carriers = omega arith in
            sym (ap (λ t. (whole o.plan).place t c) new.done ∙ (opened_way h w z o sized sound new).begins c at' ∙ (new.starts c at).square);
      };
      full = sym new.length;
      net = sym new.done;
      sound = sound;
      current = λ r e. cc;
      apart_then = λ c d cd dn e. let size = sized.carriers in sound.apart c d cd (omega arith) e;
    }

-- Fits after an order.

accepted_fits :
    (h w : ℕ) (f g : FloorView) (v : DeckView) (s : Sheet) (q : ℕ → Square) (r : RuleView) (marks : List ℕ) (n : ℕ)
    → Fits h w f v s q
    → Accepted f v r marks n g
    → Fits h w g v (sheet (Some r) n 0) v.square
accepted_fits h w f g v s q r marks n x a =
    let hh : g.height ≡ h = a.height ∙ x.height in
    let ww : g.width ≡ w = a.width ∙ x.width in
    let planned : Planned r h w v.square g.plan =
    subst (λ (k : ℕ). Planned r h k v.square g.plan) x.width
    (subst (λ (k : ℕ). Planned r k f.width v.square g.plan) x.height a.planned) in
    let size : v.carriers ≡ slot_count h w = x.stands.sized.carriers ∙ many h w f x.height x.width in
    let apart : Apart (slot_count h w) v.square = λ c d cd dn e. x.sound.apart c d cd (omega arith) e in
    let good : Good g.plan = planned_good r h w v.square g.plan planned apart in
    let way = plans_are_carried g.plan good in
    let gn : slots g ≡ slot_count h w = many h w g hh ww in
    let pn : g.plan.carriers ≡ slot_count h w = planned.carriers in
    record {
      height = hh;
      width = ww;
      kept = record {
        sides = subst (λ (k : ℕ). GoodSides g.height k) (sym a.width) (subst (λ (k : ℕ). GoodSides k f.width) (sym a.height) x.kept.sides);
        height = planned.height ∙ sym hh;
        width = planned.width ∙ sym ww;
        carriers = pn ∙ sym gn;
        good = good;
        length = a.length ∙ a.answer;
        within = omega (arith, a.done);
      };
      stands = record {
        sized = record {
          rows = x.stands.sized.rows ∙ ap row_count (sym a.height);
          columns = x.stands.sized.columns ∙ ap (λ k. 3 * k) (sym a.width);
          carriers = size ∙ sym gn;
        };
        placed = λ c below.
            let at : c < slot_count h w = omega arith in
            let at' : c < g.plan.carriers = omega arith in
            sym (ap (λ t. (whole g.plan).place t c) a.done ∙ way.begins c at' ∙ planned_starts r h w v.square g.plan planned c at);
      };
      full = sym a.length;
      net = sym a.done;
      sound = x.sound;
      current = λ r' e. let same : r ≡ r' = cc in subst (λ (y : RuleView). Planned y h w v.square g.plan) same planned;
      apart_then = apart;
    }

-- Fits after a move.

moved_fits :
    (h w : ℕ) (f g : FloorView) (v u : DeckView) (s : Sheet) (q : ℕ → Square) (n : ℕ)
    → Fits h w f v s q
    → MovedTo f v n g u
    → n ≤ f.length
    → Fits h w g u (sheet s.rule s.full n) q
moved_fits h w f g v u s q n x m below =
    let k = x.kept in
    let way = carried f k in
    let size = x.stands.sized in
    let long = k.length in
    let there : Sound (moment f.plan n) = way.sound n (omega arith) in
    let after : Fits h w (with_done f n) u (sheet s.rule s.full n) q =
    record {
      height = x.height;
      width = x.width;
      kept = record {
        sides = k.sides;
        height = k.height;
        width = k.width;
        carriers = k.carriers;
        good = k.good;
        length = k.length;
        within = below;
      };
      stands = record {
        sized = record {
          rows = m.floor.rows ∙ size.rows;
          columns = m.floor.columns ∙ size.columns;
          carriers = m.floor.carriers ∙ size.carriers;
        };
        placed = m.placed;
      };
      full = x.full;
      net = refl;
      sound =
          same_sound u (moment f.plan n) (m.floor.rows ∙ size.rows ∙ ap row_count (sym k.height))
          (m.floor.columns ∙ size.columns ∙ ap (λ c. 3 * c) (sym k.width))
          (m.floor.carriers ∙ size.carriers ∙ sym k.carriers)
          (λ c at. let pn = k.carriers in m.placed c (omega arith))
          there;
      current = x.current;
      apart_then = x.apart_then;
    } in
    fits_same h w (with_done f n) g u (sheet s.rule s.full n) q m.recorded after

pub step_still : (f : FloorView) (v u : DeckView) (e : FloorFault) → StepRefused f v u e → SameFloor v u × Unmoved v u
step_still f v u e (StepRefused.no_next_move a b) = (b.floor, b.unmoved)
step_still f v u e (StepRefused.astray a b d) = (d.floor, d.unmoved)
step_still f v u e (StepRefused.go_refused a b d k) = (k.floor, k.unmoved)

pub back_still : (f : FloorView) (v u : DeckView) (e : FloorFault) → BackRefused f v u e → SameFloor v u × Unmoved v u
back_still f v u e (BackRefused.no_last_move a b) = (b.floor, b.unmoved)
back_still f v u e (BackRefused.astray a b d) = (d.floor, d.unmoved)
back_still f v u e (BackRefused.go_refused a b d k) = (k.floor, k.unmoved)

-- Fits along every chain.
pub fits_always :
    (h w : ℕ) (o : FloorView) (z : DeckView)
    → Fits h w o z (sheet None 0 0) z.square
    → (f : FloorView) (v : DeckView) (es : List Event) (q : ℕ → Square)
    → Chain o z f v es q
    → Fits h w f v (sheet_of es) q
fits_always h w o z x f v es q Chain.opened = x
fits_always h w o z x f v es q (Chain.drifted {v = v'} chain same still) =
    fits_still h w f v' v (sheet_of es) q same still (fits_always h w o z x f v' es q chain)
fits_always h w o z x f v es q (Chain.ordered {f = f'} {h = es'} {q = q'} r marks (Ok n) chain is) =
    accepted_fits h w f' f v (sheet_of es') q' r marks n (fits_always h w o z x f' v es' q' chain) is
fits_always h w o z x f v es q (Chain.ordered {f = f'} {h = es'} {q = q'} r marks (Err e) chain is) =
    fits_same h w f' f v (sheet_of es') q' is.1 (fits_always h w o z x f' v es' q' chain)
fits_always h w o z x f v es q (Chain.stepped {f = f'} {v = v'} {h = es'} (Ok n) chain is) =
    let before = fits_always h w o z x f' v' es' q chain in
    let s = sheet_of es' in
    let left = is.0 in
    let after = moved_fits h w f' f v' v s q n before is.2 (omega (arith, is.1)) in
    let net = before.net in
    let count : n ≡ s.net + 1 = omega (arith, is.1) in
    subst (λ (k : ℕ). Fits h w f v (sheet s.rule s.full k) q) count after
fits_always h w o z x f v es q (Chain.stepped {f = f'} {v = v'} {h = es'} (Err e) chain is) =
    let still = step_still f' v' v e is.0 in
    fits_same h w f' f v (sheet_of es') q is.1
    (fits_still h w f' v' v (sheet_of es') q still.0 still.1 (fits_always h w o z x f' v' es' q chain))
fits_always h w o z x f v es q (Chain.backed {f = f'} {v = v'} {h = es'} (Ok n) chain is) =
    let before = fits_always h w o z x f' v' es' q chain in
    let s = sheet_of es' in
    let within = before.kept.within in
    let after = moved_fits h w f' f v' v s q n before is.1 (omega (arith, is.0)) in
    let net = before.net in
    let count : n ≡ s.net - 1 = omega (arith, is.0) in
    subst (λ (k : ℕ). Fits h w f v (sheet s.rule s.full k) q) count after
fits_always h w o z x f v es q (Chain.backed {f = f'} {v = v'} {h = es'} (Err e) chain is) =
    let still = back_still f' v' v e is.0 in
    fits_same h w f' f v (sheet_of es') q is.1
    (fits_still h w f' v' v (sheet_of es') q still.0 still.1 (fits_always h w o z x f' v' es' q chain))
