-- What the writer of a script keeps true while its order is carried out.
use Rattle.std.specs.Prelude.{◌≡◌, ℕ, ◌+◌, ◌*◌, ◌<◌, ◌≤◌, true, List, ◌++◌, length, take, replicate, vec_items, None, Option}
use Rattle.deck.specs.Decks.{DeckView}
use Rattle.orderfile.specs.Records.{OrderView, GoodOrder}
use Rattle.motion.specs.Plans.{Plan, plan_steps}
use Rattle.motion.specs.Carrying.{longest}
use Rattle.chain.specs.declared.fault.FloorFault.TheVariants.{Unfillable}
use Rattle.chain.specs.Floors.{FloorView, Stands}
use Rattle.chain.specs.Calls.{Fillable}
use Rattle.chain.specs.Sheets.{Event}
use Rattle.script.specs.Lines.{first_line_bytes}
use Rattle.serve.specs.Choices.{Choice}
use Rattle.scripting.specs.Orders.{order_rule, order_slots, new_place}
use Rattle.scripting.specs.Scripts.{step_lines, plan_script, PlanOf}
use Rattle.scripting.specs.declared.writer.Pending.{Pending}
use Rattle.scripting.specs.declared.page.Page.{Page}
use Rattle.scripting.specs.declared.page.Phase.{Phase}
use Rattle.scripting.specs.declared.page.Phase.TheVariants.{Ordering, Writing, Stepping, Over, Refused}

-- what is written so far
abbrev pub written : Page → List ℕ
written s = take s.used (vec_items s.text)

-- how many bytes the longest script of an order can have, with 80 for its first line
abbrev pub longest_script : OrderView → ℕ
longest_script o = longest o.height o.width * (order_slots o + 1) + 80

-- the page is for a floor of this order, and has room for the script
pub record Holds (s : Page) (o : OrderView) : Type 0 where
  pub good : GoodOrder o
  pub height : s.sides.height ≡ o.height
  pub width : s.sides.width ≡ o.width
  pub room : length (vec_items s.text) ≡ longest_script o

-- a floor on which nothing is done yet, over a new deck
pub record AtHome (o : OrderView) (f : FloorView) (v : DeckView) : Type 0 where
  pub height : f.height ≡ o.height
  pub width : f.width ≡ o.width
  pub done : f.done ≡ 0
  pub stands : Stands f v
  pub ready : v.ready ≡ true
  pub home : (c : ℕ) → c < order_slots o → v.square c ≡ new_place o.width c

-- the order's plan is being carried out, and its first lines are written
pub record Underway (s : Page) (o : OrderView) (f : FloorView) (v : DeckView) (lines : ℕ) : Type 0 where
  pub height : f.height ≡ o.height
  pub width : f.width ≡ o.width
  pub planned : PlanOf o f.plan
  pub length_is : f.length ≡ plan_steps f.plan
  pub short : f.length ≤ longest o.height o.width
  pub stands : Stands f v
  pub ready : v.ready ≡ true
  pub inside : s.used ≤ length (vec_items s.text)
  pub text : written s ≡ first_line_bytes o.height o.width f.length ++ step_lines f.plan lines

-- Between calls. Once the order is made, an event for it, and one for each step, came before. The line of a step is written ahead
-- of it.
abbrev pub InPhase : Page → OrderView → FloorView → DeckView → ℕ → Phase → Type 0
InPhase s o f v events Ordering = AtHome o f v × (events ≡ 0)
InPhase s o f v events Writing = Underway s o f v f.done × (f.done ≤ f.length) × (events ≡ f.done + 1)
InPhase s o f v events Stepping = Underway s o f v (f.done + 1) × (f.done < f.length) × (events ≡ f.done + 1)
InPhase s o f v events Over =
    (p : Plan) × PlanOf o p × (written s ≡ plan_script p) × (events ≤ longest o.height o.width + 1)
InPhase s o f v events (Refused fault) = (fault ≡ Unfillable) × (Fillable (order_slots o) (order_rule o) → ⊥) × (events ≡ 1)

abbrev pub page_account : OrderView → Page → FloorView → DeckView → List Event → Type 0
page_account o s f v es = Holds s o × InPhase s o f v (length es) s.phase

-- a call is the order, or a step whose line is written
abbrev pub page_chosen : OrderView → Page → Choice → Type 0
page_chosen o s (Choice.order r marks) =
    (s.phase ≡ Ordering) × (r ≡ order_rule o) × (marks ≡ replicate (order_slots o) 0)
page_chosen o s Choice.step = s.phase ≡ Stepping
page_chosen o s Choice.back = ⊥

-- The order was refused, or all its steps are made. Or it is pending no longer, and its answer was not told: what `serve`
-- promises leaves that open.
abbrev pub Closed : Option Pending → Phase → Type 0
Closed pending Ordering = pending ≡ None
Closed pending Writing = ⊥
Closed pending Stepping = ⊥
Closed pending Over = Unit {0}
Closed pending (Refused fault) = Unit {0}

-- the page of an order that is yet to be made
pub record Fresh (s : Page) (o : OrderView) : Type 0 where
  pub holds : Holds s o
  pub phase : s.phase ≡ Ordering
