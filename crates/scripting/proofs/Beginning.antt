-- A floor over a new deck, before the order.
use Rattle.std.proofs.Common.{◌≡◌, ℕ, ◌+◌, ◌*◌, ◌/◌, ◌%◌, List, sym, refl, mod-lt, arith}
use native.Mathlib.Nat.{mod-add-div}
use Rattle.grid.specs.Sides.{GoodSides, row_count}
use Rattle.grid.specs.Slots.{numbered_slot}
use Rattle.deck.specs.Decks.{DeckView, Sound}
use Rattle.decklists.specs.New.{New}
use Rattle.rules.specs.AnyRule.{any_meaning}
use Rattle.rules.specs.declared.any.AnyRule.{AnyRule}
use Rattle.rules.specs.declared.any.AnyRule.TheVariants.{Number, Kind}
use Rattle.orderfile.specs.Records.{OrderView}
use Rattle.orderfile.specs.Orders.{rule_lists}
use Rattle.planning.proofs.Slots.{row_below}
use Rattle.chain.specs.declared.fault.FloorFault.{FloorFault}
use Rattle.chain.specs.Floors.{FloorView, Sized}
use Rattle.chain.specs.Calls.{OnSlots, Opening, OpenRefused}
use Rattle.chain.specs.Faults.{floor_fault_number}
use Rattle.chain.proofs.Fitting.{fits_opened}
use Rattle.script.specs.Lines.{refused_line_bytes}
use Rattle.scripting.specs.Orders.{lists_meaning}
use Rattle.scripting.specs.Scripts.{ScriptFor}
use Rattle.scripting.specs.Writing.{AtHome, Fresh}
use Rattle.scripting.specs.declared.page.Page.{Page}
use Rattle.scripting.specs.declared.page.Phase.TheVariants.{Ordering}
use Rattle.scripting.proofs.Keeping.{AccountOf, of_phase}

-- a rule means what its lists do
pub means : (r : AnyRule) → any_meaning r ≡ lists_meaning (rule_lists r)
means (Number r) = refl
means (Kind r) = refl

module _ (h w : ℕ) (v : DeckView) (good : GoodSides h w) (new : New h w v) where
  sized : Sized h w v
  sized = record { rows = new.rows; columns = new.columns; carriers = new.carriers }

  on_slots : OnSlots h w v
  on_slots c l =
      let wide = good.1.0 in
      let parts : w * (c / w) + c % w ≡ c = (let e = mod-add-div c w in omega arith) in
      let slot = numbered_slot w c in
      (slot, record { row = row_below w (row_count h) (c / w) (c % w) c parts l; bay = mod-lt c (omega arith); square = sym (new.on_slots c l) })

  -- only memory can be wanting
  pub not_opened :
      (o : OrderView) (fault : FloorFault) (text : List ℕ)
      → OpenRefused h w v fault
      → text ≡ refused_line_bytes (floor_fault_number fault)
      → ScriptFor o text
  not_opened o fault text (OpenRefused.bad_sides bad) e = absurd (bad good)
  not_opened o fault text (OpenRefused.wrong_deck g wrong) e = absurd (wrong sized)
  not_opened o fault text (OpenRefused.off_slot g s off) e = absurd (off on_slots)
  not_opened o fault text (OpenRefused.no_memory g s t) e = ScriptFor.no_memory e

pub at_home : (o : OrderView) (f : FloorView) (v : DeckView) → GoodSides o.height o.width → Sound v → New o.height o.width v → Opening o.height o.width v f → AtHome o f v
at_home o f v good sound new opening =
    record {
      height = opening.height;
      width = opening.width;
      done = opening.done;
      stands = (fits_opened o.height o.width v f good (sized o.height o.width v good new) sound opening).stands;
      ready = new.ready;
      home = new.on_slots;
    }

-- the account holds before the first call
pub account_begins :
    (s : Page) (o : OrderView) (f : FloorView) (v : DeckView)
    → Fresh s o
    → AtHome o f v
    → AccountOf s o f v 0
account_begins s o f v F home = of_phase s o f v 0 Ordering F.phase F.holds (home, refl)
