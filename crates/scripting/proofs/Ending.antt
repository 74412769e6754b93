-- When the calls are played, the page has the script.
use Rattle.std.proofs.Common.{◌≡◌, ℕ, ◌+◌, ◌<◌, ◌≤◌, List, [], ◌++◌, length, ap, ◌∙◌, append-nil, arith}
use Rattle.deck.specs.Decks.{DeckView}
use Rattle.orderfile.specs.Records.{OrderView}
use Rattle.motion.specs.Carrying.{longest}
use Rattle.chain.specs.declared.fault.FloorFault.{FloorFault}
use Rattle.chain.specs.Floors.{FloorView}
use Rattle.chain.specs.Faults.{floor_fault_number}
use Rattle.script.specs.Lines.{refused_line_bytes}
use Rattle.serve.specs.Served.{Served}
use Rattle.serve.specs.declared.Ending.{Ending}
use Rattle.serve.specs.declared.Ending.TheVariants.{Stopped, Spent}
use Rattle.scripting.specs.Scripts.{ScriptFor}
use Rattle.scripting.specs.Writing.{written, InPhase, page_account}
use Rattle.scripting.specs.declared.page.Page.{Page}
use Rattle.scripting.specs.declared.page.Phase.{Phase}
use Rattle.scripting.specs.declared.page.Phase.TheVariants.{Ordering, Writing, Stepping, Over, Refused}
use Rattle.scripting.proofs.Keeping.{AccountOf, in_phase}

-- there are fewer events than calls in the budget
few_events :
    (s : Page) (o : OrderView) (f : FloorView) (v : DeckView) (n : ℕ) (ph : Phase)
    → InPhase s o f v n ph
    → n ≤ longest o.height o.width + 1
few_events s o f v n Ordering p = let e = p.1 in omega arith
few_events s o f v n Writing p = let e = p.2 in let a = p.1 in let b = p.0.short in omega arith
few_events s o f v n Stepping p = let e = p.2 in let a = p.1 in let b = p.0.short in omega arith
few_events s o f v n Over p = p.3
few_events s o f v n (Refused fault) p = let e = p.2 in omega arith

-- the page at the end
pub record Ended (s : Page) (o : OrderView) : Type 0 where
  pub floor : FloorView
  pub deck : DeckView
  pub events : ℕ
  pub account : AccountOf s o floor deck events

pub ended :
    {over : Type 0} (first s : Page) (o : OrderView) (f g : FloorView) (v w : DeckView) (budget : ℕ) (r : Ending)
    → longest o.height o.width + 1 < budget
    → page_account o first f v []
    → Served f v (page_account o first) g w (page_account o s) over budget r
    → Ended s o
ended first s o f g v w budget Stopped enough a S =
    record { floor = g; deck = w; events = length (S.events ++ []); account = S.account [] a }
ended first s o f g v w budget Spent enough a S =
    let kept = S.account [] a in
    let few = few_events s o g w (length (S.events ++ [])) s.phase kept.1 in
    let all = S.ended in
    let same = ap length (append-nil S.events) in
    absurd (omega arith)

pub script_written :
    (s : Page) (o : OrderView) (text : List ℕ) → Ended s o → s.phase ≡ Over → text ≡ written s → ScriptFor o text
script_written s o text E e is =
    let p = in_phase s o E.floor E.deck E.events Over e E.account in
    ScriptFor.carried_out p.0 p.1 (is ∙ p.2)

pub script_refused :
    (s : Page) (o : OrderView) (fault : FloorFault) (text : List ℕ)
    → Ended s o
    → s.phase ≡ Refused fault
    → text ≡ refused_line_bytes (floor_fault_number fault)
    → ScriptFor o text
script_refused s o fault text E e is =
    let p = in_phase s o E.floor E.deck E.events (Refused fault) e E.account in
    ScriptFor.unfillable p.1 (is ∙ ap (λ (x : FloorFault). refused_line_bytes (floor_fault_number x)) p.0)
