-- The account of a writer is kept from call to call.
use Rattle.std.proofs.Common.{◌≡◌, ℕ, suc, ◌+◌, ◌*◌, ◌<◌, ◌≤◌, List, [], ◌∷◌, ◌++◌, length, take, Ok, Err, vec_items, sym, refl, ap, ◌∙◌, subst, append_assoc, append-nil, mul-le-mul_right, suc-mul, zero-add, add-one, arith, length-append}
use Rattle.std.proofs.lemmas.List.{length-take-le}
use Rattle.deck.specs.Decks.{DeckView}
use Rattle.rules.specs.Rules.{RuleView}
use Rattle.motion.specs.Plans.{Plan, whole, plan_steps}
use Rattle.motion.specs.Carrying.{longest}
use Rattle.orderfile.specs.Records.{OrderView, GoodOrder}
use Rattle.chain.specs.declared.fault.FloorFault.{FloorFault}
use Rattle.chain.specs.Floors.{FloorView, slots, Kept}
use Rattle.chain.specs.Calls.{StepRefused, Stepped, Ordered}
use Rattle.chain.proofs.Fitting.{many}
use Rattle.script.specs.Lines.{first_line_bytes}
use Rattle.script.specs.Pasting.{Written}
use Rattle.floor.specs.Lines.{letters, line_bytes, LineRefused, Lined}
use Rattle.scripting.specs.Orders.{order_slots}
use Rattle.scripting.specs.Scripts.{step_line, step_lines, plan_script}
use Rattle.serve.specs.Choices.{Choice}
use Rattle.scripting.specs.Writing.{written, Holds, AtHome, Underway, InPhase, page_chosen}
use Rattle.scripting.specs.declared.page.Page.{Page}
use Rattle.scripting.specs.declared.page.Phase.{Phase}
use Rattle.scripting.specs.declared.page.Phase.TheVariants.{Ordering, Writing, Stepping, Over, Refused}
use Rattle.scripting.proofs.Texts.{pasted_take, pasted_long, step_lines_long, first_line_short}
use Rattle.scripting.proofs.Plans.{only_unfillable, plan_of, short, stands}

-- the account of an order, as it is kept between calls
abbrev pub AccountOf : Page → OrderView → FloorView → DeckView → ℕ → Type 0
AccountOf s o f v events = Holds s o × InPhase s o f v events s.phase

pub in_phase :
    (s : Page) (o : OrderView) (f : FloorView) (v : DeckView) (n : ℕ) (ph : Phase)
    → s.phase ≡ ph
    → AccountOf s o f v n
    → InPhase s o f v n ph
in_phase s o f v n ph e a = subst (λ (x : Phase). InPhase s o f v n x) e a.1

pub of_phase :
    (s : Page) (o : OrderView) (f : FloorView) (v : DeckView) (n : ℕ) (ph : Phase)
    → s.phase ≡ ph
    → Holds s o
    → InPhase s o f v n ph
    → AccountOf s o f v n
of_phase s o f v n ph e H a = (H, subst (λ (x : Phase). InPhase s o f v n x) (sym e) a)

-- a first line of an order is short
pub first_line_fits :
    (o : OrderView) (n : ℕ) → GoodOrder o → n ≤ longest o.height o.width → length (first_line_bytes o.height o.width n) ≤ 80
first_line_fits o n good few =
    let g = good.sides in
    let a = g.0.1 in
    let b = g.1.1 in
    first_line_short o.height o.width n (omega arith) (omega arith) (omega arith)

-- the same order, of a page on which more is written
pub still_holds :
    (s s' : Page) (o : OrderView)
    → s'.sides.height ≡ s.sides.height
    → s'.sides.width ≡ s.sides.width
    → length (vec_items s'.text) ≡ length (vec_items s.text)
    → Holds s o
    → Holds s' o
still_holds s s' o tall wide long H =
    record {
      good = H.good;
      height = tall ∙ H.height;
      width = wide ∙ H.width;
      room = long ∙ H.room;
    }

module _ (s : Page) (o : OrderView) (f : FloorView) (v : DeckView) (t : ℕ) (H : Holds s o) (U : Underway s o f v t) where
  slots_are : f.plan.carriers ≡ order_slots o
  slots_are = U.planned.carriers

  -- how much is written
  pub used_is : s.used ≡ length (first_line_bytes o.height o.width f.length) + t * (order_slots o + 1)
  used_is =
      sym (length-take-le s.used (vec_items s.text) U.inside)
      ∙ ap length U.text
      ∙ length-append (first_line_bytes o.height o.width f.length) (step_lines f.plan t)
      ∙ ap (λ (n : ℕ). length (first_line_bytes o.height o.width f.length) + n)
      (step_lines_long f.plan t ∙ ap (λ (n : ℕ). t * (n + 1)) slots_are)

  -- a line more has room while a step is left
  pub has_room : t < f.length → s.used + (slots f + 1) ≤ length (vec_items s.text)
  has_room left =
      let u = used_is in
      let m = many o.height o.width f U.height U.width in
      let r = H.room in
      let first = first_line_fits o f.length H.good U.short in
      let a = suc-mul t (order_slots o + 1) in
      let few : suc t ≤ longest o.height o.width = (let l = U.short in omega arith) in
      let b = mul-le-mul_right (order_slots o + 1) few in
      omega arith

  pub line_is : line_bytes f ≡ step_line f.plan f.done
  line_is =
      ap (λ (n : ℕ). letters (whole f.plan) f.done n ++ 10 ∷ [])
      (many o.height o.width f U.height U.width ∙ sym slots_are)

-- the lines with one more
lines_more : (p : Plan) (t : ℕ) → step_lines p (t + 1) ≡ step_lines p t ++ step_line p t
unfolding step_lines
lines_more p t = ap (step_lines p) (add-one t)

no_lines : (p : Plan) → step_lines p 0 ≡ []
unfolding step_lines
no_lines p = refl

-- The line of a step is written ahead of it.
pub line_ahead :
    (s s' : Page) (o : OrderView) (f : FloorView) (v : DeckView) (n count : ℕ)
    → s.phase ≡ Writing
    → s'.phase ≡ Stepping
    → s'.sides.height ≡ s.sides.height
    → s'.sides.width ≡ s.sides.width
    → s'.used ≡ s.used + count
    → Lined f (vec_items s.text) s.used (Ok count) (vec_items s'.text)
    → AccountOf s o f v n
    → AccountOf s' o f v n
line_ahead s s' o f v n count e e' tall wide used lined a =
    let b = in_phase s o f v n Writing e a in
    let H = a.0 in
    let U = b.0 in
    let P = lined.2 in
    let long = pasted_long (line_bytes f) (vec_items s.text) (vec_items s'.text) s.used count P in
    let first = first_line_bytes o.height o.width f.length in
    let text : written s' ≡ first ++ step_lines f.plan (f.done + 1) =
    ap (λ (n : ℕ). take n (vec_items s'.text)) used
    ∙ pasted_take (line_bytes f) (vec_items s.text) (vec_items s'.text) s.used count P
    ∙ ap (λ (x : List ℕ). x ++ line_bytes f) U.text
    ∙ append_assoc first (step_lines f.plan f.done) (line_bytes f)
    ∙ ap (λ (x : List ℕ). first ++ (step_lines f.plan f.done ++ x)) (line_is s o f v f.done H U)
    ∙ ap (λ (x : List ℕ). first ++ x) (sym (lines_more f.plan f.done)) in
    of_phase s' o f v n Stepping e' (still_holds s s' o tall wide long H) (
      record {
        height = U.height;
        width = U.width;
        planned = U.planned;
        length_is = U.length_is;
        short = U.short;
        stands = U.stands;
        ready = U.ready;
        inside = (let r = P.room in omega arith);
        text = text;
      },
      lined.0,
      b.2,
    )

-- All steps are written.
pub all_written :
    (s s' : Page) (o : OrderView) (f : FloorView) (v : DeckView) (n : ℕ) (fault : FloorFault)
    → s.phase ≡ Writing
    → s'.phase ≡ Over
    → s'.sides.height ≡ s.sides.height
    → s'.sides.width ≡ s.sides.width
    → s'.used ≡ s.used
    → Lined f (vec_items s.text) s.used (Err fault) (vec_items s'.text)
    → AccountOf s o f v n
    → AccountOf s' o f v n
all_written s s' o f v n fault e e' tall wide used (LineRefused.no_next_move none, same) a =
    let b = in_phase s o f v n Writing e a in
    let U = b.0 in
    let within = b.1 in
    let p = f.plan in
    let done : f.done ≡ plan_steps p = (let l = U.length_is in omega arith) in
    let text : written s' ≡ plan_script p =
    ap (λ (n : ℕ). take n (vec_items s'.text)) used
    ∙ ap (take s.used) same
    ∙ U.text
    ∙ ap (λ (n : ℕ). first_line_bytes o.height o.width n ++ step_lines p f.done) U.length_is
    ∙ ap (λ (n : ℕ). first_line_bytes o.height o.width (plan_steps p) ++ step_lines p n) done
    ∙ ap (λ (n : ℕ). first_line_bytes n o.width (plan_steps p) ++ step_lines p (plan_steps p)) (sym U.planned.height)
    ∙ ap (λ (n : ℕ). first_line_bytes p.height n (plan_steps p) ++ step_lines p (plan_steps p)) (sym U.planned.width) in
    of_phase s' o f v n Over e' (still_holds s s' o tall wide (ap length same) a.0)
    (p, U.planned, text, (let c = b.2 in let l = U.short in omega arith))
all_written s s' o f v n fault e e' tall wide used (LineRefused.no_room left few, same) a =
    let b = in_phase s o f v n Writing e a in
    let r = has_room s o f v f.done a.0 b.0 left in
    absurd (omega arith)

-- An order was chosen, and is answered.
module _ (s : Page) (o : OrderView) (f g : FloorView) (v : DeckView) (k : ℕ) (r : RuleView) (marks : List ℕ)
    (a : AccountOf s o f v k) (chosen : page_chosen o s (Choice.order r marks)) where
  asked : AtHome o f v × (k ≡ 0)
  asked = in_phase s o f v k Ordering chosen.0 a

  same_line : (n : ℕ) → first_line_bytes s.sides.height s.sides.width n ≡ first_line_bytes o.height o.width n
  same_line n =
      ap (λ (h : ℕ). first_line_bytes h s.sides.width n) a.0.height ∙ ap (λ (w : ℕ). first_line_bytes o.height w n) a.0.width

  -- It is accepted, and the first line written.
  pub begun :
      (s' : Page) (n count : ℕ)
      → s'.phase ≡ Writing
      → s'.sides.height ≡ s.sides.height
      → s'.sides.width ≡ s.sides.width
      → s'.used ≡ count
      → Written (first_line_bytes s.sides.height s.sides.width n) (vec_items s.text) 0 (Ok count) (vec_items s'.text)
      → Kept g
      → Ordered f v r marks (Ok n) g
      → AccountOf s' o g v (suc k)
  begun s' n count e tall wide used P kept A =
      let home = asked.0 in
      let none = asked.1 in
      let is = chosen.1 in
      let line = first_line_bytes s.sides.height s.sides.width n in
      let long = pasted_long line (vec_items s.text) (vec_items s'.text) 0 count P in
      let text : written s' ≡ first_line_bytes o.height o.width g.length ++ step_lines g.plan g.done =
      ap (λ (k : ℕ). take k (vec_items s'.text)) (used ∙ sym (zero-add count))
      ∙ pasted_take line (vec_items s.text) (vec_items s'.text) 0 count P
      ∙ same_line n
      ∙ ap (first_line_bytes o.height o.width) (sym A.length)
      ∙ sym (append-nil (first_line_bytes o.height o.width g.length))
      ∙ ap (λ (x : List ℕ). first_line_bytes o.height o.width g.length ++ x) (sym (no_lines g.plan))
      ∙ ap (λ (k : ℕ). first_line_bytes o.height o.width g.length ++ step_lines g.plan k) (sym A.done) in
      of_phase s' o g v (suc k) Writing e (still_holds s s' o tall wide long a.0) (
        record {
          height = A.height ∙ home.height;
          width = A.width ∙ home.width;
          planned = plan_of o f v home r is marks n g kept A;
          length_is = kept.length;
          short = (let l = short o f v home r is marks n g kept A in let k = kept.length in omega arith);
          stands = stands o f v home r is marks n g kept A;
          ready = home.ready;
          inside = (let c = P.room in omega arith);
          text = text;
        },
        kept.within,
        (let d = A.done in omega arith),
      )

  -- There is room for the first line.
  pub first_has_room :
      (after : List ℕ) (n : ℕ) (fault : FloorFault)
      → Written (first_line_bytes s.sides.height s.sides.width n) (vec_items s.text) 0 (Err fault) after
      → Kept g
      → Ordered f v r marks (Ok n) g
      → ⊥
  first_has_room after n fault W kept A =
      let l = short o f v asked.0 r chosen.1 marks n g kept A in
      let e = A.answer in
      let few = first_line_fits o n a.0.good (omega arith) in
      let same = ap length (same_line n) in
      let room = a.0.room in
      let lack = W.1 in
      omega arith

  -- It is refused.
  pub order_refused :
      (s' : Page) (fault : FloorFault)
      → s'.phase ≡ Refused fault
      → s'.sides.height ≡ s.sides.height
      → s'.sides.width ≡ s.sides.width
      → vec_items s'.text ≡ vec_items s.text
      → Ordered f v r marks (Err fault) g
      → AccountOf s' o g v (suc k)
  order_refused s' fault e tall wide text R =
      let none = asked.1 in
      let u = only_unfillable o f v asked.0 marks chosen.2 a.0.good r chosen.1 fault R.0 in
      of_phase s' o g v (suc k) (Refused fault) e (still_holds s s' o tall wide (ap length text) a.0) (u.0, u.1, omega arith)

-- A step that is left is not refused.
pub never_refused :
    (s : Page) (o : OrderView) (f g : FloorView) (v w : DeckView) (k : ℕ) (fault : FloorFault)
    → s.phase ≡ Stepping
    → AccountOf s o f v k
    → Stepped f v (Err fault) g w
    → ⊥
never_refused s o f g v w k fault e a (StepRefused.no_next_move none u, same) =
    let b = in_phase s o f v k Stepping e a in
    let l = b.1 in
    omega arith
never_refused s o f g v w k fault e a (StepRefused.astray l astray u, same) =
    let b = in_phase s o f v k Stepping e a in
    astray b.0.stands
never_refused s o f g v w k fault e a (StepRefused.go_refused l st idle h, same) =
    let b = in_phase s o f v k Stepping e a in
    let r = b.0.ready in
    let z : ◌≡◌ {A = ℕ} 0 1 = cc in
    omega arith
