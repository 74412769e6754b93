-- The bytes of a record fix the bytes of its script: reading refuses for one reason, and an order has one plan.
use Rattle.std.proofs.Common.{◌≡◌, ℕ, zero, suc, ◌*◌, ◌<◌, ◌≤◌, ◌⊎◌, List, [], ◌∷◌, ◌++◌, map, Ok, Err, sym, refl, ap, ◌∙◌, subst, inl, inr, ⊎_elim, suc-le-suc, zero-le, arith}
use native.Mathlib.Nat.{mod-add-div}
use Rattle.std.specs.List.{range_with_len}
use Rattle.std.proofs.lemmas.List.FromFn.{fill_by_all, length-map-range_with_len, get_or-map-range_with_len}
use Rattle.grid.specs.declared.square.Square.{Square}
use Rattle.grid.specs.Headings.{letter}
use Rattle.motion.specs.Plans.{Plan, whole, plan_steps}
use Rattle.planning.specs.Planned.{Apart, Agreeing}
use Rattle.planning.specs.Theorems.{SameSteps}
use Rattle.planning.proofs.Plans.{plan_is_unique}
use Rattle.orderfile.specs.declared.fault.OrderFault.{OrderFault}
use Rattle.orderfile.specs.declared.fault.OrderFault.TheVariants.{BadSides, BadLength, BadMark, BadVersion, NoRule, BadEntry, NoRoom, NoMemory}
use Rattle.orderfile.specs.Records.{OrderView, Headed, Marked, Versioned, Ruled, Whole, Entered, ReadRefused, Read}
use Rattle.orderfile.specs.Faults.{order_fault_number}
use Rattle.orderfile.proofs.RoundTrip.{reads_back}
use Rattle.script.specs.Lines.{first_line_bytes, refused_line_bytes}
use Rattle.floor.specs.Lines.{letters}
use Rattle.scripting.specs.Orders.{order_slots, new_place}
use Rattle.scripting.specs.Scripts.{step_line, step_lines, plan_script, PlanOf, ScriptFor, ScriptOf}
use Rattle.scripting.specs.Theorems.{ScriptIsFixed}

-- Reading.

-- the questions in their order
abbrev Question : List ℕ → ℕ → Type 0
Question bytes zero = Headed bytes
Question bytes (suc zero) = Marked bytes
Question bytes (suc (suc zero)) = Versioned bytes
Question bytes (suc (suc (suc zero))) = Ruled bytes
Question bytes (suc (suc (suc (suc zero)))) = Whole bytes
Question bytes (suc (suc (suc (suc (suc k))))) = Entered bytes

-- the first k are answered yes
abbrev Passed : List ℕ → ℕ → Type 0
Passed bytes zero = Unit {0}
Passed bytes (suc k) = Passed bytes k × Question bytes k

-- the refusal of each question, and of memory
abbrev refusal : ℕ → OrderFault
refusal zero = BadLength
refusal (suc zero) = BadMark
refusal (suc (suc zero)) = BadVersion
refusal (suc (suc (suc zero))) = NoRule
refusal (suc (suc (suc (suc zero)))) = BadLength
refusal (suc (suc (suc (suc (suc zero))))) = BadEntry
refusal (suc (suc (suc (suc (suc (suc k)))))) = NoMemory

-- question k is the first that is answered no
record FirstNo (bytes : List ℕ) (fault : OrderFault) : Type 0 where
  place : ℕ
  passed : Passed bytes place
  failed : place < 6 → Question bytes place → ⊥
  within : place ≤ 6
  is : fault ≡ refusal place

first_no : (bytes : List ℕ) (fault : OrderFault) → ReadRefused bytes fault → FirstNo bytes fault
first_no bytes BadSides why = absurd why
first_no bytes BadLength (inl none) =
    record { place = 0; passed = tt; failed = λ _. none; within = omega arith; is = refl }
first_no bytes BadLength (inr (a, b, c, d, none)) =
    record { place = 4; passed = ((((tt, a), b), c), d); failed = λ _. none; within = omega arith; is = refl }
first_no bytes BadMark (a, none) =
    record { place = 1; passed = (tt, a); failed = λ _. none; within = omega arith; is = refl }
first_no bytes BadVersion (a, b, none) =
    record { place = 2; passed = ((tt, a), b); failed = λ _. none; within = omega arith; is = refl }
first_no bytes NoRule (a, b, c, none) =
    record { place = 3; passed = (((tt, a), b), c); failed = λ _. none; within = omega arith; is = refl }
first_no bytes BadEntry (a, b, c, d, e, none) =
    record { place = 5; passed = (((((tt, a), b), c), d), e); failed = λ _. none; within = omega arith; is = refl }
first_no bytes NoRoom why = absurd why
first_no bytes NoMemory (a, b, c, d, e, f) =
    record { place = 6; passed = ((((((tt, a), b), c), d), e), f); failed = λ l. absurd (omega arith); within = omega arith; is = refl }

le_or_lt : (a b : ℕ) → (a ≤ b) ⊎ (b < a)
le_or_lt zero b = inl zero-le
le_or_lt (suc a) zero = inr (suc-le-suc zero-le)
le_or_lt (suc a) (suc b) = ⊎_elim (λ p. inl (suc-le-suc p)) (λ q. inr (suc-le-suc q)) (le_or_lt a b)

answered : (bytes : List ℕ) (k j : ℕ) → j < k → Passed bytes k → Question bytes j
answered bytes zero j l p = absurd (omega arith)
answered bytes (suc k) j l p =
    ⊎_elim (λ least. let e : k ≡ j = omega arith in subst (Question bytes) e p.1) (λ below. answered bytes k j below p.0) (le_or_lt k j)

-- reading refuses the same bytes for one reason
same_refusal : (bytes : List ℕ) (f g : OrderFault) → ReadRefused bytes f → ReadRefused bytes g → g ≡ f
same_refusal bytes f g F G =
    let a = first_no bytes f F in
    let b = first_no bytes g G in
    let low = a.within in
    let high = b.within in
    ⊎_elim
    (λ le.
    ⊎_elim (λ ge. let e : b.place ≡ a.place = omega arith in b.is ∙ ap refusal e ∙ sym a.is)
    (λ lt. absurd (a.failed (omega arith) (answered bytes b.place a.place lt b.passed))) (le_or_lt b.place a.place))
    (λ lt. absurd (b.failed (omega arith) (answered bytes a.place b.place lt a.passed))) (le_or_lt a.place b.place)

-- Plans.

-- no two carriers of a new deck stand on one square
pub new_apart : (n w : ℕ) → Apart n (new_place w)
new_apart n w c d l ld e =
    let row = ap (λ (s : Square). s.row) e in
    let column = ap (λ (s : Square). s.column) e in
    let x = mod-add-div c w in
    let y = mod-add-div d w in
    let z = ap (λ (r : ℕ). w * r) row in
    omega arith

pub map_same : {X : Type 0} (f g : ℕ → X) (n : ℕ) (d : X) → ((k : ℕ) → k < n → g k ≡ f k) → map g (range_with_len 0 n) ≡ map f (range_with_len 0 n)
map_same f g n d h =
    fill_by_all f (map g (range_with_len 0 n)) n d (length-map-range_with_len g 0 n)
    (λ k l. get_or-map-range_with_len g 0 n k k d l (omega arith) ∙ h k l)

-- plans that agree have the same letters
module _ (p q : Plan) (many : q.carriers ≡ p.carriers) (A : Agreeing p q) (S : SameSteps p q) where
  same_heading : (t c : ℕ) → c < p.carriers → (whole q).heading t c ≡ (whole p).heading t c
  unfolding whole
  same_heading t c l =
      let start = A.start c l in
      let middle = A.middle c l in
      let goal = A.goal c l in
      let first_columns = S.first_columns in
      let turn = S.turn in
      let rows = S.rows in
      let last_columns = S.last_columns in
      cc

  pub same_letters : (t : ℕ) → letters (whole q) t q.carriers ≡ letters (whole p) t p.carriers
  same_letters t =
      ap (letters (whole q) t) many
      ∙ map_same (λ c. letter ((whole p).heading t c)) (λ c. letter ((whole q).heading t c)) p.carriers 0
      (λ c l. ap letter (same_heading t c l))

  same_lines : (t : ℕ) → step_lines q t ≡ step_lines p t
  unfolding step_lines
  same_lines zero = refl
  same_lines (suc t) =
      ap (λ (x : List ℕ). x ++ step_line q t) (same_lines t)
      ∙ ap (λ (x : List ℕ). step_lines p t ++ (x ++ 10 ∷ [])) (same_letters t)

pub same_script : (o : OrderView) (p q : Plan) → PlanOf o p → PlanOf o q → plan_script q ≡ plan_script p
same_script o p q P Q =
    let u = plan_is_unique _ o.height o.width (new_place o.width) p q (new_apart (order_slots o) o.width) P Q in
    let steps = u.1.whole in
    let h : q.height ≡ p.height = Q.height ∙ sym P.height in
    let w : q.width ≡ p.width = Q.width ∙ sym P.width in
    ap (λ (n : ℕ). first_line_bytes n q.width (plan_steps q) ++ step_lines q (plan_steps q)) h
    ∙ ap (λ (n : ℕ). first_line_bytes p.height n (plan_steps q) ++ step_lines q (plan_steps q)) w
    ∙ ap (λ (n : ℕ). first_line_bytes p.height p.width n ++ step_lines q n) steps
    ∙ ap (λ (x : List ℕ). first_line_bytes p.height p.width (plan_steps p) ++ x)
    (same_lines p q (Q.carriers ∙ sym P.carriers) u.0 u.1 (plan_steps p))

-- Scripts.

abbrev Enough : List ℕ → Type 0
Enough text = text ≡ refused_line_bytes 47 → ⊥

same_order : (o : OrderView) (a b : List ℕ) → Enough a → Enough b → ScriptFor o a → ScriptFor o b → b ≡ a
same_order o a b enough enough' (ScriptFor.carried_out p P e) (ScriptFor.carried_out q Q f) = f ∙ same_script o p q P Q ∙ sym e
same_order o a b enough enough' (ScriptFor.carried_out p P e) (ScriptFor.unfillable none f) =
    absurd (none (P.assignment, P.assigned.perfect))
same_order o a b enough enough' (ScriptFor.carried_out p P e) (ScriptFor.no_memory f) = absurd (enough' f)
same_order o a b enough enough' (ScriptFor.unfillable none e) (ScriptFor.carried_out q Q f) =
    absurd (none (Q.assignment, Q.assigned.perfect))
same_order o a b enough enough' (ScriptFor.unfillable none e) (ScriptFor.unfillable none' f) = f ∙ sym e
same_order o a b enough enough' (ScriptFor.unfillable none e) (ScriptFor.no_memory f) = absurd (enough' f)
same_order o a b enough enough' (ScriptFor.no_memory e) s = absurd (enough e)

-- an order's record is refused for want of memory alone
one_way : (bytes : List ℕ) (o : OrderView) (fault : OrderFault) → Read bytes (Ok o) → Read bytes (Err fault) → fault ≡ NoMemory
one_way bytes o fault R why = reads_back o bytes R.0 R.1 (Err fault) why

of_memory : (fault : OrderFault) (text : List ℕ) → fault ≡ NoMemory → text ≡ refused_line_bytes (order_fault_number fault) → Enough text → ⊥
of_memory fault text e is enough = enough (is ∙ ap (λ (x : OrderFault). refused_line_bytes (order_fault_number x)) e)

same_text : (bytes a b : List ℕ) → Enough a → Enough b → ScriptOf bytes a → ScriptOf bytes b → b ≡ a
same_text bytes a b enough enough' (ScriptOf.ordered o R s) (ScriptOf.ordered p R' s') =
    let e : p ≡ o = reads_back o bytes R.0 R.1 (Ok p) R' in
    same_order o a b enough enough' s (subst (λ (x : OrderView). ScriptFor x b) e s')
same_text bytes a b enough enough' (ScriptOf.ordered o R s) (ScriptOf.refused f F e) =
    absurd (of_memory f b (one_way bytes o f R F) e enough')
same_text bytes a b enough enough' (ScriptOf.refused f F e) (ScriptOf.ordered o R s) =
    absurd (of_memory f a (one_way bytes o f R F) e enough)
same_text bytes a b enough enough' (ScriptOf.refused f F e) (ScriptOf.refused g G e') =
    e' ∙ ap (λ (x : OrderFault). refused_line_bytes (order_fault_number x)) (same_refusal bytes f g F G) ∙ sym e

pub script_is_fixed : ScriptIsFixed
script_is_fixed bytes a b A B = same_text bytes a b A.enough B.enough A.script B.script
