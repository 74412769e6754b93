-- Orderly motions: the run and the turn of many carriers, motions one after the other, and with rows and columns
-- exchanged.
use Rattle.std.proofs.Common.{◌≡◌, ℕ, suc, ◌+◌, ◌-◌, ◌*◌, ◌<◌, ◌≤◌, cond, ltb, ◌⊎◌, sym, refl, ap, ◌∙◌, subst, subst₂, inl, inr, arith}
use mathlib.Core.Path.{subst₃}
use native.Mathlib.Decide.{dec_lt}
use Rattle.std.proofs.lemmas.Bool.Decides.{nat_tests}
use Rattle.grid.specs.declared.heading.Heading.{Heading}
use Rattle.grid.specs.declared.heading.Heading.TheVariants.{Stay, Up, Right, Down, Left}
use Rattle.grid.specs.declared.square.Square.{Square}
use Rattle.grid.specs.Headings.{turned_heading}
use Rattle.grid.specs.Squares.{OnFloor, Remains, led, turned_square}
use Rattle.motion.specs.Motions.{Motion, and_then, across, run, turn}
use Rattle.motion.proofs.Runs.{run_inside, runs_apart, run_remains, run_leads, runs_pass, turn_inside, turns_apart, turn_remains, turn_leads, turns_pass}

-- over a floor of r rows and l columns, the motion of the first n carriers
pub record Orderly (r l n : ℕ) (m : Motion) : Type 0 where
  pub inside : (t c : ℕ) → t ≤ m.steps → c < n → OnFloor r l (m.place t c)
  pub apart : (t c d : ℕ) → t ≤ m.steps → c < d → d < n → m.place t c ≡ m.place t d → ⊥
  pub remains : (t c : ℕ) → t < m.steps → c < n → Remains r l (m.place t c) (m.heading t c)
  pub leads : (t c : ℕ) → t < m.steps → c < n → led (m.place t c) (m.heading t c) ≡ m.place (suc t) c
  pub passes :
      (t c d : ℕ)
      → t < m.steps
      → c < d
      → d < n
      → m.place (suc t) c ≡ m.place t d
      → m.place (suc t) d ≡ m.place t c
      → ⊥

-- no two of the first n carriers are in one row of one line
abbrev pub Lined : ℕ → (line row : ℕ → ℕ) → Type 0
Lined n line row = (c d : ℕ) → c < d → d < n → row c ≡ row d → line c ≡ line d → ⊥

abbrev pub Below : ℕ → (ℕ → ℕ) → ℕ → Type 0
Below n f b = (c : ℕ) → c < n → f c < b

-- runs in w lines of r rows
pub orderly_run :
    (r w n steps : ℕ) (line from to : ℕ → ℕ)
    → Below n line w
    → Below n from r
    → Below n to r
    → Lined n line from
    → Lined n line to
    → Orderly r (3 * w) n (run line from to steps)
orderly_run r w n steps line from to in-line in-from in-to one_from one-to =
    record {
      inside = λ t c h k. run_inside r w (line c) (from c) (to c) t (in-from c k) (in-to c k) (in-line c k);
      apart =
          λ t c d h cd k s.
          runs_apart (line c) (line d) (from c) (to c) (from d) (to d) t (one_from c d cd k) (one-to c d cd k) s;
      remains = λ t c h k. run_remains r w (line c) (from c) (to c) t (in-from c k) (in-to c k) (in-line c k);
      leads = λ t c h k. run_leads (line c) (from c) (to c) t;
      passes =
          λ t c d h cd k s z.
          runs_pass (line c) (line d) (from c) (to c) (from d) (to d) t (one_from c d cd k) (one-to c d cd k) s z;
    }

-- turns in w lines of r cells
pub orderly_turn :
    (r w n steps : ℕ) (line row : ℕ → ℕ)
    → steps ≤ 2
    → Below n line w
    → Below n row (3 * r)
    → Lined n line row
    → Orderly (3 * r) (3 * w) n (turn line row steps)
orderly_turn r w n steps line row two in-line in_row one =
    record {
      inside = λ t c h k. turn_inside r w (line c) (row c) t (in_row c k) (in-line c k);
      apart = λ t c d h cd k s. turns_apart (line c) (line d) (row c) (row d) t (one c d cd k) s;
      remains = λ t c h k. turn_remains r w (line c) (row c) t (omega arith) (in_row c k) (in-line c k);
      leads = λ t c h k. turn_leads (line c) (row c) t (omega arith);
      passes = λ t c d h cd k s z. turns_pass (line c) (line d) (row c) (row d) t (omega arith) (one c d cd k) s z;
    }

-- rows and columns exchanged
remains_turned :
    (r l : ℕ) (s : Square) (h : Heading) → Remains r l s h → Remains l r (turned_square s) (turned_heading h)
remains_turned r l s Stay m = tt
remains_turned r l s Up m = m
remains_turned r l s Right m = m
remains_turned r l s Down m = m
remains_turned r l s Left m = m

led_turned : (s : Square) (h : Heading) → led (turned_square s) (turned_heading h) ≡ turned_square (led s h)
led_turned s Stay = refl
led_turned s Up = refl
led_turned s Right = refl
led_turned s Down = refl
led_turned s Left = refl

pub turned_same : {a b : Square} → a ≡ b → turned_square a ≡ turned_square b
turned_same e = ap turned_square e

turned_only : {a b : Square} → turned_square a ≡ turned_square b → a ≡ b
turned_only e = ap turned_square e

pub orderly_across : (r l n : ℕ) (m : Motion) → Orderly r l n m → Orderly l r n (across m)
orderly_across r l n m o =
    record {
      inside = λ t c h k. let q = o.inside t c h k in (q.1, q.0);
      apart = λ t c d h cd k e. o.apart t c d h cd k (turned_only e);
      remains = λ t c h k. remains_turned r l (m.place t c) (m.heading t c) (o.remains t c h k);
      leads = λ t c h k. led_turned (m.place t c) (m.heading t c) ∙ turned_same (o.leads t c h k);
      passes = λ t c d h cd k e z. o.passes t c d h cd k (turned_only e) (turned_only z);
    }

-- one motion after another
early : {A : Type 0} (t n : ℕ) (x y : A) → t < n → cond (ltb t n) x y ≡ x
early t n x y h = grind (arith, nat_tests)

late : {A : Type 0} (t n : ℕ) (x y : A) → n ≤ t → cond (ltb t n) x y ≡ y
late t n x y h = grind (arith, nat_tests)

module _ (a b : Motion) where
  pub place_early : (t c : ℕ) → t < a.steps → (and_then a b).place t c ≡ a.place t c
  place_early t c h = early t a.steps (a.place t c) (b.place (t - a.steps) c) h

  pub place_late : (t u c : ℕ) → t ≡ a.steps + u → (and_then a b).place t c ≡ b.place u c
  place_late t u c e =
      late t a.steps (a.place t c) (b.place (t - a.steps) c) (omega arith)
      ∙ ap (λ (v : ℕ). b.place v c) (omega arith)

  pub heading_early : (t c : ℕ) → t < a.steps → (and_then a b).heading t c ≡ a.heading t c
  heading_early t c h = early t a.steps (a.heading t c) (b.heading (t - a.steps) c) h

  pub heading_late : (t u c : ℕ) → t ≡ a.steps + u → (and_then a b).heading t c ≡ b.heading u c
  heading_late t u c e =
      late t a.steps (a.heading t c) (b.heading (t - a.steps) c) (omega arith)
      ∙ ap (λ (v : ℕ). b.heading v c) (omega arith)

  pub place_ends : (c : ℕ) → (and_then a b).place (and_then a b).steps c ≡ b.place b.steps c
  place_ends c = place_late (a.steps + b.steps) b.steps c refl

-- a step or a time lies in the first motion, or u steps into the second
abbrev Part : ℕ → ℕ → Type 0
Part t n = (t < n) ⊎ ((u : ℕ) × (t ≡ n + u))

part : (t n : ℕ) → Part t n
part t n = go (dec_lt t n)
  where
    go : Dec (t < n) → (t < n) ⊎ ((u : ℕ) × (t ≡ n + u))
    go (yes h) = inl h
    go (no h) = inr (t - n, omega arith)

-- where the first motion has any steps, the second begins where it ends
abbrev pub Joined : ℕ → Motion → Motion → Type 0
Joined n a b = 0 < a.steps → (c : ℕ) → c < n → a.place a.steps c ≡ b.place 0 c

abbrev Leads : Square → Heading → Square → Type 0
Leads s h q = led s h ≡ q

module _ (r l n : ℕ) (a b : Motion) (oa : Orderly r l n a) (ob : Orderly r l n b) (joined : Joined n a b) where
  first_place : (t c : ℕ) → 0 < a.steps → t ≤ a.steps → c < n → a.place t c ≡ (and_then a b).place t c
  first_place t c z h k =
      elim (part t a.steps) [
        | inl x ↦ sym (place_early a b t c x)
        | inr x ↦ ap (λ (v : ℕ). a.place v c) (omega arith) ∙ joined z c k ∙ sym (place_late a b t 0 c (omega arith))
      ]

  second_place : (t u c : ℕ) → t ≡ a.steps + u → b.place u c ≡ (and_then a b).place t c
  second_place t u c e = sym (place_late a b t u c e)

  pub orderly_then : Orderly r l n (and_then a b)
  orderly_then =
      record {
        inside =
            λ t c h k.
            elim (part t a.steps) [
              | inl x ↦ subst (OnFloor r l) (first_place t c (omega arith) (omega arith) k) (oa.inside t c (omega arith) k)
              | inr x ↦ subst (OnFloor r l) (second_place t x.0 c x.1) (ob.inside x.0 c (omega arith) k)
            ];
        apart =
            λ t c d h cd k s.
            elim (part t a.steps) [
              | inl x ↦ oa.apart t c d (omega arith) cd k (first_place t c (omega arith) (omega arith) (omega arith) ∙ s ∙ sym (first_place t d (omega arith) (omega arith) k))
              | inr x ↦ ob.apart x.0 c d (omega arith) cd k (second_place t x.0 c x.1 ∙ s ∙ sym (second_place t x.0 d x.1))
            ];
        remains =
            λ t c h k.
            elim (part t a.steps) [
              | inl x ↦ subst₂ (Remains r l) (first_place t c (omega arith) (omega arith) k) (sym (heading_early a b t c x)) (oa.remains t c x k)
              | inr x ↦ subst₂ (Remains r l) (second_place t x.0 c x.1) (sym (heading_late a b t x.0 c x.1)) (ob.remains x.0 c (omega arith) k)
            ];
        leads =
            λ t c h k.
            elim (part t a.steps) [
              | inl x ↦
                  subst₃ Leads (first_place t c (omega arith) (omega arith) k) (sym (heading_early a b t c x))
                  (first_place (suc t) c (omega arith) x k)
                  (oa.leads t c x k)
              | inr x ↦
                  subst₃ Leads (second_place t x.0 c x.1) (sym (heading_late a b t x.0 c x.1))
                  (second_place (suc t) (suc x.0) c (omega arith))
                  (ob.leads x.0 c (omega arith) k)
            ];
        passes =
            λ t c d h cd k s z.
            elim (part t a.steps) [
              | inl x ↦
                  let some : 0 < a.steps = omega arith in
                  let now : t ≤ a.steps = omega arith in
                  let ck : c < n = omega arith in
                  oa.passes t c d x cd k
                  (first_place (suc t) c some x ck ∙ s ∙ sym (first_place t d some now k))
                  (first_place (suc t) d some x k ∙ z ∙ sym (first_place t c some now ck))
              | inr x ↦
                  let u : suc t ≡ a.steps + suc x.0 = omega arith in
                  ob.passes x.0 c d (omega arith) cd k
                  (second_place (suc t) (suc x.0) c u ∙ s ∙ sym (second_place t x.0 d x.1))
                  (second_place (suc t) (suc x.0) d u ∙ z ∙ sym (second_place t x.0 c x.1))
            ];
      }
