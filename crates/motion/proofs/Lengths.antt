-- How long runs last: longer than each carrier's way, and no longer than the longest way asks.
use Rattle.std.proofs.Common.{◌≡◌, ℕ, zero, suc, ◌+◌, ◌*◌, ◌<◌, ◌≤◌, max, cond, eqb, ◌⊎◌, sym, refl, ap, ◌∙◌, subst, inl, inr, arith}
use native.Mathlib.Decide.{dec_lt}
use Rattle.std.proofs.lemmas.Bool.Decides.{nat_tests}
use Rattle.motion.specs.Runs.{away}
use Rattle.motion.specs.Plans.{Plan, start_bay, goal_bay, start_column, goal_column, greatest, run_steps, furthest, turn_steps, rows_steps}

pub greatest_none : (f : ℕ → ℕ) → greatest 0 f ≡ 0
unfolding greatest
greatest_none f = refl

pub greatest_more : (n : ℕ) (f : ℕ → ℕ) → greatest (suc n) f ≡ max (f n) (greatest n f)
unfolding greatest
greatest_more n f = refl

pub greatest_above : (n : ℕ) (f : ℕ → ℕ) (c : ℕ) → c < n → f c ≤ greatest n f
greatest_above zero f c h = absurd (omega arith)
greatest_above (suc n) f c h =
    rw greatest_more (elim (dec_lt c n) [ yes k ↦ (let ih = greatest_above n f c k in omega arith) | no k ↦ at_top (omega arith) ])
  where
    at_top : c ≡ n → f c ≤ max (f n) (greatest n f)
    at_top e = subst (λ (x : ℕ). f c ≤ max (f x) (greatest n f)) e (omega arith)

-- 0, or one of them and so bounded as they are
greatest_below :
    (n : ℕ) (f : ℕ → ℕ) (k b : ℕ) → ((c : ℕ) → c < n → f c + k ≤ b) → (greatest n f ≡ 0) ⊎ (greatest n f + k ≤ b)
greatest_below zero f k b h = inl (greatest_none f)
greatest_below (suc n) f k b h =
    rw greatest_more (join (f n) (greatest n f) (h n (omega arith)) (greatest_below n f k b (λ c q. h c (omega arith))))
  where
    join : (x g : ℕ) → x + k ≤ b → (g ≡ 0) ⊎ (g + k ≤ b) → (max x g ≡ 0) ⊎ (max x g + k ≤ b)
    join x g top (inl z) = inr (omega arith)
    join x g top (inr z) = inr (omega arith)

spell_ends : (g a : ℕ) → a ≤ g → (a ≡ 0) ⊎ (a + 2 ≤ run_steps g)
spell_ends g zero h = inl refl
spell_ends g (suc a) h = inr (grind (arith, nat_tests))

-- each carrier's run is over when all runs are
pub run_over :
    (n : ℕ) (from to : ℕ → ℕ) (c : ℕ)
    → c < n
    → (away (from c) (to c) ≡ 0) ⊎ (away (from c) (to c) + 2 ≤ run_steps (furthest n from to))
run_over n from to c h =
    spell_ends (furthest n from to) (away (from c) (to c)) (greatest_above n (λ x. away (from x) (to x)) c h)

spell_short : (g k b : ℕ) → (g ≡ 0) ⊎ (g + k ≤ b) → (run_steps g ≡ 0) ⊎ (run_steps g + k ≤ b + 2)
spell_short g k b (inl z) = inl (ap run_steps z)
spell_short zero k b (inr h) = inl refl
spell_short (suc g) k b (inr h) = inr (grind (arith, nat_tests))

pub run_short :
    (n : ℕ) (from to : ℕ → ℕ) (k b : ℕ)
    → ((c : ℕ) → c < n → away (from c) (to c) + k ≤ b)
    → (run_steps (furthest n from to) ≡ 0) ⊎ (run_steps (furthest n from to) + k ≤ b + 2)
run_short n from to k b h =
    spell_short (furthest n from to) k b (greatest_below n (λ x. away (from x) (to x)) k b h)

greatest_thrice :
    (n : ℕ) (f g : ℕ → ℕ) → ((c : ℕ) → f c ≡ 3 * g c) → greatest n f ≡ 3 * greatest n g
greatest_thrice zero f g e = greatest_none f ∙ sym (ap (λ (x : ℕ). 3 * x) (greatest_none g))
greatest_thrice (suc n) f g e =
    rw (greatest_more n f, greatest_more n g) (omega (arith, e n, greatest_thrice n f g e))

-- in columns of squares the way from bay to bay is three times as long
pub rows_far :
    (p : Plan)
    → furthest p.carriers (start_column p) (goal_column p) ≡ 3 * furthest p.carriers (start_bay p) (goal_bay p)
rows_far p =
    greatest_thrice p.carriers (λ c. away (start_column p c) (goal_column p c))
    (λ c. away (start_bay p c) (goal_bay p c))
    (λ c. omega arith)

-- some carrier changes its bay, or none does
pub record Moving (p : Plan) : Type 0 where
  pub turns : turn_steps p ≡ 2
  pub runs : 0 < rows_steps p

pub record Still (p : Plan) : Type 0 where
  pub turns : turn_steps p ≡ 0
  pub runs : rows_steps p ≡ 0
  pub bays : (c : ℕ) → c < p.carriers → start_bay p c ≡ goal_bay p c

turned : (g : ℕ) → 0 < g → cond {A = ℕ} (eqb g 0) 0 2 ≡ 2
turned g h = grind (arith, nat_tests)

pub moving : (p : Plan) → Moving p ⊎ Still p
moving p = go (furthest p.carriers (start_bay p) (goal_bay p)) refl
  where
    go : (g : ℕ) → furthest p.carriers (start_bay p) (goal_bay p) ≡ g → Moving p ⊎ Still p
    go zero e =
        inr (record {
          turns = ap (λ (g : ℕ). cond (eqb g 0) 0 2) e;
          runs = ap run_steps (rows_far p ∙ ap (λ (g : ℕ). 3 * g) e);
          bays = λ c h. omega (arith, e, greatest_above p.carriers (λ x. away (start_bay p x) (goal_bay p x)) c h);
        })
    go (suc g) e =
        inl (record {
          turns = turned (furthest p.carriers (start_bay p) (goal_bay p)) (omega (arith, e));
          runs =
              subst (λ (x : ℕ). 0 < run_steps x) (sym (rows_far p ∙ ap (λ (x : ℕ). 3 * x) e)) (grind (arith, nat_tests));
        })
