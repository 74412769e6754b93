-- Computed checks of perfect matchings, and of the first of them.
use Rattle.std.proofs.Common.{◌≡◌, ℕ, zero, suc, ◌<◌, ◌≤◌, Bool, false, cond, eqb, ◌⊎◌, List, length, sym, refl, ap, ◌∙◌, inl, inr, ⊎_elim, arith}
use Rattle.std.proofs.lemmas.Bool.{eq-eqb, ne_eqb, both_ways, cases_eq, cases_lt, cond-true, cond-false}
use Rattle.rules.specs.Rules.{RuleView}
use Rattle.matchings.specs.Matchings.{◌!◌, Perfect, First, count, allowed_by_some, listed}
use Rattle.matchings.proofs.Blocks.{none_past}
use Rattle.planning.specs.Assignments.{Blocked}
use Rattle.trials.proofs.Checks.{Check, lt?, le?, eq?, true?, false?, both?, either?, so?, when-eq?, all?, some?}

abbrev pub perfect? : (A : ℕ → ℕ → Bool) (n : ℕ) (m : List ℕ) → Check (Perfect A n m)
perfect? A n m =
    so? (λ (long, (below, (apart, allowed))). record { long = long; below = below; apart = λ i j li lj. apart i li j lj; allowed = allowed })
    (both? (eq? (length m) n)
    (both? (all? n (λ l. lt? (m ! l) n))
    (both? (all? n (λ i. all? n (λ j. when-eq? (m ! i) (m ! j) (eq? i j))))
    (all? n (λ l. true? (A l (m ! l)))))))

-- Fronts: what the left members below k have.

-- the matching p begins so
abbrev pub Begins : (k : ℕ) (front : ℕ → ℕ) → List ℕ → Type 0
Begins k front p = (j : ℕ) → j < k → p ! j ≡ front j

-- no perfect matching does
abbrev pub NoneBegins : (A : ℕ → ℕ → Bool) (n k : ℕ) (front : ℕ → ℕ) → Type 0
NoneBegins A n k front = (p : List ℕ) → Perfect A n p → Begins k front p → ⊥

-- the left member k has r
abbrev pub longer : (k : ℕ) (front : ℕ → ℕ) (r : ℕ) → ℕ → ℕ
longer k front r j = cond (eqb j k) r (front j)

pub begins_longer : (k r : ℕ) (front : ℕ → ℕ) (p : List ℕ) → p ! k ≡ r → Begins k front p → Begins (suc k) (longer k front r) p
begins_longer k r front p e B j l =
    ⊎_elim (λ q. ap (λ (x : ℕ). p ! x) q ∙ e ∙ sym (cond-true (eqb j k) r (front j) (eq-eqb j k q)))
    (λ d. B j (omega arith) ∙ sym (cond-false (eqb j k) r (front j) (ne_eqb j k d))) (cases_eq j k)

module _ (A : ℕ → ℕ → Bool) (n : ℕ) where
  -- one in the front is not allowed, or had twice
  abbrev pub Clash : (k : ℕ) (front : ℕ → ℕ) → Type 0
  Clash k front = (k ≤ n) × ((j : ℕ) × (j < k) × ((A j (front j) ≡ false) ⊎ ((i : ℕ) × (i < j) × (front i ≡ front j))))

  pub clash_none : (k : ℕ) (front : ℕ → ℕ) → Clash k front → NoneBegins A n k front
  clash_none k front (l, (j, lj, c)) p P B =
      ⊎_elim (λ no. both_ways (A j (p ! j)) (ap (λ (x : ℕ). A j x) (B j lj) ∙ no) (P.allowed j (omega arith)))
      (λ (i, li, e). let z = P.apart i j (omega arith) (omega arith) (B i (omega arith) ∙ e ∙ sym (B j lj)) in omega arith) c

  pub step_none :
      (k : ℕ) (front : ℕ → ℕ)
      → Clash k front ⊎ ((k < n) × ((r : ℕ) → r < n → NoneBegins A n (suc k) (longer k front r)))
      → NoneBegins A n k front
  step_none k front (inl c) p P B = clash_none k front c p P B
  step_none k front (inr (l, h)) p P B = h (p ! k) (P.below k l) p P (begins_longer k (p ! k) front p refl B)

  abbrev pub clash? : (k : ℕ) (front : ℕ → ℕ) → Check (Clash k front)
  clash? k front = both? (le? k n) (some? k (λ j. either? (false? (A j (front j))) (some? j (λ i. eq? (front i) (front j)))))

  -- by a search that is so deep
  abbrev pub none-begins? : (depth k : ℕ) (front : ℕ → ℕ) → Check (NoneBegins A n k front)
  none-begins? zero k front = so? (clash_none k front) (clash? k front)
  none-begins? (suc depth) k front =
      so? (step_none k front)
      (either? (clash? k front) (both? (lt? k n) (all? n (λ r. none-begins? depth (suc k) (longer k front r)))))

  pub first_of :
      (m : List ℕ)
      → Perfect A n m × ((k : ℕ) → k < n → (r : ℕ) → r < m ! k → NoneBegins A n (suc k) (longer k (λ j. m ! j) r))
      → First A n m
  first_of m (P, h) =
      record {
        perfect = P;
        first =
            λ p Q k l same.
            ⊎_elim (λ less. absurd (h k l (p ! k) less p Q (begins_longer k (p ! k) (λ j. m ! j) p refl same))) (λ le. le)
            (cases_lt (p ! k) (m ! k));
      }

  -- no perfect matching begins as m does and then has less
  abbrev pub first? : (m : List ℕ) → Check (First A n m)
  first? m =
      so? (first_of m)
      (both? (perfect? A n m) (all? n (λ k. all? (m ! k) (λ r. none-begins? n (suc k) (longer k (λ j. m ! j) r)))))

-- The slots of a list block: no matching is perfect.

abbrev pub blocked? : (v : RuleView) (n : ℕ) (slots : List ℕ) → Check (Blocked v n)
blocked? v n slots =
    let c = length slots in
    so? (λ (fits, (below, (apart, blocks))). record {
      none = λ m P. none_past v.admits n m (listed slots c) P blocks;
      slots = slots;
      many = c;
      blocking = record { fits = fits; below = below; apart = λ j k lj lk. apart j lj k lk; blocks = blocks };
    })
    (both? (le? c n)
    (both? (all? c (λ k. lt? (slots ! k) n))
    (both? (all? c (λ j. all? c (λ k. when-eq? (slots ! j) (slots ! k) (eq? j k))))
    (lt? (count (allowed_by_some v.admits n (listed slots c)) n) (count (listed slots c) n)))))
