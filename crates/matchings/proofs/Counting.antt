-- Counting over the numbers below n: sets within sets, and what one-to-one maps leave of a count.
use Rattle.std.proofs.Common.{◌≡◌, ℕ, zero, suc, ◌+◌, ◌<◌, ◌≤◌, Bool, true, false, cond, not, eqb, ◌≢◌, ◌⊎◌, sym, refl, ◌∙◌, subst, inl, inr, ⊎_elim, arith}
use Rattle.std.proofs.lemmas.Bool.{cases_Bool, cases_eq, both_ways, eq-eqb, ne_eqb, eqb-true, cond-true, cond-false, not_from_true, not_from_false}
use Rattle.matchings.specs.Matchings.{count}
use Rattle.matchings.specs.Reaching.{Inj}

bit_le : (a b : Bool) → (a ≡ true → b ≡ true) → cond a 1 0 ≤ cond b 1 0
bit_le true b h = let e : b ≡ true = h refl in rw e (omega arith)
bit_le false b h = omega arith

pub count_le : (f g : ℕ → Bool) (n : ℕ) → ((k : ℕ) → k < n → f k ≡ true → g k ≡ true) → count f n ≤ count g n
count_le f g zero h = omega arith
count_le f g (suc n) h =
    let a = bit_le (f n) (g n) (h n (omega arith)) in
    let b = count_le f g n (λ k l. h k (omega arith)) in
    omega arith

pub count_lt : (f g : ℕ → Bool) (n i : ℕ) → i < n → f i ≡ false → g i ≡ true → ((k : ℕ) → k < n → f k ≡ true → g k ≡ true) → count f n < count g n
count_lt f g zero i l fi gi h = absurd (omega arith)
count_lt f g (suc n) i l fi gi h = go (cases_eq i n) (λ m. count_lt f g n i m fi gi (λ k l. h k (omega arith)))
  where
    go : (i ≡ n) ⊎ (i ≡ n → ⊥) → (i < n → count f n < count g n) → count f (suc n) < count g (suc n)
    go (inl e) ih =
        let b = count_le f g n (λ k l. h k (omega arith)) in
        let x : f n ≡ false = subst (λ (k : ℕ). f k ≡ false) e fi in
        let y : g n ≡ true = subst (λ (k : ℕ). g k ≡ true) e gi in
        rw (x, y) (omega arith)
    go (inr d) ih =
        let a = bit_le (f n) (g n) (h n (omega arith)) in
        let b = ih (omega arith) in
        omega arith

without : (ℕ → Bool) → ℕ → ℕ → Bool
without f x k = cond (eqb k x) false (f k)

without_same : (f : ℕ → Bool) (x : ℕ) → without f x x ≡ false
unfolding without
without_same f x = cond-true (eqb x x) false (f x) (eq-eqb x x refl)

without_other : (f : ℕ → Bool) (x k : ℕ) → (k ≡ x → ⊥) → without f x k ≡ f k
unfolding without
without_other f x k d = cond-false (eqb k x) false (f k) (ne_eqb k x d)

-- the values of f at the places below a, which go to different places below b, are no more than f has below b
pub inj_count : (m : ℕ → ℕ) (a b : ℕ) (f : ℕ → Bool) → ((k : ℕ) → k < a → m k < b) → ((i j : ℕ) → i < a → j < a → m i ≡ m j → i ≡ j) → count (λ k. f (m k)) a ≤ count f b
inj_count m zero b f below apart = omega arith
inj_count m (suc a) b f below apart = go (cases_Bool (f (m a))) (λ f. inj_count m a b f (λ k l. below k (omega arith)) (λ i j li lj. apart i j (omega arith) (omega arith)))
  where
    go : (f (m a) ≡ true) ⊎ (f (m a) ≡ false) → ((f : ℕ → Bool) → count (λ k. f (m k)) a ≤ count f b) → count (λ k. f (m k)) (suc a) ≤ count f b
    go (inr e) ih = let h = ih f in rw e (omega arith)
    go (inl e) ih =
        let h = ih (without f (m a)) in
        let s = count_lt (without f (m a)) f b (m a) (below a (omega arith)) (without_same f (m a)) e
        (λ k l t. ⊎_elim (λ q. rw q e) (λ d. sym (without_other f (m a) k d) ∙ t) (cases_eq k (m a))) in
        let u = count_le (λ k. f (m k)) (λ k. without f (m a) (m k)) a
        (λ k l t. without_other f (m a) (m k) (λ q. let z = apart k a (omega arith) (omega arith) q in omega arith) ∙ t) in
        rw e (omega arith)

both_bits : (b : Bool) → cond b 1 0 + cond (not b) 1 0 ≡ 1
both_bits true = refl
both_bits false = refl

pub count_both : (f : ℕ → Bool) (n : ℕ) → count f n + count (λ k. not (f k)) n ≡ n
count_both f zero = refl
count_both f (suc n) = let a = count_both f n in let b = both_bits (f n) in omega arith

pub inj_le : (n : ℕ) (m : ℕ → ℕ) (f : ℕ → Bool) → Inj n m → count (λ k. f (m k)) n ≤ count f n
inj_le n m f h = inj_count m n n f h.below h.apart

pub inj_ge : (n : ℕ) (m : ℕ → ℕ) (f : ℕ → Bool) → Inj n m → count f n ≤ count (λ k. f (m k)) n
inj_ge n m f h =
    let a = inj_le n m (λ k. not (f k)) h in
    let b = count_both f n in
    let c = count_both (λ k. f (m k)) n in
    omega arith

-- a set B of right members with m i in it; who has none of B under m has none under p: then p gives i one of B
pub escape : (n : ℕ) (B : ℕ → Bool) (m p : ℕ → ℕ) (i : ℕ) → Inj n m → Inj n p → i < n → B (m i) ≡ true
    → ((l : ℕ) → l < n → l ≢ i → B (m l) ≡ false → B (p l) ≡ false) → B (p i) ≡ true
escape n B m p i im ip li at h = ⊎_elim (λ e. e) (λ e. absurd (bad e)) (cases_Bool (B (p i)))
  where
    back : (l : ℕ) → l < n → l ≢ i → B (p l) ≡ true → B (m l) ≡ true
    back l ll d t = ⊎_elim (λ e. e) (λ e. absurd (both_ways (B (p l)) (h l ll d e) t)) (cases_Bool (B (m l)))

    bad : B (p i) ≡ false → ⊥
    bad e =
        let s = count_lt (λ l. B (p l)) (λ l. B (m l)) n i li e at
        (λ l ll t. ⊎_elim (λ q. rw q at) (λ d. back l ll d t) (cases_eq l i)) in
        let a = inj_le n m B im in
        let b = inj_ge n p B ip in
        omega arith

-- where all pass, the count is n
pub count_all : (f : ℕ → Bool) (n : ℕ) → ((k : ℕ) → k < n → f k ≡ true) → count f n ≡ n
count_all f zero h = refl
count_all f (suc n) h = let a = count_all f n (λ k l. h k (omega arith)) in let e : f n ≡ true = h n (omega arith) in rw e (omega arith)

-- t different numbers below n, and another one below n: t is below n
pub room : (q : ℕ → ℕ) (t n x : ℕ) → x < n → ((k : ℕ) → k < t → q k < n) → ((i j : ℕ) → i < t → j < t → q i ≡ q j → i ≡ j) → ((k : ℕ) → k < t → q k ≢ x) → t < n
room q t n x lx below apart other =
    let f : ℕ → Bool = λ k. not (eqb k x) in
    let a = inj_count q t n f below apart in
    let b = count_all (λ k. f (q k)) t (λ k l. not_from_false (eqb (q k) x) (ne_eqb (q k) x (other k l))) in
    let c = count_all (λ k. true) n (λ k l. refl) in
    let d = count_lt f (λ k. true) n x lx (not_from_true (eqb x x) (eq-eqb x x refl)) refl (λ k l t. refl) in
    omega arith

-- where f passes at all, it passes somewhere
some_place : (f : ℕ → Bool) (n : ℕ) → 0 < count f n → (k : ℕ) × (k < n) × (f k ≡ true)
some_place f zero h = absurd (omega arith)
some_place f (suc n) h = go (cases_Bool (f n)) (λ l. some_place f n l)
  where
    go : (f n ≡ true) ⊎ (f n ≡ false) → (0 < count f n → (k : ℕ) × (k < n) × (f k ≡ true)) → (k : ℕ) × (k < suc n) × (f k ≡ true)
    go (inl e) ih = (n, omega arith, e)
    go (inr e) ih = let z = rw e at h in let c = ih (omega arith) in (c.0, let z = c.1 in omega arith, c.2)

-- each right member is had by someone
pub holder : (n : ℕ) (m : ℕ → ℕ) (r : ℕ) → Inj n m → r < n → (l : ℕ) × (l < n) × (m l ≡ r)
holder n m r im lr =
    let a = inj_ge n m (λ x. eqb x r) im in
    let b = count_lt (λ x. false) (λ x. eqb x r) n r lr refl (eq-eqb r r refl) (λ k l t. absurd (both_ways false refl t)) in
    let c = some_place (λ k. eqb (m k) r) n (omega arith) in
    (c.0, c.1, eqb-true (m c.0) r c.2)

-- p gives no more of B to others than m does: then it gives B to the same
pub same_set : (n : ℕ) (B : ℕ → Bool) (m p : ℕ → ℕ) → Inj n m → Inj n p → ((i : ℕ) → i < n → B (p i) ≡ true → B (m i) ≡ true)
    → (i : ℕ) → i < n → B (m i) ≡ true → B (p i) ≡ true
same_set n B m p im ip h i li at = ⊎_elim (λ e. e) (λ e. absurd (bad e)) (cases_Bool (B (p i)))
  where
    bad : B (p i) ≡ false → ⊥
    bad e =
        let s = count_lt (λ l. B (p l)) (λ l. B (m l)) n i li e at (λ l ll t. h l ll t) in
        let a = inj_le n m B im in
        let b = inj_ge n p B ip in
        omega arith
