-- Counting carriers: how a count changes, full bays, and counts by bay.
use Rattle.std.proofs.Common.{◌≡◌, ℕ, zero, suc, ◌+◌, ◌-◌, ◌*◌, ◌<◌, ◌≤◌, Bool, true, false, cond, ◌&&◌, eqb, ltb, leb, ◌≢◌, ◌⊎◌, sym, refl, ap, ◌∙◌, subst, inl, inr, ⊎_elim, mul-le-mul_right, add-mul, one-mul, add-one, arith}
use Rattle.std.proofs.lemmas.Bool.{cases_Bool, cases_eq, cases_lt, eq-eqb, ne_eqb, le-leb, lt-leb, lt-ltb, le-ltb, and_from, and_left, and_right, true≢false}
use Rattle.matchings.specs.Matchings.{count}
use Rattle.matchings.specs.Reaching.{Inj}
use Rattle.matchings.specs.Regular.{total}
use Rattle.matchings.proofs.Counting.{count_le, inj_le, inj_ge}
use Rattle.planning.proofs.Slots.{Slots}

total_zero : (f : ℕ → ℕ) (n : ℕ) → ((k : ℕ) → k < n → f k ≡ 0) → total f n ≡ 0
total_zero f zero h = refl
total_zero f (suc n) h = let a = h n (omega arith) in let b = total_zero f n (λ k l. h k (omega arith)) in omega arith

total_add : (f g : ℕ → ℕ) (n : ℕ) → total (λ k. f k + g k) n ≡ total f n + total g n
total_add f g zero = refl
total_add f g (suc n) = let a = total_add f g n in omega arith

pub total_same : (f g : ℕ → ℕ) (n : ℕ) → ((k : ℕ) → k < n → f k ≡ g k) → total f n ≡ total g n
total_same f g zero h = refl
total_same f g (suc n) h = let a = h n (omega arith) in let b = total_same f g n (λ k l. h k (omega arith)) in omega arith

pub count_more : (f : ℕ → Bool) (n : ℕ) → count f (n + 1) ≡ cond (f n) 1 0 + count f n
count_more f n = ap (λ (x : ℕ). count f x) (add-one n)

bit_one : (b : Bool) → cond b 1 0 ≤ 1
bit_one true = omega arith
bit_one false = omega arith

pub count_few : (f : ℕ → Bool) (n : ℕ) → count f n ≤ n
count_few f zero = omega arith
count_few f (suc n) = let a = count_few f n in let b = bit_one (f n) in omega arith

pub count_same : (f g : ℕ → Bool) (n : ℕ) → ((k : ℕ) → k < n → f k ≡ g k) → count f n ≡ count g n
count_same f g n h =
    let a = count_le f g n (λ k l t. sym (h k l) ∙ t) in
    let b = count_le g f n (λ k l t. h k l ∙ t) in
    omega arith

-- f and g differ at i alone, where f passes
pub count_one : (f g : ℕ → Bool) (n i : ℕ) → i < n → f i ≡ true → g i ≡ false → ((k : ℕ) → k < n → k ≢ i → f k ≡ g k) → count f n ≡ count g n + 1
count_one f g zero i l fi gi h = absurd (omega arith)
count_one f g (suc n) i l fi gi h = go (cases_eq i n) (λ m. count_one f g n i m fi gi (λ k l. h k (omega arith)))
  where
    go : (i ≡ n) ⊎ (i ≡ n → ⊥) → (i < n → count f n ≡ count g n + 1) → count f (suc n) ≡ count g (suc n) + 1
    go (inl e) ih =
        let b = count_same f g n (λ k l. h k (omega arith) (omega arith)) in
        let x : f n ≡ true = subst (λ (k : ℕ). f k ≡ true) e fi in
        let y : g n ≡ false = subst (λ (k : ℕ). g k ≡ false) e gi in
        rw (x, y) (omega arith)
    go (inr d) ih =
        let a : f n ≡ g n = h n (omega arith) (λ q. d (sym q)) in
        let b = ih (omega arith) in
        rw a (omega arith)

-- some place passes, or none does
pub find : (f : ℕ → Bool) (n : ℕ) → ((k : ℕ) × (k < n) × (f k ≡ true)) ⊎ ((k : ℕ) → k < n → f k ≡ false)
find f zero = inr (λ k h. absurd (omega arith))
find f (suc n) = go (cases_Bool (f n)) (find f n)
  where
    go : (f n ≡ true) ⊎ (f n ≡ false) → ((k : ℕ) × (k < n) × (f k ≡ true)) ⊎ ((k : ℕ) → k < n → f k ≡ false) → ((k : ℕ) × (k < suc n) × (f k ≡ true)) ⊎ ((k : ℕ) → k < suc n → f k ≡ false)
    go (inl t) r = inl (n, omega arith, t)
    go (inr e) (inl p) = inl (p.0, (let h = p.1 in omega arith), p.2)
    go (inr e) (inr a) = inr (λ k h. ⊎_elim (λ q. rw q e) (λ d. a k (omega arith)) (cases_eq k n))

pub count_none : (f : ℕ → Bool) (n : ℕ) → ((k : ℕ) → k < n → f k ≡ false) → count f n ≡ 0
count_none f zero h = refl
count_none f (suc n) h = let a = count_none f n (λ k l. h k (omega arith)) in let e : f n ≡ false = h n (omega arith) in rw e (omega arith)

-- a count above zero has a place
pub count_some : (f : ℕ → Bool) (n : ℕ) → 0 < count f n → (k : ℕ) × (k < n) × (f k ≡ true)
count_some f n h = ⊎_elim (λ p. p) (λ a. absurd (let z = count_none f n a in omega arith)) (find f n)

no_bit : (b : Bool) (x : ℕ) → cond b 1 0 + x ≡ 0 → b ≡ true → ⊥
no_bit true x z e = omega arith
no_bit false x z e = true≢false (sym e)

pub count_zero : (f : ℕ → Bool) (n k : ℕ) → count f n ≡ 0 → k < n → f k ≡ true → ⊥
count_zero f zero k z h t = omega arith
count_zero f (suc n) k z h t = ⊎_elim
    (λ e. let x : f n ≡ true = subst (λ (i : ℕ). f i ≡ true) e t in no_bit (f n) (count f n) z x)
    (λ d. count_zero f n k (omega arith) (omega arith) t) (cases_eq k n)

-- how many numbers below n lie from a up to b
range : (a b n : ℕ) → b ≤ n → count (λ s. leb a s && ltb s b) n ≡ b - a
range a b zero h = omega arith
range a b (suc n) h = go (cases_eq b (suc n)) (cases_lt n a) (λ d l. range a d n l)
  where
    go : (b ≡ suc n) ⊎ (b ≡ suc n → ⊥) → (n < a) ⊎ (a ≤ n) → ((d : ℕ) → d ≤ n → count (λ s. leb a s && ltb s d) n ≡ d - a) → count (λ s. leb a s && ltb s b) (suc n) ≡ b - a
    go (inr d) q ih =
        let i : (leb a n && ltb n b) ≡ false = and_right (leb a n) (ltb n b) (le-ltb n b (omega arith)) in
        let y = ih b (omega arith) in
        rw i (omega arith)
    go (inl e) (inl q) ih =
        let z = count_none (λ s. leb a s && ltb s b) (suc n) (λ s l. and_left (leb a s) (ltb s b) (lt-leb a s (omega arith))) in
        omega arith
    go (inl e) (inr q) ih =
        let i : (leb a n && ltb n b) ≡ true = and_from (leb a n) (ltb n b) (le-leb a n q) (lt-ltb n b (omega arith)) in
        let y = ih n (omega arith) in
        let z : count (λ s. leb a s && ltb s b) n ≡ count (λ s. leb a s && ltb s n) n =
        count_same (λ s. leb a s && ltb s b) (λ s. leb a s && ltb s n) n (λ s l. ap (λ (u : Bool). leb a s && u) (lt-ltb s b (omega arith) ∙ sym (lt-ltb s n l))) in
        rw i (omega arith)

module _ (n r w : ℕ) (row bay : ℕ → ℕ) (many : n ≡ w * r) (S : Slots n r w row bay) where
  unfoldable pub number : ℕ → ℕ
  number c = bay c * r + row c

  pub numbered : Inj n number
  unfolding number
  numbered = record {
    below = λ c h. let x = S.row_in c h in let y = S.bay_in c h in let z : (bay c + 1) * r ≤ w * r = mul-le-mul_right r (omega arith) in let e = add-mul (bay c) 1 r in let o = one-mul r in omega arith;
    apart = λ c d hc hd e. let x = S.row_in c hc in let y = S.row_in d hd in
        ⊎_elim (λ q. S.apart c d hc hd (let p : bay c * r ≡ bay d * r = ap (λ (u : ℕ). u * r) q in omega arith) q)
        (λ p. absurd (⊎_elim
        (λ l. let z : (bay c + 1) * r ≤ bay d * r = mul-le-mul_right r (omega arith) in let v = add-mul (bay c) 1 r in let o = one-mul r in omega arith)
        (λ l. let z : (bay d + 1) * r ≤ bay c * r = mul-le-mul_right r (omega arith) in let v = add-mul (bay d) 1 r in let o = one-mul r in omega arith)
        (cases_lt (bay c) (bay d)))) (cases_eq (bay c) (bay d));
  }

  -- each bay has r carriers
  pub full_bay : (j : ℕ) → j < w → count (λ c. eqb (bay c) j) n ≡ r
  unfolding number
  full_bay j h =
      let f : ℕ → Bool = λ s. leb (j * r) s && ltb s ((j + 1) * r) in
      let a = inj_le n number f numbered in
      let b = inj_ge n number f numbered in
      let z : (j + 1) * r ≤ w * r = mul-le-mul_right r (omega arith) in
      let e = add-mul j 1 r in let o = one-mul r in
      let c = range (j * r) ((j + 1) * r) n (omega arith) in
      let s = count_same (λ c. eqb (bay c) j) (λ c. f (number c)) n same in
      omega arith
    where
      same : (c : ℕ) → c < n → eqb (bay c) j ≡ (leb (j * r) (bay c * r + row c) && ltb (bay c * r + row c) ((j + 1) * r))
      same c l =
          let x = S.row_in c l in
          let e = add-mul j 1 r in let o = one-mul r in
          ⊎_elim
          (λ q. let p : bay c * r ≡ j * r = ap (λ (u : ℕ). u * r) q in
          eq-eqb (bay c) j q ∙ sym (and_from (leb (j * r) (bay c * r + row c)) (ltb (bay c * r + row c) ((j + 1) * r)) (le-leb (j * r) (bay c * r + row c) (omega arith)) (lt-ltb (bay c * r + row c) ((j + 1) * r) (omega arith))))
          (λ d. ne_eqb (bay c) j d ∙ sym (⊎_elim
          (λ q. let z : (bay c + 1) * r ≤ j * r = mul-le-mul_right r (omega arith) in let v = add-mul (bay c) 1 r in
          and_left (leb (j * r) (bay c * r + row c)) (ltb (bay c * r + row c) ((j + 1) * r)) (lt-leb (j * r) (bay c * r + row c) (omega arith)))
          (λ q. let z : (j + 1) * r ≤ bay c * r = mul-le-mul_right r (omega arith) in
          and_right (leb (j * r) (bay c * r + row c)) (ltb (bay c * r + row c) ((j + 1) * r)) (le-ltb (bay c * r + row c) ((j + 1) * r) (omega arith)))
          (cases_lt (bay c) j)))
          (cases_eq (bay c) j)

-- one number below w is x
one_hit : (x w : ℕ) (b : Bool) → x < w → total (λ g. cond (eqb x g && b) 1 0) w ≡ cond b 1 0
one_hit x zero b h = absurd (omega arith)
one_hit x (suc w) b h = ⊎_elim
    (λ e. let i : eqb x w ≡ true = eq-eqb x w e in
    let z = total_zero (λ g. cond (eqb x g && b) 1 0) w (λ g q. let y : eqb x g ≡ false = ne_eqb x g (omega arith) in rw y) in
    rw i (omega arith))
    (λ d. let i : eqb x w ≡ false = ne_eqb x w d in
    let z = one_hit x w b (omega arith) in rw i (omega arith)) (cases_eq x w)

-- a count is the sum of the counts by bay
pub by_bay : (bay : ℕ → ℕ) (f : ℕ → Bool) (n w : ℕ) → ((c : ℕ) → c < n → bay c < w) → total (λ g. count (λ c. eqb (bay c) g && f c) n) w ≡ count f n
by_bay bay f zero w h = total_zero (λ g. 0) w (λ k l. refl)
by_bay bay f (suc n) w h =
    let a = total_add (λ g. cond (eqb (bay n) g && f n) 1 0) (λ g. count (λ c. eqb (bay c) g && f c) n) w in
    let b = one_hit (bay n) w (f n) (h n (omega arith)) in
    let c = by_bay bay f n w (λ k l. h k (omega arith)) in
    omega arith
