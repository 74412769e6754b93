-- Regular counts never block: d from each of the set have to go to fewer, each of which takes d.
use Rattle.std.proofs.Common.{◌≡◌, ℕ, zero, suc, ◌+◌, ◌*◌, ◌<◌, ◌≤◌, Bool, true, false, cond, sym, refl, ap, ◌∙◌, ⊎_elim, mul-le-mul_right, add-mul, one-mul, zero-mul, arith}
use Rattle.std.proofs.lemmas.Bool.{cases_Bool, cases_lt, both_ways, lt-ltb}
use Rattle.matchings.proofs.Blocks.{allowed_by_member}
use Rattle.matchings.specs.Matchings.{count, allowed_by_some, Blocks}
use Rattle.matchings.specs.Regular.{total, Regular, counted, RegularCounts}

total_le : (f g : ℕ → ℕ) (n : ℕ) → ((k : ℕ) → k < n → f k ≤ g k) → total f n ≤ total g n
total_le f g zero h = omega arith
total_le f g (suc n) h = let a = h n (omega arith) in let b = total_le f g n (λ k l. h k (omega arith)) in omega arith

total_zero : (f : ℕ → ℕ) (n : ℕ) → ((k : ℕ) → k < n → f k ≡ 0) → total f n ≡ 0
total_zero f zero h = refl
total_zero f (suc n) h = let a = h n (omega arith) in let b = total_zero f n (λ k l. h k (omega arith)) in omega arith

total_add : (f g : ℕ → ℕ) (n : ℕ) → total (λ k. f k + g k) n ≡ total f n + total g n
total_add f g zero = refl
total_add f g (suc n) = let a = total_add f g n in omega arith

total_swap : (w : ℕ → ℕ → ℕ) (a b : ℕ) → total (λ l. total (λ r. w l r) b) a ≡ total (λ r. total (λ l. w l r) a) b
total_swap w zero b = sym (total_zero (λ r. 0) b (λ k l. refl))
total_swap w (suc a) b = ap (λ x. total (λ r. w a r) b + x) (total_swap w a b) ∙ sym (total_add (λ r. w a r) (λ r. total (λ l. w l r) a) b)

total_count : (S : ℕ → Bool) (d n : ℕ) → total (λ l. cond (S l) d 0) n ≡ count S n * d
total_count S d zero = sym (zero-mul d)
total_count S d (suc n) = ap (λ x. cond (S n) d 0 + x) (total_count S d n) ∙ step (S n)
  where
    step : (b : Bool) → cond b d 0 + count S n * d ≡ (cond b 1 0 + count S n) * d
    step true = sym (add-mul 1 (count S n) d ∙ ap (λ x. x + count S n * d) (one-mul d))
    step false = sym (add-mul 0 (count S n) d ∙ ap (λ x. x + count S n * d) (zero-mul d))

total_cond : (b : Bool) (f : ℕ → ℕ) (n : ℕ) → total (λ r. cond b (f r) 0) n ≡ cond b (total f n) 0
total_cond true f n = refl
total_cond false f n = total_zero (λ r. 0) n (λ k l. refl)

cond_le : (b : Bool) (x : ℕ) → cond b x 0 ≤ x
cond_le true x = omega arith
cond_le false x = omega arith

cond_zero : (b : Bool) (x : ℕ) → (b ≡ true → x ≡ 0) → cond b x 0 ≡ 0
cond_zero true x h = h refl
cond_zero false x h = refl

module _ (c : ℕ → ℕ → ℕ) (n d : ℕ) (G : Regular c n d) (lefts rights : ℕ → Bool)
    (only : (l r : ℕ) → l < n → r < n → lefts l ≡ true → counted c l r ≡ true → rights r ≡ true) where
  weight : ℕ → ℕ → ℕ
  weight l r = cond (lefts l) (c l r) 0

  row : (l : ℕ) → l < n → cond (lefts l) d 0 ≡ total (λ r. weight l r) n
  unfolding weight
  row l h = sym (total_cond (lefts l) (λ r. c l r) n ∙ ap (λ x. cond (lefts l) x 0) (G.rows l h))

  column : (r : ℕ) → r < n → total (λ l. weight l r) n ≤ cond (rights r) d 0
  unfolding weight
  column r h = ⊎_elim
      (λ t. let a = total_le (λ l. cond (lefts l) (c l r) 0) (λ l. c l r) n (λ l q. cond_le (lefts l) (c l r)) in let b = G.columns r h in rw t (omega arith))
      (λ f. let a = total_zero (λ l. cond (lefts l) (c l r) 0) n
      (λ l q. cond_zero (lefts l) (c l r) (λ s. ⊎_elim
      (λ p. absurd (both_ways (rights r) f (only l r q h s (lt-ltb 0 (c l r) p))))
      (λ p. omega arith) (cases_lt 0 (c l r)))) in
      omega arith)
      (cases_Bool (rights r))

  bound : count (lefts) n * d ≤ count (rights) n * d
  bound =
      let a = total_count (lefts) d n in
      let b = total_count (rights) d n in
      let x = total_le (λ l. cond (lefts l) d 0) (λ l. total (λ r. weight l r) n) n (λ l h. let e = row l h in omega arith) in
      let y = total_swap weight n n in
      let z = total_le (λ r. total (λ l. weight l r) n) (λ r. cond (rights r) d 0) n column in
      omega arith

  never : count rights n < count lefts n → ⊥
  never f =
      let a = bound in
      let s = G.some in
      let m : (count rights n + 1) * d ≤ count lefts n * d = mul-le-mul_right d (omega arith) in
      let e = add-mul (count rights n) 1 d in
      let o = one-mul d in
      omega arith

-- in a relation of regular counts no set blocks
pub never_blocks : (A : ℕ → ℕ → Bool) (n : ℕ) (set : ℕ → Bool) → RegularCounts A n → Blocks A n set → ⊥
never_blocks A n set C b = never C.table n C.sum C.regular set (allowed_by_some A n set)
    (λ l r hl hr s t. allowed_by_member A n set l r hl s (C.is l r hl hr ∙ t)) b
