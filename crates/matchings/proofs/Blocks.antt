-- A blocking set excludes a perfect matching; and a member hemmed in gives one.
use Rattle.std.proofs.Common.{◌≡◌, ℕ, zero, suc, ◌+◌, ◌-◌, ◌<◌, ◌≤◌, Bool, true, false, cond, not, eqb, ◌⊎◌, List, sym, refl, ap, ◌∙◌, subst, inl, inr, ⊎_elim, arith}
use Rattle.std.proofs.lemmas.Bool.{cases_Bool, cases_eq, both_ways, eq-eqb, eqb-true, cond-true, cond-false, not_from_false}
use Rattle.matchings.proofs.Counting.{count_le, count_all, count_both, inj_count, inj_le}
use Rattle.matchings.specs.Matchings.{◌!◌, count, some, allowed_by_some, Blocks, listed, Blocking, Perfect}
use Rattle.matchings.specs.Reaching.{loose}
use Rattle.matchings.specs.Placing.{Hemmed, Gathered}

-- who passes is some
pub some_at : (f : ℕ → Bool) (n k : ℕ) → k < n → f k ≡ true → some f n ≡ true
some_at f zero k h t = absurd (omega arith)
some_at f (suc n) k h t = go (cases_eq k n) (λ l. some_at f n k l t)
  where
    go : (k ≡ n) ⊎ (k ≡ n → ⊥) → (k < n → some f n ≡ true) → cond (f n) true (some f n) ≡ true
    go (inl e) ih = cond-true (f n) true (some f n) (subst (λ (x : ℕ). f x ≡ true) e t)
    go (inr d) ih = ⊎_elim (λ e. cond-true (f n) true (some f n) e) (λ e. cond-false (f n) true (some f n) e ∙ ih (omega arith)) (cases_Bool (f n))

pub some_place : (f : ℕ → Bool) (n : ℕ) → some f n ≡ true → (k : ℕ) × (k < n) × (f k ≡ true)
some_place f zero h = absurd (both_ways false refl h)
some_place f (suc n) h = go (cases_Bool (f n)) (λ s. some_place f n s)
  where
    go : (f n ≡ true) ⊎ (f n ≡ false) → (some f n ≡ true → (k : ℕ) × (k < n) × (f k ≡ true)) → (k : ℕ) × (k < suc n) × (f k ≡ true)
    go (inl e) ih = (n, omega arith, e)
    go (inr e) ih = let c = ih (sym (cond-false (f n) true (some f n) e) ∙ h) in (c.0, let z = c.1 in omega arith, c.2)

both : (a b : Bool) → cond a b false ≡ true → (a ≡ true) × (b ≡ true)
both true b h = (refl, h)
both false b h = absurd (both_ways false refl h)

pub allowed_by_member : (A : ℕ → ℕ → Bool) (n : ℕ) (set : ℕ → Bool) (l r : ℕ) → l < n → set l ≡ true → A l r ≡ true → allowed_by_some A n set r ≡ true
allowed_by_member A n set l r h s a = some_at (λ l. cond (set l) (A l r) false) n l h (cond-true (set l) (A l r) false s ∙ a)

-- who of the set allows r
allower : (A : ℕ → ℕ → Bool) (n : ℕ) (set : ℕ → Bool) (r : ℕ) → allowed_by_some A n set r ≡ true → (l : ℕ) × (l < n) × (set l ≡ true) × (A l r ≡ true)
allower A n set r h =
    let s = some_place (λ l. cond (set l) (A l r) false) n h in
    let b = both (set s.0) (A s.0 r) s.2 in
    (s.0, s.1, b.0, b.1)

-- a blocking set excludes a perfect matching
pub none_past : (A : ℕ → ℕ → Bool) (n : ℕ) (p : List ℕ) (set : ℕ → Bool) → Perfect A n p → Blocks A n set → ⊥
none_past A n p set h b =
    let a = count_le set (λ k. allowed_by_some A n set (p ! k)) n (λ k l t. allowed_by_member A n set k (p ! k) l t (h.allowed k l)) in
    let c = inj_le n (λ k. p ! k) (allowed_by_some A n set) (record { below = h.below; apart = h.apart }) in
    omega arith

-- who blocks where members not settled allow everything blocks
pub blocking_loose : (A : ℕ → ℕ → Bool) (n w : ℕ) (members : List ℕ) (c : ℕ) → ((l r : ℕ) → A l r ≡ true → loose A w l r ≡ true)
    → Blocking (loose A w) n members c → Blocking A n members c
blocking_loose A n w members c more b = record {
  fits = b.fits;
  below = b.below;
  apart = b.apart;
  blocks =
      let s = listed members c in
      let f = b.blocks in
      let a = count_le (allowed_by_some A n s) (allowed_by_some (loose A w) n s) n
      (λ r h t. let x = allower A n s r t in allowed_by_member (loose A w) n s x.0 r x.1 x.2 (more x.0 r x.3)) in
      omega arith;
}

-- c different members below n: the set that they form has at least c
listed_count : (n : ℕ) (members : List ℕ) (c : ℕ) → ((k : ℕ) → k < c → members ! k < n) → ((j k : ℕ) → j < c → k < c → members ! j ≡ members ! k → j ≡ k)
    → c ≤ count (listed members c) n
listed_count n members c below apart =
    let a = inj_count (λ k. members ! k) c n (listed members c) below apart in
    let b = count_all (λ k. listed members c (members ! k)) c
    (λ k h. some_at (λ j. eqb (members ! j) (members ! k)) c k h (eq-eqb (members ! k) (members ! k) refl)) in
    omega arith

module _ (A : ℕ → ℕ → Bool) (n left : ℕ) (mate members after : List ℕ) (reached : ℕ)
    (H : Hemmed A n left mate members reached) (G : Gathered n reached members after) where
  -- where the member at j of those gathered stood
  source : (j : ℕ) → j < n - reached + 1 → (s : ℕ) × (after ! j ≡ members ! s) × (s < n) × (((j ≡ 0) × (s ≡ 0)) ⊎ ((reached ≤ s) × (s + 1 ≡ j + reached)))
  source j h = let f = H.fits in let p = H.some in ⊎_elim
      (λ e. (0, ap (λ (x : ℕ). after ! x) e ∙ G.first, omega arith, inl (e, refl)))
      (λ d. let q : j ≡ j - 1 + 1 = omega arith in
      (j - 1 + reached, ap (λ (x : ℕ). after ! x) q ∙ G.rest (j - 1) (omega arith), omega arith, inr (omega arith, omega arith))) (cases_eq j 0)

  unallowed : (k : ℕ) → k < reached → allowed_by_some A n (listed after (n - reached + 1)) (mate ! (members ! k)) ≡ false
  unallowed k h = ⊎_elim
      (λ t. let x = allower A n (listed after (n - reached + 1)) (mate ! (members ! k)) t in
      let y = some_place (λ j. eqb (after ! j) x.0) (n - reached + 1) x.2 in
      let s = source y.0 y.1 in
      let e : x.0 ≡ members ! s.0 = sym (eqb-true (after ! y.0) x.0 y.2) ∙ s.1 in
      let a : A (members ! s.0) (mate ! (members ! k)) ≡ true = subst (λ (z : ℕ). A z (mate ! (members ! k)) ≡ true) e x.3 in
      absurd (⊎_elim
      (λ z. both_ways (A left (mate ! (members ! k))) (H.here k h) (subst (λ (z : ℕ). A z (mate ! (members ! k)) ≡ true) (ap (λ (z : ℕ). members ! z) z.1 ∙ H.first) a))
      (λ z. both_ways (A (members ! s.0) (mate ! (members ! k))) (H.there s.0 k z.0 s.2 h) a) s.3))
      (λ t. t) (cases_Bool (allowed_by_some A n (listed after (n - reached + 1)) (mate ! (members ! k))))

  pub hemmed_blocks : Blocking A n after (n - reached + 1)
  hemmed_blocks =
      let below : (j : ℕ) → j < n - reached + 1 → after ! j < n = λ j h. let s = source j h in let b = H.below s.0 s.2 in let e = s.1 in omega arith in
      let apart : (i j : ℕ) → i < n - reached + 1 → j < n - reached + 1 → after ! i ≡ after ! j → i ≡ j =
      λ i j hi hj e. let s = source i hi in let t = source j hj in
      let z : s.0 ≡ t.0 = H.apart s.0 t.0 s.2 t.2 (sym s.1 ∙ e ∙ t.1) in
      let p = H.some in let x = s.3 in let y = t.3 in omega arith in
      record {
        fits = let f = H.fits in let p = H.some in omega arith;
        below = below;
        apart = apart;
        blocks =
            let S : ℕ → Bool = allowed_by_some A n (listed after (n - reached + 1)) in
            let a = inj_count (λ k. mate ! (members ! k)) reached n (λ r. not (S r))
            (λ k h. H.inj.below (members ! k) (H.below k (let f = H.fits in omega arith)))
            (λ i j hi hj e. let f = H.fits in H.apart i j (omega arith) (omega arith)
            (H.inj.apart (members ! i) (members ! j) (H.below i (omega arith)) (H.below j (omega arith)) e)) in
            let b = count_all (λ k. not (S (mate ! (members ! k)))) reached (λ k h. not_from_false (S (mate ! (members ! k))) (unallowed k h)) in
            let d = count_both S n in
            let l = listed_count n after (n - reached + 1) below apart in
            let f = H.fits in
            omega arith;
      }
