-- Exchanging two members, lining a block up, giving members a block, and gathering those that block.
use Rattle.std.proofs.Common.{◌≡◌, ℕ, ◌+◌, ◌<◌, ◌≤◌, ◌≢◌, ◌⊎◌, List, length, set, sym, refl, ap, ◌∙◌, subst, inl, inr, ⊎_elim, arith, get_or-set_other, get_or-set_same}
use Rattle.std.proofs.lemmas.Bool.{cases_eq}
use Rattle.matchings.specs.Matchings.{◌!◌}
use Rattle.matchings.specs.Reaching.{Lined, Movable, Same}
use Rattle.matchings.specs.Placing.{Split}

pub same_two : (m : ℕ) (a b c : List ℕ) → Same m a b → Same m b c → Same m a c
same_two m a b c S T = record {
  there = λ k h. let x = S.there k h in let y = T.there x.0 x.1 in (y.0, y.1, y.2 ∙ x.2);
  back = λ k h. let x = T.back k h in let y = S.back x.0 x.1 in (y.0, y.1, y.2 ∙ x.2);
}

-- two places of the members are exchanged
module _ (m : ℕ) (members Q : List ℕ) (a b : ℕ) (la : a < m) (lb : b < m)
    (sa : Q ! a ≡ members ! b) (sb : Q ! b ≡ members ! a) (so : (j : ℕ) → j ≢ a → j ≢ b → Q ! j ≡ members ! j) where
  src : (i : ℕ) → i < m → (s : ℕ) × (Q ! i ≡ members ! s) × (s < m) × (((i ≡ a) × (s ≡ b)) ⊎ (((i ≡ b) × (s ≡ a)) ⊎ ((s ≡ i) × (i ≢ a) × (i ≢ b))))
  src i h = ⊎_elim
      (λ e. (b, ap (λ (x : ℕ). Q ! x) e ∙ sa, lb, inl (e, refl)))
      (λ d. ⊎_elim
      (λ e. (a, ap (λ (x : ℕ). Q ! x) e ∙ sb, la, inr (inl (e, refl))))
      (λ f. (i, so i d f, h, inr (inr (refl, d, f)))) (cases_eq i b)) (cases_eq i a)

  pub exchanged : (n fixed : ℕ) → Movable n fixed m members → Movable n fixed m Q
  exchanged n fixed M = record {
    fits = M.fits;
    below = λ i h. let s = src i h in let x = M.below s.0 s.2 in let e = s.1 in omega arith;
    above = λ i h. let s = src i h in let x = M.above s.0 s.2 in let e = s.1 in omega arith;
    apart = λ i j hi hj e.
        let s = src i hi in let t = src j hj in
        let z : s.0 ≡ t.0 = M.apart s.0 t.0 s.2 t.2 (sym s.1 ∙ e ∙ t.1) in
        let x = s.3 in let y = t.3 in omega arith;
  }

  pub same_exchanged : Same m members Q
  same_exchanged = record {
    there = λ k h. ⊎_elim (λ e. (b, lb, sb ∙ ap (λ (x : ℕ). members ! x) (sym e)))
        (λ d. ⊎_elim (λ e. (a, la, sa ∙ ap (λ (x : ℕ). members ! x) (sym e))) (λ f. (k, h, so k d f)) (cases_eq k b)) (cases_eq k a);
    back = λ k h. let s = src k h in (s.0, s.2, sym s.1);
  }

-- one more for the line
module _ (n fixed : ℕ) (block : List ℕ) (left l m : ℕ) (members : List ℕ) (ll : l < n) (fl : fixed ≤ l) (L : Lined n fixed block left l m members) where
  pub line_skip : (block ! l ≡ block ! left → l ≡ left) → Lined n fixed block left (l + 1) m members
  line_skip h = let lo = L.low in record {
    some = L.some;
    first = L.first;
    low = omega arith;
    fits = λ q. ⊎_elim (λ e. omega arith) (λ d. let f = L.fits (omega arith) in omega arith) (cases_eq l left);
    later = λ k p h. let x = L.later k p h in (let y = x.0 in omega arith, x.1);
    below = L.below;
    above = L.above;
    alike = L.alike;
    apart = L.apart;
    covers = λ i fi hi e. ⊎_elim
        (λ q. (0, L.some, L.first ∙ sym (h (subst (λ (x : ℕ). block ! x ≡ block ! left) q e)) ∙ sym q))
        (λ d. L.covers i fi (omega arith) e) (cases_eq i l);
  }

  module _ (Z : List ℕ) (is : Z ≡ set members m l) (lq : m < length members) (d : l ≢ left) (e : block ! l ≡ block ! left) where
    zk : (k : ℕ) → k < m → Z ! k ≡ members ! k
    zk k h = ap (λ xs. xs ! k) is ∙ get_or-set_other members m k l 0 (omega arith)

    zt : Z ! m ≡ l
    zt = ap (λ xs. xs ! m) is ∙ get_or-set_same members m l 0 lq

    grown : (X : ℕ → Type 0) → ((k : ℕ) → k < m → X k) → X m → (k : ℕ) → k < m + 1 → X k
    grown X a b k h = ⊎_elim (λ e. subst X (sym e) b) (λ d. a k (omega arith)) (cases_eq k m)

    fresh : (k : ℕ) → k < m → members ! k ≢ l
    fresh k h q = ⊎_elim (λ z. d (sym q ∙ ap (λ (x : ℕ). members ! x) z ∙ L.first)) (λ z. let x = L.later k (omega arith) h in let y = x.0 in omega arith) (cases_eq k 0)

    pub line_more : Lined n fixed block left (l + 1) (m + 1) Z
    line_more = let lo = L.low in let so = L.some in record {
      some = omega arith;
      first = zk 0 L.some ∙ L.first;
      low = omega arith;
      fits = λ q. let f = L.fits (omega arith) in omega arith;
      later = λ k p h. ⊎_elim
          (λ q. (let z : Z ! k ≡ l = ap (λ (x : ℕ). Z ! x) q ∙ zt in omega arith, λ y. d (sym (ap (λ (x : ℕ). Z ! x) q ∙ zt) ∙ y)))
          (λ f. let x = L.later k p (omega arith) in let z = zk k (omega arith) in (let y = x.0 in omega arith, λ y. x.1 (sym z ∙ y))) (cases_eq k m);
      below = grown (λ k. Z ! k < n) (λ k h. rw (zk k h) (L.below k h)) (rw zt ll);
      above = grown (λ k. fixed ≤ Z ! k) (λ k h. rw (zk k h) (L.above k h)) (rw zt fl);
      alike = grown (λ k. block ! (Z ! k) ≡ block ! left) (λ k h. rw (zk k h) (L.alike k h)) (rw zt e);
      apart = λ j k hj hk. grown (λ j. Z ! j ≡ Z ! k → j ≡ k)
          (λ j hj. grown (λ k. Z ! j ≡ Z ! k → j ≡ k) (λ k hk q. L.apart j k hj hk (sym (zk j hj) ∙ q ∙ zk k hk))
          (λ q. absurd (fresh j hj (sym (zk j hj) ∙ q ∙ zt))) k hk)
          (grown (λ k. Z ! m ≡ Z ! k → m ≡ k) (λ k hk q. absurd (fresh k hk (sym (zk k hk) ∙ sym q ∙ zt))) (λ q. refl) k hk) j hj;
      covers = λ i fi hi q. ⊎_elim (λ z. (m, omega arith, zt ∙ sym z))
          (λ f. let c = L.covers i fi (omega arith) q in (c.0, let y = c.1 in omega arith, zk c.0 c.1 ∙ c.2)) (cases_eq i l);
    }

pub split_more : (members : List ℕ) (k label : ℕ) (old new : List ℕ) (at : ℕ) → at ≡ members ! k → at < length new → Split members k label old new → Split members (k + 1) label old (set new at label)
split_more members k label old new at is h S i = ⊎_elim
    (λ e. inl ((k, omega arith, sym (e ∙ is)), ap (λ (x : ℕ). set new at label ! x) e ∙ get_or-set_same new at label 0 h))
    (λ d. ⊎_elim
    (λ s. let z = s.0.1 in inl ((s.0.0, omega arith, s.0.2), get_or-set_other new at i label 0 d ∙ s.1))
    (λ s. inr ((λ a. let z = a.1 in ⊎_elim (λ q. d (sym a.2 ∙ ap (λ (x : ℕ). members ! x) q ∙ sym is)) (λ q. s.0 (a.0, omega arith, a.2)) (cases_eq a.0 k)), get_or-set_other new at i label 0 d ∙ s.1))
    (S i)) (cases_eq i at)
