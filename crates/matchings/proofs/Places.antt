-- What the search for one left member gives: its least right member, a block by itself, or that it is hemmed in.
use Rattle.std.proofs.Common.{◌≡◌, ℕ, ◌<◌, ◌≤◌, Bool, true, false, ltb, List, length, Some, None, sym, refl, ap, ◌∙◌, subst, inl, inr, ⊎_elim, arith}
use Rattle.std.proofs.lemmas.Bool.{cases_lt, cases_Bool, both_ways, ltb-true, lt-ltb}
use Rattle.std.proofs.lemmas.List.{ext_get_or}
use Rattle.matchings.proofs.Counting.{same_set, holder, count_all, inj_count}
use Rattle.matchings.specs.Matchings.{◌!◌}
use Rattle.matchings.specs.Reaching.{Clear, Among, Inj, Lined, Reached, Exhausted, Ended, Chosen}
use Rattle.matchings.specs.Placing.{Turned, Others, Like, Placed, Refused, Confined, Sealed}

-- marks that are as they were past n, and clear below n as they were
pub restored : (n : ℕ) (a b : List ℕ) → length a ≡ length b → Clear a n → Clear b n → ((k : ℕ) → n ≤ k → a ! k ≡ b ! k) → a ≡ b
restored n a b e ca cb h = ext_get_or 0 a b e (λ k l. ⊎_elim (λ s. ca k s ∙ sym (cb k s)) (λ s. h k s) (cases_lt k n))

-- each l below n stands at a place below m: n is at most m
module _ (n m : ℕ) (line : List ℕ) (spot : (l : ℕ) → l < n → Among line m l) where
  place : ℕ → ℕ
  place l = ⊎_elim (λ h. (spot l h).0) (λ h. 0) (cases_lt l n)

  at_place : (l : ℕ) → l < n → (place l < m) × (line ! place l ≡ l)
  unfolding place
  at_place l h = elim (cases_lt l n) as (λ s. (⊎_elim (λ h. (spot l h).0) (λ h. 0) s < m) × (line ! ⊎_elim (λ h. (spot l h).0) (λ h. 0) s ≡ l)) [
    | inl q ↦ ((spot l q).1, (spot l q).2)
    | inr q ↦ absurd (omega arith)
  ]

  room_for : n ≤ m
  room_for =
      let a = inj_count place n m (λ k. true) (λ l h. (at_place l h).0)
      (λ i j hi hj e. sym (at_place i hi).1 ∙ ap (λ (x : ℕ). line ! x) e ∙ (at_place j hj).1) in
      let b = count_all (λ k. true) n (λ k h. refl) in
      let c = count_all (λ k. true) m (λ k h. refl) in
      omega arith

module _ (A : ℕ → ℕ → Bool) (n fixed left : ℕ) (block mate line : List ℕ) (m : ℕ)
    (im : Inj n (λ k. mate ! k)) (ll : left < n) (fl : fixed ≤ left) (con : Confined A n fixed block mate) (L : Lined n fixed block left n m line) where
  -- what `left` has in another matching is had by one of the line
  had : (p : ℕ → ℕ) → Like A n fixed mate p → (k : ℕ) × (k < m) × (mate ! (line ! k) ≡ p left)
  had p P =
      let h = holder n (λ k. mate ! k) (p left) im (P.inj.below left ll) in
      let f : fixed ≤ h.0 = ⊎_elim (λ s. let z = P.inj.apart h.0 left h.1 ll (P.kept h.0 s ∙ h.2) in absurd (omega arith)) (λ s. s) (cases_lt h.0 fixed) in
      let c = L.covers h.0 f h.1 (sym (con p P left h.0 ll h.1 (sym h.2))) in
      (c.0, c.1, ap (λ (x : ℕ). mate ! x) c.2 ∙ h.2)

  -- where all may move, the line has them all
  whole : ((l : ℕ) → l < n → (fixed ≤ l) × (block ! l ≡ block ! left)) → n ≤ m
  whole all =
      let spot : (l : ℕ) → l < n → Among line m l = λ l h. let o = all l h in L.covers l o.0 h o.1 in
      room_for n m line spot

  pub stuck : Chosen (A left) mate line m None → Refused A n fixed left block mate line m
  stuck ch = record {
    none = λ p P. let h = had p P in both_ways (A left (p left)) (subst (λ (x : ℕ). A left x ≡ false) h.2 (ch h.0 h.1)) (P.allowed left ll);
    hemmed = λ all. let w = whole all in let f = L.fits ll in record {
      inj = im;
      some = L.some;
      fits = omega arith;
      first = L.first;
      below = λ k h. L.below k (omega arith);
      apart = λ j k hj hk. L.apart j k (omega arith) (omega arith);
      here = ch;
      there = λ j k hm hn. absurd (omega arith);
    };
  }

  module _ (members parents marks : List ℕ) (count : ℕ) (R : Reached A n fixed left mate members parents marks count)
      (X : Exhausted A n fixed m mate line members marks count) where
    ticked : ℕ → Bool
    ticked r = ltb 0 (marks ! r)

    from : (r : ℕ) → r < n → ticked r ≡ true → (k : ℕ) × (k < count) × (mate ! (members ! k) ≡ r)
    unfolding ticked
    from r h t = R.from r h (ltb-true 0 (marks ! r) t)

    at : (k : ℕ) → k < count → ticked (mate ! (members ! k)) ≡ true
    unfolding ticked
    at k h = lt-ltb 0 (marks ! (mate ! (members ! k))) (R.ticked k h)

    at_left : ticked (mate ! left) ≡ true
    at_left = subst (λ (x : ℕ). ticked (mate ! x) ≡ true) R.first (at 0 R.some)

    -- one of the block that may move and allows a ticked one has a ticked one
    closed : (l r : ℕ) → l < n → r < n → fixed ≤ l → block ! l ≡ block ! left → ticked r ≡ true → A l r ≡ true → ticked (mate ! l) ≡ true
    unfolding ticked
    closed l r hl hr f e t a =
        let k = from r hr t in
        let c = L.covers l f hl e in
        let j = X.same.there c.0 c.1 in
        let q = j.2 ∙ c.2 in
        lt-ltb 0 (marks ! (mate ! l)) (subst (λ (x : ℕ). 0 < marks ! (mate ! x)) q
        (X.closed k.0 j.0 k.1 j.1 (subst (λ (x : ℕ). A x (mate ! (members ! k.0)) ≡ true) (sym q) (subst (λ (x : ℕ). A l x ≡ true) (sym k.2) a))))

    alike : (k : ℕ) → k < count → block ! (members ! k) ≡ block ! left
    alike k h = let f = X.fits in let b = X.same.back k (omega arith) in ap (λ (x : ℕ). block ! x) (sym b.2) ∙ L.alike b.0 b.1

    module _ (p : ℕ → ℕ) (P : Like A n fixed mate p) where
      keeps : (i : ℕ) → i < n → ticked (p i) ≡ true → ticked (mate ! i) ≡ true
      keeps i h t = ⊎_elim
          (λ s. subst (λ (x : ℕ). ticked x ≡ true) (P.kept i s) t)
          (λ s. let k = from (p i) (P.inj.below i h) t in
          closed i (p i) h (P.inj.below i h) s (con p P i (members ! k.0) h (R.below k.0 k.1) (sym k.2) ∙ alike k.0 k.1) t (P.allowed i h))
          (cases_lt i fixed)

      gives : (i : ℕ) → i < n → ticked (mate ! i) ≡ true → ticked (p i) ≡ true
      gives = same_set n ticked (λ k. mate ! k) p im P.inj keeps

      among : (j : ℕ) → j < n → ticked (mate ! j) ≡ true → Among members count j
      among j h t = let k = from (mate ! j) (im.below j h) t in (k.0, k.1, im.apart (members ! k.0) j (R.below k.0 k.1) h k.2)

      here : (j : ℕ) → Among members count j → ticked (mate ! j) ≡ true
      here j a = subst (λ (x : ℕ). ticked (mate ! x) ≡ true) a.2 (at a.0 a.1)

      stays : (i j : ℕ) → i < n → j < n → p i ≡ mate ! j → Among members count i → Among members count j
      stays i j hi hj e a = among j hj (subst (λ (x : ℕ). ticked x ≡ true) e (gives i hi (here i a)))

      comes : (i j : ℕ) → i < n → j < n → p i ≡ mate ! j → Among members count j → Among members count i
      comes i j hi hj e a = among i hi (keeps i hi (subst (λ (x : ℕ). ticked x ≡ true) (sym e) (here j a)))

      reaches : (k : ℕ) × (k < count) × (mate ! (members ! k) ≡ p left)
      reaches = from (p left) (P.inj.below left ll) (gives left ll at_left)

    sealed : m ≤ n → Sealed A n fixed mate members count
    sealed h = let f = X.fits in record { stays = stays; back = comes; below = R.below; fits = omega arith }

    refused_closed : Chosen (A left) mate members count None → Refused A n fixed left block mate members count
    refused_closed ch = record {
      none = λ p P. let f = reaches p P in
          both_ways (A left (p left)) (subst (λ (x : ℕ). A left x ≡ false) f.2 (ch f.0 f.1)) (P.allowed left ll);
      hemmed = λ all. let w = whole all in let f = L.fits ll in let u = X.fits in record {
        inj = im;
        some = R.some;
        fits = omega arith;
        first = R.first;
        below = λ k h. X.movable.below k (omega arith);
        apart = λ j k hj hk. X.movable.apart j k (omega arith) (omega arith);
        here = ch;
        there = λ j k hc hn hk. ⊎_elim
            (λ a. let t = X.closed k j hk (omega arith) a in
            let b = X.movable.below j (omega arith) in
            let g = R.from (mate ! (members ! j)) (im.below (members ! j) b) t in
            let e = im.apart (members ! g.0) (members ! j) (R.below g.0 g.1) b g.2 in
            let z = g.1 in
            let y = X.movable.apart g.0 j (omega arith) (omega arith) e in
            absurd (omega arith))
            (λ a. a) (cases_Bool (A (members ! j) (mate ! (members ! k))));
      };
    }

  module _ (best goal : ℕ) (top : Chosen (A left) mate line m (Some best)) (is : goal ≡ line ! best) (members parents marks : List ℕ) (count : ℕ)
      (R : Reached A n fixed left mate members parents marks count) (ended : Ended A n fixed m goal mate line members marks count) where
    E : Ended A n fixed m (line ! best) mate line members marks count
    E = subst (λ (x : ℕ). Ended A n fixed m x mate line members marks count) is ended

    there : 0 < marks ! (mate ! (line ! best)) → (k : ℕ) × (k < count) × (mate ! (members ! k) ≡ mate ! (line ! best))
    there at = R.from (mate ! (line ! best)) (im.below (line ! best) (L.below best top.0)) at

    pub placed : (new : List ℕ) (start : ℕ) → Chosen (A left) mate members count (Some start) → Others A n left mate → Turned n left members parents count start mate new → Placed A n fixed left mate new
    placed new start ch o t =
        let T = t A fixed marks R o ch.1 in
        record {
          inj = T.inj;
          allowed = T.allowed;
          kept = T.kept;
          least = λ p P. let c = T.takes in ⊎_elim
              (λ E. let f = reaches members parents marks count R E p P in
              let a = ch.2 f.0 f.1 (subst (λ (x : ℕ). A left x ≡ true) (sym f.2) (P.allowed left ll)) in
              let b = f.2 in omega arith)
              (λ at. let f = there at in
              let a = ch.2 f.0 f.1 (subst (λ (x : ℕ). A left x ≡ true) (sym f.2) top.1) in
              let h = had p P in
              let b = top.2 h.0 h.1 (subst (λ (x : ℕ). A left x ≡ true) (sym h.2) (P.allowed left ll)) in
              let d = f.2 in let e = h.2 in omega arith) E;
        }

    pub refused : Chosen (A left) mate members count None → Refused A n fixed left block mate members count
    refused ch = ⊎_elim
        (λ E. refused_closed members parents marks count R E ch)
        (λ at. let f = there at in absurd (both_ways (A left (mate ! (line ! best))) (subst (λ (x : ℕ). A left x ≡ false) f.2 (ch f.0 f.1)) top.1)) E

    pub sealed_all : marks ! (mate ! goal) ≡ 0 → Sealed A n fixed mate members count
    sealed_all z = let h = L.fits ll in let q = ap (λ (x : ℕ). marks ! (mate ! x)) is in ⊎_elim
        (λ E. sealed members parents marks count R E (omega arith))
        (λ at. absurd (omega arith)) E

pub sealed_none : (A : ℕ → ℕ → Bool) (n fixed : ℕ) (mate members : List ℕ) → Sealed A n fixed mate members 0
sealed_none A n fixed mate members = record {
  stays = λ p P i j hi hj e a. let z = a.1 in absurd (omega arith);
  back = λ p P i j hi hj e a. let z = a.1 in absurd (omega arith);
  below = λ k h. absurd (omega arith);
  fits = omega arith;
}
