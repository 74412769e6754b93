-- The rotation: each on the way takes the right member of its parent.
use Rattle.std.proofs.Common.{◌≡◌, ℕ, ◌<◌, ◌≤◌, Bool, true, ◌≢◌, ◌⊎◌, List, sym, refl, ap, ◌∙◌, subst, inl, inr, ⊎_elim, arith}
use Rattle.std.proofs.lemmas.Bool.{cases_eq}
use Rattle.matchings.specs.Matchings.{◌!◌}
use Rattle.matchings.specs.Reaching.{Inj, Reached}
use Rattle.matchings.specs.Placing.{Rotated, Others}

-- midway: `holder` has what `left` had, and is to take what the member at k had
pub record Mid (A : ℕ → ℕ → Bool) (n fixed left : ℕ) (old members : List ℕ) (start : ℕ) (mate : List ℕ) (holder k : ℕ) : Type 0 where
  pub inj : Inj n (λ i. mate ! i)
  pub inside : holder < n
  pub above : fixed ≤ holder
  pub has : mate ! holder ≡ old ! left
  pub allowed : (l : ℕ) → l < n → l ≢ holder → A l (mate ! l) ≡ true
  pub may : A holder (old ! (members ! k)) ≡ true
  pub ahead : (j : ℕ) → 0 < j → j ≤ k → mate ! (members ! j) ≡ old ! (members ! j)
  pub apart : (j : ℕ) → 0 < j → j ≤ k → holder ≢ members ! j
  pub kept : (l : ℕ) → l < fixed → mate ! l ≡ old ! l
  pub takes : ((mate ! left ≡ old ! (members ! start)) × (holder ≢ left)) ⊎ ((holder ≡ left) × (k ≡ start))

module _ (A : ℕ → ℕ → Bool) (n fixed left : ℕ) (old members parents marks : List ℕ) (start count : ℕ)
    (R : Reached A n fixed left old members parents marks count) (ls : start < count) where
  pub mid_start : Inj n (λ i. old ! i) → left < n → Others A n left old → A left (old ! (members ! start)) ≡ true → Mid A n fixed left old members start old left start
  mid_start im ll others can = record {
    inj = im;
    inside = ll;
    above = rw R.first at (R.above 0 R.some);
    has = refl;
    allowed = others;
    may = can;
    ahead = λ j pos h. refl;
    apart = λ j pos h e. let z = R.apart 0 j R.some (omega arith) (R.first ∙ e) in omega arith;
    kept = λ l h. refl;
    takes = inr (refl, refl);
  }

  module _ (mate : List ℕ) (holder k : ℕ) (M : Mid A n fixed left old members start mate holder k) where
    pub mid_end : k ≡ 0 → Rotated A n fixed left old mate (old ! (members ! start))
    mid_end e = record {
      inj = M.inj;
      allowed = λ l h. ⊎_elim
          (λ q. subst (λ (x : ℕ). A x (mate ! x) ≡ true) (sym q)
          (subst (λ (x : ℕ). A holder x ≡ true) (ap (λ (x : ℕ). old ! (members ! x)) e ∙ ap (λ (x : ℕ). old ! x) R.first ∙ sym M.has) M.may))
          (λ d. M.allowed l h d) (cases_eq l holder);
      kept = M.kept;
      takes = ⊎_elim (λ t. t.0)
          (λ t. ap (λ (x : ℕ). mate ! x) (sym t.0) ∙ M.has ∙ ap (λ (x : ℕ). old ! x) (sym R.first) ∙ ap (λ (x : ℕ). old ! (members ! x)) (sym e ∙ t.1)) M.takes;
    }

    module _ (pos : 0 < k) (lk : k < count) (new : List ℕ)
        (sa : new ! holder ≡ mate ! (members ! k)) (sb : new ! (members ! k) ≡ mate ! holder)
        (so : (j : ℕ) → j ≢ holder → j ≢ members ! k → new ! j ≡ mate ! j) where
      src : (i : ℕ) → i < n → (s : ℕ) × (new ! i ≡ mate ! s) × (s < n) × (((i ≡ holder) × (s ≡ members ! k)) ⊎ (((i ≡ members ! k) × (s ≡ holder)) ⊎ ((s ≡ i) × (i ≢ holder) × (i ≢ members ! k))))
      src i h = ⊎_elim
          (λ e. (members ! k, ap (λ (x : ℕ). new ! x) e ∙ sa, R.below k lk, inl (e, refl)))
          (λ d. ⊎_elim
          (λ e. (holder, ap (λ (x : ℕ). new ! x) e ∙ sb, M.inside, inr (inl (e, refl))))
          (λ f. (i, so i d f, h, inr (inr (refl, d, f)))) (cases_eq i (members ! k))) (cases_eq i holder)

      not_left : members ! k ≢ left
      not_left e = let z = R.apart k 0 lk R.some (e ∙ sym R.first) in omega arith

      step : Mid A n fixed left old members start new (members ! k) (parents ! k)
      step =
          let rank = R.rank k pos lk in
          record {
            inj = record {
              below = λ i h. let s = src i h in let b = M.inj.below s.0 s.2 in let e = s.1 in omega arith;
              apart = λ i j hi hj e.
                  let s = src i hi in let t = src j hj in
                  let z : s.0 ≡ t.0 = M.inj.apart s.0 t.0 s.2 t.2 (sym s.1 ∙ e ∙ t.1) in
                  let a = s.3 in let b = t.3 in omega arith;
            };
            inside = R.below k lk;
            above = R.above k lk;
            has = sb ∙ M.has;
            allowed = λ l h d. ⊎_elim
                (λ q. subst (λ (x : ℕ). A x (new ! x) ≡ true) (sym q) (subst (λ (x : ℕ). A holder x ≡ true) (sym (sa ∙ M.ahead k pos (omega arith))) M.may))
                (λ f. subst (λ (x : ℕ). A l x ≡ true) (sym (so l f d)) (M.allowed l h f)) (cases_eq l holder);
            may = R.link k pos lk;
            ahead = λ j pj h. so (members ! j) (λ q. M.apart j pj (omega arith) (sym q)) (λ q. let z = R.apart j k (omega arith) lk q in omega arith) ∙ M.ahead j pj (omega arith);
            apart = λ j pj h q. let z = R.apart k j lk (omega arith) q in omega arith;
            kept = λ l h. so l (λ q. let z = M.above in omega arith) (λ q. let z = R.above k lk in omega arith) ∙ M.kept l h;
            takes = inl (
              ⊎_elim (λ t. so left (λ q. t.1 (sym q)) (λ q. not_left (sym q)) ∙ t.0)
                  (λ t. ap (λ (x : ℕ). new ! x) (sym t.0) ∙ sa ∙ M.ahead k pos (omega arith) ∙ ap (λ (x : ℕ). old ! (members ! x)) t.1) M.takes,
              not_left,
            );
          }

    -- over values that were read: `next` is the member at k and `up` its parent
    pub mid_step : (new : List ℕ) (next up : ℕ) → next ≡ members ! k → up ≡ parents ! k → 0 < k → k < count
        → new ! holder ≡ mate ! next → new ! next ≡ mate ! holder → ((j : ℕ) → j ≢ holder → j ≢ next → new ! j ≡ mate ! j)
        → Mid A n fixed left old members start new next up
    mid_step new next up ne ue pos lk sa sb so = rw (ne, ue)
        (step pos lk new (sa ∙ ap (λ (x : ℕ). mate ! x) ne) (ap (λ (x : ℕ). new ! x) (sym ne) ∙ sb) (λ j a b. so j a (λ q. b (q ∙ ne))))
