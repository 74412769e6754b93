-- Where no search is needed: a right member is free for the taking, or the one at hand is the least already.
use Rattle.std.proofs.Common.{◌≡◌, ℕ, ◌+◌, ◌<◌, ◌≤◌, Bool, true, ◌≢◌, ◌⊎◌, List, sym, refl, ap, ◌∙◌, subst, inl, inr, ⊎_elim, arith}
use Rattle.std.proofs.lemmas.Bool.{cases_eq, cases_lt}
use Rattle.matchings.proofs.Counting.{holder}
use Rattle.matchings.proofs.Phases.{Sorted, loose_wild, loose_real}
use Rattle.matchings.specs.Matchings.{◌!◌}
use Rattle.matchings.specs.Reaching.{Inj, loose}
use Rattle.matchings.specs.Placing.{Held, Placed, Confined, Split, HasLeast}

-- the members at i and j exchange their right members
module _ (n i j : ℕ) (old new : List ℕ) (li : i < n) (lj : j < n)
    (here : new ! i ≡ old ! j) (there : new ! j ≡ old ! i) (others : (k : ℕ) → k ≢ i → k ≢ j → new ! k ≡ old ! k) where
  -- who had what k has now
  source : (k : ℕ) → k < n → (s : ℕ) × (new ! k ≡ old ! s) × (s < n) × (((k ≡ i) × (s ≡ j)) ⊎ (((k ≡ j) × (s ≡ i)) ⊎ ((s ≡ k) × (k ≢ i) × (k ≢ j))))
  source k h = ⊎_elim
      (λ e. (j, ap (λ (x : ℕ). new ! x) e ∙ here, lj, inl (e, refl)))
      (λ d. ⊎_elim
      (λ e. (i, ap (λ (x : ℕ). new ! x) e ∙ there, li, inr (inl (e, refl))))
      (λ f. (k, others k d f, h, inr (inr (refl, d, f)))) (cases_eq k j)) (cases_eq k i)

  pub exchange_inj : Inj n (λ k. old ! k) → Inj n (λ k. new ! k)
  exchange_inj im = record {
    below = λ k h. let s = source k h in let b = im.below s.0 s.2 in let e = s.1 in omega arith;
    apart = λ a b ha hb e.
        let s = source a ha in let t = source b hb in
        let z : s.0 ≡ t.0 = im.apart s.0 t.0 s.2 t.2 (sym s.1 ∙ e ∙ t.1) in
        let x = s.3 in let y = t.3 in omega arith;
  }

-- the next member takes a right member that nobody before it has
pub held_taken :
    (A : ℕ → ℕ → Bool) (n next k : ℕ) (old new : List ℕ)
    → Held (loose A next) n old
    → next < n
    → next ≤ k
    → k < n
    → A next (old ! k) ≡ true
    → new ! next ≡ old ! k
    → new ! k ≡ old ! next
    → ((j : ℕ) → j ≢ next → j ≢ k → new ! j ≡ old ! j)
    → Held (loose A (next + 1)) n new
held_taken A n next k old new H ln nk lk may here there others = record {
  inj = exchange_inj n next k old new ln lk here there others H.inj;
  allowed = λ l h. ⊎_elim
      (λ s. loose_real A (next + 1) l (new ! l) (omega arith)
      ∙ ap (λ (x : ℕ). A l x) (others l (omega arith) (omega arith))
      ∙ sym (loose_real A next l (old ! l) s)
      ∙ H.allowed l h)
      (λ s. ⊎_elim
      (λ e. loose_real A (next + 1) l (new ! l) (omega arith) ∙ subst (λ (x : ℕ). A x (new ! x) ≡ true) (sym e) (ap (λ (x : ℕ). A next x) here ∙ may))
      (λ d. loose_wild A (next + 1) l (new ! l) (omega arith)) (cases_eq l next))
      (cases_lt l next);
}

-- it has the least that it can have
pub stays_least :
    (A : ℕ → ℕ → Bool) (n left : ℕ) (block m : List ℕ)
    → left < n
    → Sorted A n left m
    → Confined A n left block m
    → HasLeast A n left block m
    → Placed A n left left m m
stays_least A n left block m ll S con L = record {
  inj = S.held.inj;
  allowed = S.held.allowed;
  kept = λ l h. refl;
  least = λ p P.
      let h = holder n (λ k. m ! k) (p left) S.held.inj (P.inj.below left ll) in
      let f : left ≤ h.0 = ⊎_elim
      (λ s. let z = P.inj.apart h.0 left h.1 ll (P.kept h.0 s ∙ h.2) in absurd (omega arith)) (λ s. s) (cases_lt h.0 left) in
      let same = h.2 in
      ⊎_elim
      (λ e. let z = ap (λ (x : ℕ). m ! x) e in omega arith)
      (λ d. let z = L h.0 (omega arith) h.1 (sym (con p P left h.0 ll h.1 (sym same))) (ap (A left) same ∙ P.allowed left ll) in omega arith)
      (cases_eq h.0 left);
}

pub has_least_loose : (A : ℕ → ℕ → Bool) (n w left : ℕ) (block m : List ℕ) → left < w → HasLeast A n left block m → HasLeast (loose A w) n left block m
has_least_loose A n w left block m lw L l a b e may = L l a b e (sym (loose_real A w left (m ! l) lw) ∙ may)

pub split_nothing : (members : List ℕ) (label : ℕ) (block : List ℕ) → Split members 0 label block block
split_nothing members label block i = inr ((λ a. let z = a.1 in omega arith), refl)
