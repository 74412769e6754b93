-- The two phases: members become settled one by one, and then least one by one.
use Rattle.std.proofs.Common.{◌≡◌, ℕ, ◌+◌, ◌<◌, ◌≤◌, Bool, true, leb, List, length, sym, refl, ◌∙◌, subst, ⊎_elim, arith}
use Rattle.std.proofs.lemmas.Bool.{cases_eq, cases_lt, cond-true, cond-false, le-leb, lt-leb}
use Rattle.matchings.proofs.Counting.{holder}
use Rattle.matchings.specs.Matchings.{◌!◌, First}
use Rattle.matchings.specs.Reaching.{Inj, Among, loose}
use Rattle.matchings.specs.Placing.{Confined, Sealed, Split, Like, Placed, Refused, Held}

module _ (A : ℕ → ℕ → Bool) where
  pub loose_wild : (w l r : ℕ) → w ≤ l → loose A w l r ≡ true
  loose_wild w l r h = cond-true (leb w l) true (A l r) (le-leb w l h)

  pub loose_real : (w l r : ℕ) → l < w → loose A w l r ≡ A l r
  loose_real w l r h = cond-false (leb w l) true (A l r) (lt-leb w l h)

  pub loose_more : (w l r : ℕ) → A l r ≡ true → loose A w l r ≡ true
  loose_more w l r a = ⊎_elim (λ h. loose_real w l r h ∙ a) (λ h. loose_wild w l r h) (cases_lt l w)

  -- at the start all are wild
  pub held_none : (n : ℕ) (m : List ℕ) → ((k : ℕ) → k < n → m ! k ≡ k) → Held (loose A 0) n m
  held_none n m h = record {
    inj = record { below = λ i l. let e = h i l in omega arith; apart = λ i j li lj e. let a = h i li in let b = h j lj in omega arith };
    allowed = λ l h. loose_wild 0 l (m ! l) (omega arith);
  }

  pub held_all : (n w : ℕ) (m : List ℕ) → n ≤ w → Held (loose A w) n m → Held A n m
  held_all n w m e H = record { inj = H.inj; allowed = λ l h. sym (loose_real w l (m ! l) (omega arith)) ∙ H.allowed l h }

-- held, and those below `left` have the least that they can have
pub record Sorted (A : ℕ → ℕ → Bool) (n left : ℕ) (m : List ℕ) : Type 0 where
  pub held : Held A n m
  pub least : (j : ℕ) → j < left → (p : ℕ → ℕ) → Like A n j m p → m ! j ≤ p j

module _ (A : ℕ → ℕ → Bool) (n : ℕ) where
  pub sorted_none : (m : List ℕ) → Held A n m → Sorted A n 0 m
  sorted_none m H = record { held = H; least = λ j h. absurd (omega arith) }

  pub sorted_placed : (left : ℕ) (old new : List ℕ) → Sorted A n left old → Placed A n left left old new → Sorted A n (left + 1) new
  sorted_placed left old new S P = record {
    held = record { inj = P.inj; allowed = P.allowed };
    least = λ j h p L. ⊎_elim
        (λ e. rw e (P.least p (back left (omega arith) p (subst (λ (x : ℕ). Like A n x new p) e L))))
        (λ d. let s : j < left = omega arith in rw (P.kept j s) (S.least j s p (back j (omega arith) p L)))
        (cases_eq j left);
  }
    where
      back : (j : ℕ) → j ≤ left → (p : ℕ → ℕ) → Like A n j new p → Like A n j old p
      back j h p L = record { inj = L.inj; allowed = L.allowed; kept = λ l q. L.kept l q ∙ P.kept l (omega arith) }

-- after the split each still stays in its block
pub confined_more : (A : ℕ → ℕ → Bool) (n left : ℕ) (old new block after members : List ℕ) (count label : ℕ) → Inj n (λ k. old ! k) → Confined A n left block old
    → Placed A n left left old new → Sealed A n left old members count → Split members count label block after → Confined A n (left + 1) after new
confined_more A n left old new block after members count label im con L S T p P i j hi hj e =
    let P0 : Like A n left old p = record { inj = P.inj; allowed = P.allowed; kept = λ l h. P.kept l (omega arith) ∙ L.kept l h } in
    let N0 : Like A n left old (λ k. new ! k) = record { inj = L.inj; allowed = L.allowed; kept = L.kept } in
    let h = holder n (λ k. old ! k) (new ! j) im (L.inj.below j hj) in
    let to : Among members count i → Among members count j = λ a. S.back (λ k. new ! k) N0 j h.0 hj h.1 (sym h.2) (S.stays p P0 i h.0 hi h.1 (e ∙ sym h.2) a) in
    let fro : Among members count j → Among members count i = λ a. S.back p P0 i h.0 hi h.1 (e ∙ sym h.2) (S.stays (λ k. new ! k) N0 j h.0 hj h.1 (sym h.2) a) in
    ⊎_elim
    (λ a. ⊎_elim (λ b. a.1 ∙ sym b.1) (λ b. absurd (b.0 (to a.0))) (T j))
    (λ a. ⊎_elim (λ b. absurd (a.0 (fro b.0)))
    (λ b. a.1 ∙ con p P0 i h.0 hi h.1 (e ∙ sym h.2) ∙ sym (con (λ k. new ! k) N0 j h.0 hj h.1 (sym h.2)) ∙ sym b.1) (T j)) (T i)

-- what is held cannot be refused
pub never_refused : (A : ℕ → ℕ → Bool) (n left : ℕ) (block old members : List ℕ) (reached : ℕ) → Sorted A n left old → Refused A n left left block old members reached → ⊥
never_refused A n left block old members reached S R = R.none (λ k. old ! k) (record { inj = S.held.inj; allowed = S.held.allowed; kept = λ l h. refl })

pub first_of : (A : ℕ → ℕ → Bool) (n w k : ℕ) (m : List ℕ) → length m ≡ n → n ≤ w → k ≡ n → Sorted (loose A w) n k m → First A n m
first_of A n w k m e v q S = record {
  perfect = record { long = e; below = S.held.inj.below; apart = S.held.inj.apart; allowed = (held_all A n w m v S.held).allowed };
  first = λ p P j h same. S.least j (omega arith) (λ i. p ! i) (record {
    inj = record { below = P.below; apart = P.apart };
    allowed = λ l hl. loose_more A w l (p ! l) (P.allowed l hl);
    kept = same;
  });
}
