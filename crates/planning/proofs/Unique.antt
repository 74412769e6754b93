-- A rule and the squares of the carriers have at most one plan.
use Rattle.std.proofs.Common.{◌≡◌, ℕ, zero, suc, ◌+◌, ◌<◌, ◌≤◌, List, sym, ap, ◌∙◌, subst, inl, inr, ⊎_elim, arith}
use Rattle.std.proofs.lemmas.Bool.{cases_eq}
use Rattle.matchings.specs.Matchings.{◌!◌, First}
use Rattle.matchings.proofs.Unique.{first_unique}
use Rattle.motion.specs.Plans.{Plan, start_row, start_bay, goal_bay}
use Rattle.planning.specs.MiddleRows.{allows, Round}
use Rattle.planning.proofs.Slots.{Slots}
use Rattle.planning.proofs.Rounds.{SameEnds, ends_turned, Agree, agree_turned, slots_agree, first_moved, start_rows, start_bays, goal_bays, into, out}

module _ (p q : Plan) (E : SameEnds p q) (r : ℕ) (S : Slots p.carriers r p.width (start_row p) (start_bay p)) (k : ℕ) (h : Agree p q k) (m n : List ℕ) (P : Round p k m) (Q : Round q k n) (same : m ≡ n) where
  -- who has row k in the one, and none below it in the other, has it there too
  half : (c : ℕ) → c < p.carriers → p.middle c ≡ k → k ≤ q.middle c → q.middle c ≡ k
  half c lc e o =
      let t = Q.each (start_bay p c) (let z = E.width in let y = S.bay_in c lc in omega arith) in
      let d = t.0 in
      let ld = into p q E d t.1 in
      let bay : start_bay p d ≡ start_bay p c = sym (start_bays p q E d ld) ∙ t.3 in
      let goal : goal_bay p c ≡ goal_bay p d =
      P.paired c lc e
      ∙ ap (λ (x : List ℕ). x ! start_bay p c) same
      ∙ ap (λ (x : ℕ). n ! x) (sym t.3)
      ∙ sym (Q.paired d t.1 t.2)
      ∙ goal_bays p q E d ld
      in
      let u = t.2 in
      let late : k ≤ p.middle d = ⊎_elim (λ z. omega arith) (λ z. z.0) (h d ld) in
      let x = P.lowest c d lc ld e late bay (sym goal) in
      let y =
      Q.lowest d c t.1 (out p q E c lc) t.2 o (start_bays p q E c lc ∙ sym t.3)
      (goal_bays p q E c lc ∙ goal ∙ sym (goal_bays p q E d ld))
      in
      let a = start_rows p q E c lc in
      let b = start_rows p q E d ld in
      let z : c ≡ d = S.apart c d lc ld (omega arith) (sym bay) in
      ap (λ (i : ℕ). q.middle i) z ∙ t.2

module _ (p q : Plan) (E : SameEnds p q) (r : ℕ) (S : Slots p.carriers r p.width (start_row p) (start_bay p)) where
  agree_step :
      (k : ℕ) (m n : List ℕ)
      → Agree p q k
      → Round p k m
      → Round q k n
      → m ≡ n
      → Agree p q (k + 1)
  agree_step k m n h P Q same c lc =
      ⊎_elim inl
      (λ o.
      let x = o.0 in
      let y = o.1 in
      ⊎_elim (λ e. inl (e ∙ sym (half p q E r S k h m n P Q same c lc e y)))
      (λ d.
      ⊎_elim
      (λ e. inl (half q p (ends_turned E) r (slots_agree p q E r S) k (agree_turned p q E k h) n m Q P (sym same) c (out p q E c lc) e x ∙ sym e))
      (λ f. inr (omega arith, omega arith)) (cases_eq (q.middle c) k))
      (cases_eq (p.middle c) k))
      (h c lc)

  -- the ends and the matchings determine the middle rows
  pub one_solution :
      (ms ns : ℕ → List ℕ)
      → ((k : ℕ) → k < r → Round p k (ms k))
      → ((k : ℕ) → k < r → Round q k (ns k))
      → ((k : ℕ) → k < r → Agree p q k → ms k ≡ ns k)
      → ((c : ℕ) → c < p.carriers → p.middle c < r)
      → (c : ℕ)
      → c < p.carriers
      → p.middle c ≡ q.middle c
  one_solution ms ns P Q same below c lc =
      ⊎_elim (λ e. e) (λ o. absurd (let x = o.0 in let y = below c lc in omega arith)) (all r (omega arith) c lc)
    where
      all : (k : ℕ) → k ≤ r → Agree p q k
      all zero l = λ c lc. inr (omega arith, omega arith)
      all (suc k) l =
          let h = all k (omega arith) in
          subst (λ (x : ℕ). Agree p q x) (let e : k + 1 ≡ suc k = omega arith in e)
          (agree_step k (ms k) (ns k) h (P k (omega arith)) (Q k (omega arith)) (same k (omega arith) h))

  -- where each matching is the first, the ends alone determine them
  pub first_solution :
      (ms ns : ℕ → List ℕ)
      → ((k : ℕ) → k < r → Round p k (ms k))
      → ((k : ℕ) → k < r → Round q k (ns k))
      → ((k : ℕ) → k < r → First (allows p k) p.width (ms k))
      → ((k : ℕ) → k < r → First (allows q k) q.width (ns k))
      → ((c : ℕ) → c < p.carriers → p.middle c < r)
      → (c : ℕ)
      → c < p.carriers
      → p.middle c ≡ q.middle c
  first_solution ms ns P Q F G =
      one_solution ms ns P Q (λ k l h. first_unique (allows q k) q.width (ns k) (ms k) (G k l) (first_moved p q E k (ms k) h (F k l)))
