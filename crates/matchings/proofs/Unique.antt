-- The first perfect matching is unique.
use Rattle.std.proofs.Common.{◌≡◌, ℕ, zero, suc, ◌<◌, ◌≤◌, Bool, List, sym, ◌∙◌, subst, ⊎_elim, arith}
use Rattle.std.proofs.lemmas.List.{ext_get_or}
use Rattle.std.proofs.lemmas.Bool.{cases_eq}
use Rattle.matchings.specs.Matchings.{◌!◌, First}

-- there is at most one first matching
agree : (A : ℕ → ℕ → Bool) (n : ℕ) (m p : List ℕ) → First A n m → First A n p → (k : ℕ) → k ≤ n → (j : ℕ) → j < k → p ! j ≡ m ! j
agree A n m p M P zero h j l = absurd (omega arith)
agree A n m p M P (suc k) h j l =
    let ih = agree A n m p M P k (omega arith) in
    let a = M.first p P.perfect k (omega arith) ih in
    let b = P.first m M.perfect k (omega arith) (λ j l. sym (ih j l)) in
    ⊎_elim (λ e. rw e (omega arith)) (λ d. ih j (omega arith)) (cases_eq j k)

pub first_unique : (A : ℕ → ℕ → Bool) (n : ℕ) (m p : List ℕ) → First A n m → First A n p → p ≡ m
first_unique A n m p M P = ext_get_or 0 p m (P.perfect.long ∙ sym M.perfect.long)
    (λ k h. agree A n m p M P n (omega arith) k (subst (λ (x : ℕ). k < x) P.perfect.long h))
