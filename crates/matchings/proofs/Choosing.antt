-- The least allowed right member so far.
use Rattle.std.proofs.Common.{◌≡◌, ℕ, ◌+◌, ◌<◌, ◌≤◌, Bool, true, List, Some, None, Option, refl, subst, ⊎_elim, arith}
use Rattle.std.proofs.lemmas.Bool.{cases_eq, cases_Bool, both_ways}
use Rattle.matchings.specs.Matchings.{◌!◌}
use Rattle.matchings.specs.Reaching.{Chosen}

-- the right member of the choice, or n
abbrev pub least_is : List ℕ → List ℕ → ℕ → Option ℕ → ℕ
least_is mate members n None = n
least_is mate members n (Some b) = mate ! (members ! b)

-- the choice among the first k, and its right member, or n
pub record Best (can : ℕ → Bool) (mate members : List ℕ) (n k : ℕ) (best : Option ℕ) (least : ℕ) : Type 0 where
  pub chosen : Chosen can mate members k best
  pub is : least ≡ least_is mate members n best

module _ (can : ℕ → Bool) (mate members : List ℕ) (n k : ℕ) where
  pub best_none : Best can mate members n 0 None n
  best_none = record { chosen = λ k h. absurd (omega arith); is = refl }

  take : (best : Option ℕ) (least : ℕ) → Best can mate members n k best least → can (mate ! (members ! k)) ≡ true → mate ! (members ! k) < least
      → Best can mate members n (k + 1) (Some k) (mate ! (members ! k))
  take None least b c l = record { chosen = (omega arith, c, λ j h t. ⊎_elim (λ e. rw e (omega arith)) (λ d. absurd (both_ways (can (mate ! (members ! j))) (b.chosen j (omega arith)) t)) (cases_eq j k)); is = refl }
  take (Some a) least b c l = record { chosen = (omega arith, c, λ j h t. ⊎_elim (λ e. rw e (omega arith)) (λ d. let x = b.chosen.2 j (omega arith) t in let y = b.is in omega arith) (cases_eq j k)); is = refl }

  pub best_take : (best : Option ℕ) (least right : ℕ) → right ≡ mate ! (members ! k) → Best can mate members n k best least → can right ≡ true → right < least
      → Best can mate members n (k + 1) (Some k) right
  best_take best least right e b c l = rw e (take best least b (subst (λ (x : ℕ). can x ≡ true) e c) (subst (λ (x : ℕ). x < least) e l))

  skip : (best : Option ℕ) (least : ℕ) → Best can mate members n k best least → (can (mate ! (members ! k)) ≡ true → least ≤ mate ! (members ! k)) → mate ! (members ! k) < n
      → Best can mate members n (k + 1) best least
  skip None least b c l = record { chosen = λ j h. ⊎_elim (λ e. ⊎_elim (λ t. let x = c t in let y = b.is in absurd (omega arith)) (λ t. rw e t) (cases_Bool (can (mate ! (members ! k))))) (λ d. b.chosen j (omega arith)) (cases_eq j k); is = b.is }
  skip (Some a) least b c l = record { chosen = (let z = b.chosen.0 in omega arith, b.chosen.1, λ j h t. ⊎_elim (λ e. let x = c (subst (λ (i : ℕ). can (mate ! (members ! i)) ≡ true) e t) in let y = b.is in rw e (omega arith)) (λ d. b.chosen.2 j (omega arith) t) (cases_eq j k)); is = b.is }

  pub best_skip : (best : Option ℕ) (least right : ℕ) → right ≡ mate ! (members ! k) → Best can mate members n k best least → (can right ≡ true → least ≤ right) → right < n
      → Best can mate members n (k + 1) best least
  best_skip best least right e b c l = skip best least b (subst (λ (x : ℕ). can x ≡ true → least ≤ x) e c) (subst (λ (x : ℕ). x < n) e l)
