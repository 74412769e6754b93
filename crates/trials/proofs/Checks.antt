-- Computed checks: a test, and the law that what it tests holds where it says yes.
use Rattle.std.proofs.Common.{◌≡◌, ℕ, zero, suc, ◌<◌, ◌≤◌, Bool, true, false, cond, not, ◌&&◌, ◌||◌, eqb, ltb, leb, ◌⊎◌, sym, ◌∙◌, subst, inl, inr, ⊎_elim, arith}
use Rattle.std.proofs.lemmas.Bool.{ltb-true, leb-true, eqb-true, eq-eqb, le-leb, not-true, and_parts, or_cases, cond-true, cases_eq}
use Rattle.matchings.specs.Matchings.{some}
use Rattle.matchings.proofs.Blocks.{some_place}

pub record Check (P : Type 0) : Type 0 where
  pub yes : Bool
  pub right : yes ≡ true → P

abbrev pub lt? : (a b : ℕ) → Check (a < b)
lt? a b = record { yes = ltb a b; right = ltb-true a b }

abbrev pub le? : (a b : ℕ) → Check (a ≤ b)
le? a b = record { yes = leb a b; right = leb-true a b }

abbrev pub eq? : (a b : ℕ) → Check (a ≡ b)
eq? a b = record { yes = eqb a b; right = eqb-true a b }

abbrev pub true? : (b : Bool) → Check (b ≡ true)
true? b = record { yes = b; right = λ e. e }

abbrev pub false? : (b : Bool) → Check (b ≡ false)
false? b = record { yes = not b; right = not-true b }

module _ {P Q : Type 0} where
  abbrev pub both? : Check P → Check Q → Check (P × Q)
  both? a b =
      record {
        yes = a.yes && b.yes;
        right = λ e. let t = and_parts a.yes b.yes e in (a.right t.0, b.right t.1);
      }

  abbrev pub either? : Check P → Check Q → Check (P ⊎ Q)
  either? a b =
      record {
        yes = a.yes || b.yes;
        right = λ e. ⊎_elim (λ l. inl (a.right l)) (λ r. inr (b.right r)) (or_cases a.yes b.yes e);
      }

  abbrev pub so? : (P → Q) → Check P → Check Q
  so? f a = record { yes = a.yes; right = λ e. f (a.right e) }

  -- b is true wherever P holds
  abbrev when? : (b : Bool) → (P → b ≡ true) → Check Q → Check (P → Q)
  when? b h a = record { yes = cond b a.yes true; right = λ e p. a.right (sym (cond-true b a.yes true (h p)) ∙ e) }

module _ {Q : Type 0} where
  abbrev pub when-eq? : (a b : ℕ) → Check Q → Check (a ≡ b → Q)
  when-eq? a b q = when? (eqb a b) (eq-eqb a b) q

  abbrev pub when-le? : (a b : ℕ) → Check Q → Check (a ≤ b → Q)
  when-le? a b q = when? (leb a b) (le-leb a b) q

-- each number below n passes, or some number does

abbrev all : (ℕ → Bool) → ℕ → Bool
all f zero = true
all f (suc n) = f n && all f n

pub all_at : (f : ℕ → Bool) (n : ℕ) → all f n ≡ true → (k : ℕ) → k < n → f k ≡ true
all_at f zero e k l = absurd (omega arith)
all_at f (suc n) e k l =
    let t = and_parts (f n) (all f n) e in
    ⊎_elim (λ q. subst (λ (x : ℕ). f x ≡ true) (sym q) t.0) (λ d. all_at f n t.1 k (omega arith)) (cases_eq k n)

module _ {P : ℕ → Type 0} where
  abbrev pub all? : (n : ℕ) → ((k : ℕ) → Check (P k)) → Check ((k : ℕ) → k < n → P k)
  all? n t = record { yes = all (λ k. (t k).yes) n; right = λ e k l. (t k).right (all_at (λ k. (t k).yes) n e k l) }

  abbrev pub some? : (n : ℕ) → ((k : ℕ) → Check (P k)) → Check ((k : ℕ) × (k < n) × P k)
  some? n t =
      record {
        yes = some (λ k. (t k).yes) n;
        right = λ e. let s = some_place (λ k. (t k).yes) n e in (s.0, s.1, (t s.0).right s.2);
      }
