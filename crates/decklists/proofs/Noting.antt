-- One more carrier is noted in a table.
use Rattle.std.proofs.Common.{true, false, is_some, refl, ◌≡◌, ℕ, ◌+◌, ◌<◌, List, length, get_or, set, Some, None, Option, sym, ap, ◌∙◌, ⊎_elim, arith, MatchOption}
use Rattle.std.proofs.lemmas.List.{get_or-set_same, get_or-set_other}
use Rattle.std.proofs.lemmas.Bool.{cases_eq}
use Rattle.grid.specs.declared.square.Square.{Square}
use Rattle.decklists.specs.Notes.{square_number, Noted}
use Rattle.decklists.proofs.Placing.{same_number}

pub some_is : (j k : ℕ) → ◌≡◌ {A = Option ℕ} (Some j) (Some k) → j ≡ k
some_is j k e = cc

nobody : (k : ℕ) → ◌≡◌ {A = Option ℕ} None (Some k) → ⊥
nobody k e = let z : ◌≡◌ {A = ℕ} 0 1 = cc in omega arith

-- what a look at a place of the table tells
pub some_noted : (o : Option ℕ) → is_some o ≡ true → (j : ℕ) × (o ≡ Some j)
some_noted None e = cc
some_noted (Some j) e = (j, refl)

pub none_noted : (o : Option ℕ) → is_some o ≡ false → (k : ℕ) → o ≡ Some k → ⊥
none_noted None e k q = nobody k q
none_noted (Some j) e k q = let z : ◌≡◌ {A = ℕ} 0 1 = cc in omega arith

module _ (columns : ℕ) (at : ℕ → Square) (table : List (Option ℕ)) (n p : ℕ) (here : p ≡ square_number columns (at n)) (within : p < length table) (free : (k : ℕ) → get_or table p None ≡ Some k → ⊥) (i : Noted columns n at table) where
  set_there : get_or (set table p (Some n)) p None ≡ Some n
  set_there = get_or-set_same table p (Some n) None within

  each_more : (k : ℕ) → k < n + 1 → get_or (set table p (Some n)) (square_number columns (at k)) None ≡ Some k
  each_more k h = ⊎_elim
      (λ (e : k ≡ n). ap (λ q. get_or (set table p (Some n)) q None) (ap (λ m. square_number columns (at m)) e ∙ sym here) ∙ set_there ∙ ap Some (sym e))
      (λ (o : k ≡ n → ⊥).
      let l : k < n = omega arith in
      let old = i.each k l in
      get_or-set_other table p (square_number columns (at k)) (Some n) None (λ e. free k (ap (λ q. get_or table q None) (sym e) ∙ old)) ∙ old)
      (cases_eq k n)

  else_more : (q k : ℕ) → get_or (set table p (Some n)) q None ≡ Some k → (k < n + 1) × (square_number columns (at k) ≡ q)
  else_more q k s = ⊎_elim
      (λ (e : q ≡ p).
      let k-is : n ≡ k = some_is n k (sym set_there ∙ ap (λ m. get_or (set table p (Some n)) m None) (sym e) ∙ s) in
      (omega arith, ap (λ m. square_number columns (at m)) (sym k-is) ∙ sym here ∙ sym e))
      (λ (o : q ≡ p → ⊥).
      let old = sym (get_or-set_other table p q (Some n) None o) ∙ s in
      let l : k < n = i.nobody_else q k old in
      (omega arith, i.nowhere_else q k old))
      (cases_eq q p)

  pub noted_more : Noted columns (n + 1) at (set table p (Some n))
  noted_more = record { each = each_more; nobody_else = λ q k s. (else_more q k s).0; nowhere_else = λ q k s. (else_more q k s).1 }

-- the same table notes carriers that stand where they came to
pub noted_there : (columns m n : ℕ) (at at' : ℕ → Square) (table : List (Option ℕ)) → m ≡ n → ((k : ℕ) → k < n → at' k ≡ at k) → Noted columns n at table → Noted columns m at' table
noted_there columns m n at at' table long same i = record {
  each = λ k h. let l : k < n = omega arith in ap (λ (s : Square). get_or table (square_number columns s) None) (same k l) ∙ i.each k l;
  nobody_else = λ p k s. let l : k < n = i.nobody_else p k s in omega arith;
  nowhere_else = λ p k s. ap (square_number columns) (same k (i.nobody_else p k s)) ∙ i.nowhere_else p k s;
}

-- what is read from the table at a square's number says who stands there
pub stands : (columns n : ℕ) (at : ℕ → Square) (table : List (Option ℕ)) (s : Square) (o : Option ℕ) → s.column < columns → ((k : ℕ) → k < n → (at k).column < columns) → Noted columns n at table → o ≡ get_or table (square_number columns s) None → MatchOption o ((k : ℕ) → k < n → at k ≡ s → ⊥) (λ k. (k < n) × (at k ≡ s))
stands columns n at table s None l inside i e = λ k h q. nobody k (e ∙ ap (λ (t : Square). get_or table (square_number columns t) None) (sym q) ∙ i.each k h)
stands columns n at table s (Some k) l inside i e =
    let h : k < n = i.nobody_else (square_number columns s) k (sym e) in
    (h, same_number columns (at k) s (inside k h) l (i.nowhere_else (square_number columns s) k (sym e)))
