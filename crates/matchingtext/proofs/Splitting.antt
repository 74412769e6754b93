-- Classes of columns, split row by row.
use Rattle.std.proofs.Common.{◌≡◌, ℕ, ◌+◌, ◌<◌, ◌≤◌, Bool, true, false, not, ◌≢◌, ◌⊎◌, List, ◌++◌, Option, Some, None, get_or, unwrap_or, length, take, set, sym, refl, ap, ◌∙◌, subst, inl, inr, ⊎_elim, true≢false, arith, take_all, get_or-set_other, get_or-set_same}
use mathlib.Core.Bool.{beq}
use lib.Seq.{take-append-le}
use Rattle.std.proofs.lemmas.Bool.{cases_eq}
use Rattle.std.proofs.Math.Bool.{Bool-set}
use Rattle.std.proofs.Math.Logic.{∥∥₁_elim}
use Rattle.matchings.specs.Matchings.{◌!◌}
use Rattle.matchings.specs.Reaching.{IsClass}
use Rattle.matchingtext.specs.Sheets.{allowed_by}
use Rattle.matchingtext.specs.Classes.{AlikeColumns}

-- the twin of a class k, if there is one: it was of class k, and differs from k in this row
abbrev pub Twin : (ℕ → Bool) → ℕ → List ℕ → ℕ → Option ℕ → Type 0
Twin ones n old k None = Unit {0}
Twin ones n old k (Some t) = (t < n) × (old ! t ≡ k) × (ones t ≡ not (ones k))

-- what column c has come to, in this row
pub record Sorted (ones : ℕ → Bool) (n : ℕ) (old : List ℕ) (c now : ℕ) : Type 0 where
  pub below : now < n
  pub agrees : ones c ≡ ones now
  pub kin : (now ≡ old ! c) ⊎ (old ! now ≡ old ! c)

-- the first c columns are sorted, the others as they were
pub record Splitting (ones : ℕ → Bool) (n : ℕ) (old new : List ℕ) (twins : List (Option ℕ)) (c : ℕ) : Type 0 where
  pub sorted : (j : ℕ) → j < c → Sorted ones n old j (new ! j)
  pub rest : (j : ℕ) → c ≤ j → new ! j ≡ old ! j
  pub twin : (k : ℕ) → k < n → Twin ones n old k (get_or twins k None)

module _ (ones : ℕ → Bool) (n : ℕ) (old new : List ℕ) (twins : List (Option ℕ)) (c : ℕ) (s : Splitting ones n old new twins c) (lc : c < n) (long : length new ≡ n) where
  -- column c agrees with its class, and keeps it
  pub splitting_keeps : old ! c < n → ones c ≡ ones (new ! c) → Splitting ones n old new twins (c + 1)
  splitting_keeps lk same = record {
    sorted = λ j h. ⊎_elim
        (λ e. subst (λ (x : ℕ). Sorted ones n old x (new ! x)) (sym e)
        (record { below = let z = s.rest c (omega arith) in omega arith; agrees = same; kin = inl (s.rest c (omega arith)) }))
        (λ d. s.sorted j (omega arith)) (cases_eq j c);
    rest = λ j h. s.rest j (omega arith);
    twin = s.twin;
  }

  -- column c goes to t, with other twins
  module _ (t : ℕ) (twins' : List (Option ℕ)) (to : Sorted ones n old c t) (others : (k : ℕ) → k < n → Twin ones n old k (get_or twins' k None)) where
    same_other : (j : ℕ) → j ≢ c → set new c t ! j ≡ new ! j
    same_other j d = get_or-set_other new c j t 0 d

    pub splitting_moves : Splitting ones n old (set new c t) twins' (c + 1)
    splitting_moves = record {
      sorted = λ j h. ⊎_elim
          (λ e. subst (λ (x : ℕ). Sorted ones n old x (set new c t ! x)) (sym e)
          (subst (λ (x : ℕ). Sorted ones n old c x) (sym (get_or-set_same new c t 0 (omega arith))) to))
          (λ d. subst (λ (x : ℕ). Sorted ones n old j x) (sym (same_other j d)) (s.sorted j (omega arith))) (cases_eq j c);
      rest = λ j h. same_other j (omega arith) ∙ s.rest j (omega arith);
      twin = others;
    }

pub differ : (a b : Bool) → not (beq a b) ≡ true → a ≡ b → ⊥
differ true true h e = true≢false (sym h)
differ true false h e = true≢false e
differ false true h e = true≢false (sym e)
differ false false h e = true≢false (sym h)

pub agree : (a b : Bool) → not (beq a b) ≡ false → a ≡ b
agree true true h = refl
agree true false h = h
agree false true h = sym h
agree false false h = refl

not_same : (a b : Bool) → (a ≡ b → ⊥) → a ≡ not b
not_same true true d = absurd (d refl)
not_same true false d = refl
not_same false true d = refl
not_same false false d = absurd (d refl)

module _ (ones : ℕ → Bool) (n : ℕ) (old new : List ℕ) (twins : List (Option ℕ)) (c class : ℕ) (s : Splitting ones n old new twins c) (lc : c < n) (long : length new ≡ n)
    (is : class ≡ new ! c) (lk : old ! c < n) where
  was : class ≡ old ! c
  was = is ∙ s.rest c (omega arith)

  pub class_below : class < n
  class_below = let z = was in omega arith

  pub split_keeps : ones c ≡ ones class → Splitting ones n old new twins (c + 1)
  split_keeps e = splitting_keeps ones n old new twins c s lc long lk (e ∙ ap ones is)

  -- a column that differs from its class goes to the twin, and is the twin where there is none yet
  goes : (ones c ≡ ones class → ⊥) → (o : Option ℕ) → Twin ones n old class o → Sorted ones n old c (unwrap_or o c) × Twin ones n old class (Some (unwrap_or o c))
  goes d None f = (record { below = lc; agrees = refl; kin = inr refl }, (lc, sym was, not_same (ones c) (ones class) d))
  goes d (Some t) f = (record { below = f.0; agrees = not_same (ones c) (ones class) d ∙ sym f.2; kin = inr (f.1 ∙ was) }, f)

  pub split_moves : length twins ≡ n → (ones c ≡ ones class → ⊥) → (t : ℕ) → t ≡ unwrap_or (get_or twins class None) c
      → Splitting ones n old (set new c t) (set twins class (Some t)) (c + 1)
  split_moves wide d t e =
      let g = goes d (get_or twins class None) (s.twin class class_below) in
      splitting_moves ones n old new twins c s lc long t (set twins class (Some t))
      (subst (λ (x : ℕ). Sorted ones n old c x) (sym e) g.0)
      (λ k h. ⊎_elim
      (λ q. subst (λ (x : ℕ). Twin ones n old x (get_or (set twins class (Some t)) x None)) (sym q)
      (subst (λ (x : Option ℕ). Twin ones n old class x) (sym (get_or-set_same twins class (Some t) None (let z = class_below in omega arith)))
      (subst (λ (x : ℕ). Twin ones n old class (Some x)) (sym e) g.1)))
      (λ o. subst (λ (x : Option ℕ). Twin ones n old k x) (sym (get_or-set_other twins class k (Some t) None o)) (s.twin k h)) (cases_eq k class))

-- each column is the same as its class in the first `row` rows
pub record Alike (rows : List ℕ) (n row : ℕ) (classes : List ℕ) : Type 0 where
  pub below : (c : ℕ) → c < n → classes ! c < n
  pub same : (l c : ℕ) → l < row → c < n → allowed_by rows n l c ≡ allowed_by rows n l (classes ! c)

-- a list as long as the front that is kept is that front
pub front : (n : ℕ) (a b : List ℕ) → length a ≡ n → take n (a ++ b) ≡ a
front n a b e = take-append-le n a b (omega arith) ∙ take_all n a (omega arith)

-- columns of one class are the same
pub column_class : (rows : List ℕ) (n : ℕ) (classes : List ℕ) (right : ℕ) → right < n → ∥ AlikeColumns rows n classes ∥₁
    → IsClass (allowed_by rows n) n (λ r. classes ! r) right (classes ! right)
column_class rows n classes right lr same = (
  refl,
  λ l s ll ls e. ∥∥₁_elim same (Bool-set (allowed_by rows n l s) (allowed_by rows n l right))
      (λ h. h l s ll ls ∙ ap (λ (x : ℕ). allowed_by rows n l x) e ∙ sym (h l right ll lr)),
)
