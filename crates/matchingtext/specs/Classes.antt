-- Classes of columns: each column goes by the number of a column that is the same in every row.
use Rattle.std.specs.Prelude.{◌≡◌, ℕ, ◌<◌, Bool, ◌⊎◌, List, Option, None, slice_index_or, ◌==◌}
use Rattle.matchings.specs.Matchings.{◌!◌}
use Rattle.matchingtext.specs.Sheets.{allowed_by}

-- none of the first n classes has a twin
abbrev pub Twinless : ℕ → List (Option ℕ) → Type 0
Twinless n twins = (k : ℕ) → k < n → slice_index_or twins k None ≡ None

-- whether a character of a row is a 1
abbrev pub one : List ℕ → ℕ → Bool
one row c = (row ! c) == 49

-- the classes were `old` and are `new`: each column agrees with its class in this row, and it went with its class or to
-- one that was of the same class
pub record SplitBy (ones : ℕ → Bool) (n : ℕ) (old new : List ℕ) : Type 0 where
  pub below : (c : ℕ) → c < n → new ! c < n
  pub agrees : (c : ℕ) → c < n → ones c ≡ ones (new ! c)
  pub kin : (c : ℕ) → c < n → (new ! c ≡ old ! c) ⊎ (old ! (new ! c) ≡ old ! c)

-- each of the n columns is the same as its class in every row
abbrev pub AlikeColumns : List ℕ → ℕ → List ℕ → Type 0
AlikeColumns rows n classes = (l c : ℕ) → l < n → c < n → allowed_by rows n l c ≡ allowed_by rows n l (classes ! c)
