-- What regular counts are: a table of counts in which every row and every column has the same sum, above zero.
use Rattle.std.specs.Prelude.{◌≡◌, ℕ, zero, suc, ◌+◌, ◌<◌, Bool, nat_lt}

-- the sum of f k over the k below n
abbrev pub total : (ℕ → ℕ) → ℕ → ℕ
total f zero = 0
total f (suc n) = f n + total f n

-- in the table c over n left and n right members every row and every column has the sum d, which is not 0
pub record Regular (c : ℕ → ℕ → ℕ) (n d : ℕ) : Type 0 where
  pub some : 0 < d
  pub rows : (l : ℕ) → l < n → total (λ r. c l r) n ≡ d
  pub columns : (r : ℕ) → r < n → total (λ l. c l r) n ≡ d

-- l allows r where their count is above zero
abbrev pub counted : (ℕ → ℕ → ℕ) → ℕ → ℕ → Bool
counted c l r = nat_lt 0 (c l r)

-- the relation A is `count above zero` of regular counts
pub record RegularCounts (A : ℕ → ℕ → Bool) (n : ℕ) : Type 0 where
  pub table : ℕ → ℕ → ℕ
  pub sum : ℕ
  pub regular : Regular table n sum
  pub is : (l r : ℕ) → l < n → r < n → A l r ≡ counted table l r
