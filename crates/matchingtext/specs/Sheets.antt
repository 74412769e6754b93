-- What a relation is as text: a line with its size n, then n lines of n characters 0 and 1.
use Rattle.std.specs.Prelude.{◌≡◌, ℕ, ◌+◌, ◌-◌, ◌*◌, ◌<◌, ◌≤◌, Bool, ◌⊎◌, List, length, Some, None, fold, Option, ◌==◌}
use Rattle.matchings.specs.Matchings.{◌!◌}

-- the line that begins at `from` ends at r: at its newline, or where the text ends
pub record LineEnd (text : List ℕ) (from r : ℕ) : Type 0 where
  pub low : from ≤ r
  pub fits : r ≤ length text
  pub inside : (k : ℕ) → from ≤ k → k < r → text ! k ≡ 10 → ⊥
  pub newline : r < length text → text ! r ≡ 10

-- the bytes are decimal digits, from one to nine of them
pub record Numeral (digits : List ℕ) : Type 0 where
  pub some : 0 < length digits
  pub short : length digits ≤ 9
  pub each : (k : ℕ) → k < length digits → (48 ≤ digits ! k) × (digits ! k ≤ 57)

-- the number that decimal digits write
abbrev pub written : List ℕ → ℕ
written digits = fold (λ n digit. n * 10 + (digit - 48)) 0 digits

-- the number that is read of digits, where they are a numeral
abbrev pub Read : List ℕ → Option ℕ → Type 0
Read digits None = Numeral digits → ⊥
Read digits (Some n) = Numeral digits × (n ≡ written digits)

-- n characters 0 and 1 from `at` on, and then a newline
pub record Row (text : List ℕ) (at n : ℕ) : Type 0 where
  pub fits : at + n < length text
  pub bits : (k : ℕ) → k < n → (text ! (at + k) ≡ 48) ⊎ (text ! (at + k) ≡ 49)
  pub newline : text ! (at + n) ≡ 10

-- n such rows from `from` on
abbrev pub Rows : (text : List ℕ) (from n : ℕ) → Type 0
Rows text from n = (l : ℕ) → l < n → Row text (from + l * (n + 1)) n

-- where n rows end, if they are there
abbrev pub Ends : (text : List ℕ) (from n : ℕ) → Option ℕ → Type 0
Ends text from n None = Rows text from n → ⊥
Ends text from n (Some end) = Rows text from n × (end ≡ from + n * (n + 1)) × (end ≤ length text)

-- whether the character of row l and column r is a 1
abbrev pub allowed_by : (rows : List ℕ) (n l r : ℕ) → Bool
allowed_by rows n l r = (rows ! (l * (n + 1) + r)) == 49
