-- What a perfect matching is, which one comes first, and which left members block every one.
use Rattle.std.specs.Prelude.{◌≡◌, ℕ, zero, suc, ◌+◌, ◌<◌, ◌≤◌, Bool, true, false, cond, List, length, nat_eq, slice_index}

-- A relation has n left and n right members, each numbered from 0: `A l r` says whether the left member l allows the right member r.

-- the number at place k of a list, 0 past its end; in a matching, the right member of the left member k
infixl 90 ◌!◌
abbrev pub ◌!◌ : List ℕ → ℕ → ℕ
xs ! k = slice_index xs k

-- the list m gives each left member a right member of its own that it allows
pub record Perfect (A : ℕ → ℕ → Bool) (n : ℕ) (m : List ℕ) : Type 0 where
  pub long : length m ≡ n
  pub below : (l : ℕ) → l < n → m ! l < n
  pub apart : (i j : ℕ) → i < n → j < n → m ! i ≡ m ! j → i ≡ j
  pub allowed : (l : ℕ) → l < n → A l (m ! l) ≡ true

-- it comes first in dictionary order: where another perfect matching agrees with it before k, its right member at k is not greater
pub record First (A : ℕ → ℕ → Bool) (n : ℕ) (m : List ℕ) : Type 0 where
  pub perfect : Perfect A n m
  pub first : (p : List ℕ) → Perfect A n p → (k : ℕ) → k < n → ((j : ℕ) → j < k → p ! j ≡ m ! j) → m ! k ≤ p ! k

-- how many k below n pass f
abbrev pub count : (ℕ → Bool) → ℕ → ℕ
count f zero = 0
count f (suc n) = cond (f n) 1 0 + count f n

-- whether some k below n passes f
abbrev pub some : (ℕ → Bool) → ℕ → Bool
some f zero = false
some f (suc n) = cond (f n) true (some f n)

-- whether some left member of the set allows r
abbrev pub allowed_by_some : (A : ℕ → ℕ → Bool) (n : ℕ) (set : ℕ → Bool) → ℕ → Bool
allowed_by_some A n set r = some (λ l. cond (set l) (A l r) false) n

-- the left members of the set block: fewer right members are allowed by some of them than they are
abbrev pub Blocks : (A : ℕ → ℕ → Bool) (n : ℕ) (set : ℕ → Bool) → Type 0
Blocks A n set = count (allowed_by_some A n set) n < count set n

-- whether l is one of the first c numbers of a list
abbrev pub listed : (members : List ℕ) (c : ℕ) → ℕ → Bool
listed members c l = some (λ k. nat_eq (members ! k) l) c

-- the first c numbers of a list are left members, each once, that block
pub record Blocking (A : ℕ → ℕ → Bool) (n : ℕ) (members : List ℕ) (c : ℕ) : Type 0 where
  pub fits : c ≤ n
  pub below : (k : ℕ) → k < c → members ! k < n
  pub apart : (j k : ℕ) → j < c → k < c → members ! j ≡ members ! k → j ≡ k
  pub blocks : Blocks A n (listed members c)
