-- The middle rows of a plan: which carriers get row k, by a perfect matching of start bays to goal bays for each k.
use Rattle.std.specs.Prelude.{◌≡◌, ℕ, ◌<◌, ◌≤◌, Bool, ◌&&◌, List, ◌==◌, nat_le, nat_lt}
use Rattle.grid.specs.Sides.{row_count}
use Rattle.matchings.specs.Matchings.{◌!◌, count, Perfect, First}
use Rattle.motion.specs.Plans.{Plan, start_row, start_bay, goal_bay}

-- When the rows below k are given out, a carrier whose middle row is not below k is not yet placed.

-- carrier c is not yet placed, starts in bay j and has its goal in bay g
abbrev pub waits : Plan → (k j g c : ℕ) → Bool
waits p k j g c = start_bay p c == j && (goal_bay p c == g && nat_le k (p.middle c))

-- how many such carriers there are
abbrev pub waiting : Plan → (k j g : ℕ) → ℕ
waiting p k j g = count (λ c. waits p k j g c) p.carriers

-- start bay j allows goal bay g when there is some such carrier
abbrev pub allows : Plan → (k j g : ℕ) → Bool
allows p k j g = nat_lt 0 (waiting p k j g)

-- row k is given out by a perfect matching of start bays to goal bays: of each pair in it, the carrier not yet placed
-- that has the lowest start row gets it, and nobody else
pub record Round (p : Plan) (k : ℕ) (matching : List ℕ) : Type 0 where
  pub perfect : Perfect (allows p k) p.width matching
  pub paired : (c : ℕ) → c < p.carriers → p.middle c ≡ k → goal_bay p c ≡ matching ! start_bay p c
  pub lowest :
      (c d : ℕ)
      → c < p.carriers
      → d < p.carriers
      → p.middle c ≡ k
      → k ≤ p.middle d
      → start_bay p d ≡ start_bay p c
      → goal_bay p d ≡ goal_bay p c
      → start_row p c ≤ start_row p d
  pub each : (j : ℕ) → j < p.width → (c : ℕ) × (c < p.carriers) × (p.middle c ≡ k) × (start_bay p c ≡ j)

-- all rows are given out so, row k by the k-th matching, whichever perfect matchings these are
pub record MiddleRows (p : Plan) (matchings : ℕ → List ℕ) : Type 0 where
  pub below : (c : ℕ) → c < p.carriers → p.middle c < row_count p.height
  pub rounds : (k : ℕ) → k < row_count p.height → Round p k (matchings k)

-- the choice of matchings: each is the first perfect one
abbrev pub FirstMatchings : Plan → (ℕ → List ℕ) → Type 0
FirstMatchings p matchings = (k : ℕ) → k < row_count p.height → First (allows p k) p.width (matchings k)
