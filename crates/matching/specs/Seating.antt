-- Which right member each left member has while a search is under way.
use Rattle.std.specs.Prelude.{◌≡◌, ℕ, List, length}
use Rattle.matchings.specs.Matchings.{◌!◌}
use Rattle.matchings.specs.Reaching.{Inj}

-- n left members have each a right member of its own
pub record Seated (n : ℕ) (mate : List ℕ) : Type 0 where
  pub many : length mate ≡ n
  pub inj : Inj (length mate) (λ k. mate ! k)
