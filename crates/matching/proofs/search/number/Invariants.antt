use Rattle.std.proofs.Common.{◌≡◌, ℕ, ◌<◌}
use Rattle.matchings.specs.Matchings.{◌!◌}
use Rattle.matching.proofs.search.number.Given as goal

abbrev pub invariant-loop-k : goal.invariant-loop-k
invariant-loop-k l = (k : ℕ) → k < l.k → l.mate ! k ≡ k
