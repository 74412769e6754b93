use Rattle.std.proofs.Common.{◌≡◌, ◌<◌, ◌≤◌, length, true, IfSome}
use Rattle.matchings.specs.Matchings.{◌!◌}
use Rattle.matching.proofs.search.take_free.Given as goal

abbrev pub invariant-loop-k : goal.invariant-loop-k
invariant-loop-k g l =
    IfSome l.best (λ k. (l.next ≤ k) × (k < length l.fn.mate) × (g.R.Relation.allowed l.rel l.next (l.fn.mate ! k) ≡ true))
