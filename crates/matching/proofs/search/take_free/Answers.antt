use Rattle.std.proofs.Common.{◌≡◌, ℕ, ◌<◌, ◌≤◌, true, Option, IfSome, length, subst, arith}
use Rattle.matchings.specs.Matchings.{◌!◌}
use Rattle.matchings.proofs.Shortcuts.{held_taken}
use Rattle.matching.proofs.search.take_free.Goals as goal

pub returns : goal.returns
returns g c =
    let A = g.R.Relation.allowed c.args.rel.now in
    let n = length c.args.mate.now in
    let next = c.args.next in
    let old = c.args.mate.now in
    let free = subst (λ (o : Option ℕ). IfSome o (λ k. (next ≤ k) × (k < n) × (A next (old ! k) ≡ true))) c.in-Some.is c.loop-k.invariant in
    held_taken A n next c.in-Some.k old c.swap.new.self c.requires.held (omega arith) free.0 free.1 free.2
    (c.swap.ensures.by_index.0 0) (c.swap.ensures.by_index.1 0) (λ j. c.swap.ensures.by_index.2 j 0)
