use Rattle.std.proofs.Common.{◌≡◌, ℕ, ◌+◌, ◌-◌, ◌<◌, List, length, sym, ap, ◌∙◌, subst, arith}
use Rattle.matchings.specs.Matchings.{◌!◌, Blocking}
use Rattle.matchings.specs.Reaching.{loose}
use Rattle.matchings.specs.Placing.{Hemmed, Gathered}
use Rattle.matchings.proofs.Blocks.{hemmed_blocks, blocking_loose}
use Rattle.matchings.proofs.Phases.{loose_more}
use Rattle.matching.specs.WorkLists.{members_of}
use Rattle.matching.proofs.search.settle.Goals as goal

pub returns-in-Err-clause-settled : goal.returns-in-Err-clause-settled
returns-in-Err-clause-settled g c =
    let n = length c.args.mate.now in
    let A = g.R.Relation.allowed c.args.rel.now in
    let next = c.loop-next.next in
    let reached = c.in-Err.field-0.reached in
    let line = members_of c.place.new.tables.work.now in
    let after = members_of c.gather-count.new.self in
    let e : length c.take_free.new.mate ≡ n = omega (arith, c.take_free.auto.mate, c.loop-next.auto.mate, c.number.auto.mate) in
    let same : (k : ℕ) → k < n → c.loop-next.tables.block.now ! k ≡ 0 = λ k h. ap (λ (xs : List ℕ). xs ! k) c.loop-next.invariant.1 ∙ c.requires.united k h in
    let H : Hemmed (loose A (next + 1)) n next c.take_free.new.mate line reached =
    subst (λ (x : ℕ). Hemmed (loose A (next + 1)) x next c.take_free.new.mate line reached) e
    (c.in-Err.ensures.placed.0.hemmed (λ l h. (omega arith, same l (omega arith) ∙ sym (same next (omega arith))))) in
    let long : length c.number.new.mate ≡ n = c.number.auto.mate in
    let G : Gathered n reached line after = subst (λ (x : ℕ). Gathered x reached line after) long c.gather-count.ensures.gathered in
    let many : n - reached + 1 ≡ c.gather-count.result = omega (arith, long, c.gather-count.ensures.many) in
    subst (λ (x : ℕ). Blocking A n after x) many
    (blocking_loose A n (next + 1) after _ (loose_more A (next + 1)) (hemmed_blocks _ n _ _ _ after _ H G))
