use Rattle.std.proofs.Common.{arith}
use Rattle.matchings.proofs.Rotation.{mid_step, mid_end}
use Rattle.matching.proofs.placing.rotate.Goals as goal

pub loop-k-preserved : goal.loop-k-preserved
loop-k-preserved c = (
  omega (arith, c.requires.rank c.loop-k.k (omega arith) (omega arith), c.parent-k.ensures),
  omega (arith, c.requires.below c.loop-k.k (omega arith), c.member-next.ensures, c.swap.ensures.len),
  λ A fixed marks R o t. mid_step A _ fixed _ _ _ _ marks _ _ R (omega arith) _ _ _ (c.loop-k.invariant.2 A fixed marks R o t) _ _ _
      c.member-next.ensures c.parent-k.ensures (omega arith) (omega arith)
      (c.swap.ensures.by_index.0 0) (c.swap.ensures.by_index.1 0) (λ j. c.swap.ensures.by_index.2 j 0),
)

pub returns : goal.returns
returns c A fixed marks R o t = mid_end A _ fixed _ _ _ _ marks _ _ R (omega arith) _ _ _ (c.loop-k.invariant.2 A fixed marks R o t) (omega arith)
