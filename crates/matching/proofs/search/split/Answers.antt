use Rattle.std.proofs.Common.{arith}
use Rattle.matchings.proofs.Lines.{split_more}
use Rattle.matching.proofs.Rooms.{member_at}
use Rattle.matching.proofs.search.split.Goals as goal

pub offset_bounds-block-entry : goal.offset_bounds-block-entry
offset_bounds-block-entry c =
    let e = member_at c.args.at_hand.now c.loop-entry.entry-index (omega arith) in
    let b = c.requires c.loop-entry.entry-index (omega arith) in
    omega arith

pub bounds-block-entry : goal.bounds-block-entry
bounds-block-entry c =
    let e = member_at c.args.at_hand.now c.loop-entry.entry-index (omega arith) in
    let b = c.requires c.loop-entry.entry-index (omega arith) in
    omega arith

pub loop-entry-preserved : goal.loop-entry-preserved
loop-entry-preserved c =
    let e = member_at c.args.at_hand.now c.loop-entry.entry-index (omega arith) in
    let b = c.requires c.loop-entry.entry-index (omega arith) in
    split_more _ _ _ _ _ _ e (omega arith) c.loop-entry.invariant
