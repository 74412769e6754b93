use Rattle.std.proofs.Common.{is_ok, ap, ◌∙◌, arith}
use Rattle.plan.proofs.Gives.{whole_kept, ends_both, upto_fresh, upto_more, still_regular, all_rows, counts_regular, matched, table_is}
use Rattle.plan.proofs.middles.fill.Goals as goal

pub unwrap-requires : goal.unwrap-requires
unwrap-requires c =
    let s = c.args.sides in
    let U = c.loop-row.invariant.0 in
    let W = whole_kept s _ _ (ends_both c.unplace.ensures.ends U.ends) c.requires.whole in
    c.first_matching.ensures.regular
    (counts_regular _ _ _ _ c.new-waiting.ensures.0
    (table_is s c.loop-row.routes c.loop-row.row _ _ _ c.new-waiting.ensures.0 c.new-waiting.ensures.1 c.tally.ensures)
    (still_regular s _ W c.loop-row.row U.rounds (omega (arith, c.matching_count-rows.ensures.count))))

pub give_row-requires : goal.give_row-requires
give_row-requires c =
    let s = c.args.sides in
    let U = c.loop-row.invariant.0 in
    let W = whole_kept s _ _ (ends_both c.unplace.ensures.ends U.ends) c.requires.whole in
    let t = s.tall in
    record {
      rows = λ i l. let z = (W.starts.inside i l).0 in omega arith;
      fresh = upto_fresh _ _ _ _ _ U (omega arith);
      perfect =
          (matched _ _ _ _ c.new-waiting.ensures.0
          (table_is s c.loop-row.routes c.loop-row.row _ _ _ c.new-waiting.ensures.0 c.new-waiting.ensures.1 c.tally.ensures)
          _ _ _ (ap is_ok c.unwrap.ensures) c.first_matching.ensures.answer).perfect;
    }

pub loop-row-preserved : goal.loop-row-preserved
loop-row-preserved c =
    let s = c.args.sides in
    let U = c.loop-row.invariant.0 in
    let F =
    matched _ _ _ _ c.new-waiting.ensures.0
    (table_is s c.loop-row.routes c.loop-row.row _ _ _ c.new-waiting.ensures.0 c.new-waiting.ensures.1 c.tally.ensures)
    _ _ _ (ap is_ok c.unwrap.ensures) c.first_matching.ensures.answer
    in
    let k = c.first_matching.ensures.kept in
    let was = c.loop-row.invariant.1 in (
      upto_more _ _ _ _ _ _ _ U (omega arith) F c.give_row.ensures,
      record {
        same_block = k.same_block ∙ was.same_block;
        block = k.block ∙ was.block;
        same_marks = k.same_marks ∙ was.same_marks;
        marks = k.marks ∙ was.marks;
        same_work = k.same_work ∙ was.same_work;
        room = k.room ∙ was.room;
      },
    )

pub returns : goal.returns
returns c =
    let s = c.args.sides in
    let U = c.loop-row.invariant.0 in
    let E = ends_both c.unplace.ensures.ends U.ends in
    record {
      ends = E;
      rows = all_rows s _ (whole_kept s _ _ E c.requires.whole) c.loop-row.row U.rounds (omega (arith, c.matching_count-rows.ensures.count));
      kept = c.loop-row.invariant.1;
    }
