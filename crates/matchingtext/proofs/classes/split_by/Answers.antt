use Rattle.std.proofs.Common.{length, sym, refl, ◌∙◌, arith}
use Rattle.std.proofs.lemmas.List.{set-get_or}
use Rattle.matchings.specs.Matchings.{◌!◌}
use Rattle.matchingtext.specs.Classes.{one}
use Rattle.matchingtext.proofs.Splitting.{split_keeps, split_moves, differ, agree}
use Rattle.matchingtext.proofs.classes.split_by.Goals as goal
use Rattle.matchingtext.proofs.classes.split_by.Goals.{then-is_one, else-is_one}

pub loop-c-preserved : goal.loop-c-preserved
loop-c-preserved c =
    let row = c.args.row.now in
    let i = c.loop-c.c in
    let class = c.loop-c.classes ! i in
    let below = c.requires.below i (omega arith) in
    let here = c.is_one.ensures in
    let there = c.is_one-in-loop-c.ensures in
    elim c.if-is_one.branch [
      | then-is_one w ↦ simp (w.classes-is, w.twins-is)
          (split_moves (one row) (length row) c.args.classes.now c.loop-c.classes c.loop-c.twins i class c.loop-c.invariant (omega arith) (omega arith) refl below
          (omega arith) (λ e. differ _ _ w.if-is_one.true (here ∙ e ∙ sym there)) _ w.unwrap_or-twin.ensures)
      | else-is_one w ↦ simp (w.classes-is, w.twins-is, set-get_or)
          (split_keeps (one row) (length row) c.args.classes.now c.loop-c.classes c.loop-c.twins i class c.loop-c.invariant (omega arith) (omega arith) refl below
          (sym here ∙ agree _ _ w.if-is_one.false ∙ there))
    ]
