use Rattle.std.proofs.Common.{ℕ, List, ap, ◌∙◌, arith}
use Rattle.matchings.specs.Matchings.{◌!◌}
use Rattle.planning.proofs.Plans.{plan_is_unique}
use Rattle.plan.proofs.Sizes.{bays_fit}
use Rattle.plan.proofs.Made.{whole_of, starts_stand, made, made_shuffles}
use Rattle.plan.proofs.make.make_plan.Goals as goal

pub give_middle_rows-requires : goal.give_middle_rows-requires
give_middle_rows-requires g c =
    let s = c.args.sides in
    let A = c.in_ok-assign.ensures in
    let few = bays_fit s.height s.width s.tall in
    record {
      marks = (
        omega (arith, c.requires.size, c.assign.auto.marks),
        λ k l. ap (λ (x : List ℕ). x ! k) A.marks ∙ c.requires.clear k (omega (arith, c.requires.size)),
      );
      whole = whole_of s _ _ _ A.starts c.requires.size.0 c.requires.starts A.assigned;
    }

pub returns-in_err-assign-clause-unique : goal.returns-in_err-assign-clause-unique
returns-in_err-assign-clause-unique g c = plan_is_unique

pub returns : goal.returns
returns g c =
    let s = c.args.sides in
    let A = c.in_ok-assign.ensures in
    let M = c.give_middle_rows.ensures in
    record {
      answer = (
        starts_stand s _ _ _ A.starts c.requires.size.0 c.requires.starts A.assigned _ M.ends M.rows,
        made s _ _ _ A.starts c.requires.size.0 c.requires.starts A.assigned _ M.ends M.rows,
        made_shuffles s _ _ _ A.starts c.requires.size.0 c.requires.starts A.assigned _ M.ends M.rows,
      );
      unique = plan_is_unique;
      marks = M.marks ∙ A.marks;
    }
