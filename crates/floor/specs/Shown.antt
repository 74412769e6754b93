-- What a floor record shows a reader, and what every one keeps.
use Rattle.std.specs.Prelude.{Ok, Err, vec_items, Result, refl}
use Rattle.std.proofs.Common.{arith}
use Rattle.motion.specs.Plans.{Plan, whole}
use Rattle.course.specs.Routes.{plan_of}
use Rattle.course.specs.Stages.{total_steps}
use Rattle.chain.specs.Floors.{FloorView, Kept}
use Rattle.chain.specs.declared.fault.FloorFault.{FloorFault}
use Rattle.floor.specs.declared.record.Floor.{Floor}

abbrev pub plan_in : Floor → Plan
plan_in f = plan_of f.sides.height f.sides.width (vec_items f.routes)

abbrev pub shown : Floor → FloorView
shown f =
    record {
      height = f.sides.height;
      width = f.sides.width;
      plan = plan_in f;
      done = f.steps_done;
      length = total_steps f.stages;
      orders = f.orders;
    }

abbrev pub shown_answer : Result Floor FloorFault → Result FloorView FloorFault
shown_answer (Ok f) = Ok (shown f)
shown_answer (Err e) = Err e

-- every record keeps what a floor record is to keep
pub kept : (f : Floor) → Kept (shown f)
unfolding whole
kept f =
    let st = f.staged in
    record {
      sides = (f.sides.tall, f.sides.wide);
      height = refl;
      width = refl;
      carriers = f.many;
      good = f.good;
      length = omega (arith, st.first_columns, st.turn, st.rows, st.turn_back, st.last_columns);
      within = f.within;
    }
