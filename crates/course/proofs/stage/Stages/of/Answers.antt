use Rattle.std.proofs.Common.{◌≡◌, ℕ, ◌*◌, cond, eqb, sym, ap, ◌∙◌, rules}
use Rattle.motion.specs.Runs.{away}
use Rattle.motion.specs.Plans.{Plan, run_steps, furthest, start_row, start_bay, goal_row, goal_bay}
use Rattle.motion.proofs.Lengths.{rows_far}
use Rattle.course.specs.Routes.{plan_of}
use Rattle.course.proofs.Courses.{greatest_listed}
use Rattle.course.proofs.stage.Stages.of.Goals as goal

pub returns : goal.returns
returns c height width =
    let routes = c.args.routes.now in
    let p : Plan = plan_of height width routes in
    let first : c.greatest-first.result ≡ furthest p.carriers (start_row p) p.middle =
    c.greatest-first.ensures (λ r. away r.start.row r.middle_row) (λ r n k. search rules) ∙ greatest_listed _ routes in
    let across : c.greatest-across.result ≡ furthest p.carriers (start_bay p) (goal_bay p) =
    c.greatest-across.ensures (λ r. away r.start.bay r.goal.bay) (λ r n k. search rules) ∙ greatest_listed _ routes in
    let last : c.greatest-last.result ≡ furthest p.carriers p.middle (goal_row p) =
    c.greatest-last.ensures (λ r. away r.middle_row r.goal.row) (λ r n k. search rules) ∙ greatest_listed _ routes in
    let turn : ℕ → ℕ = λ n. cond (eqb n 0) 0 2 in
    record {
      first_columns = c.steps_of_runs.ensures ∙ ap run_steps (c.from.ensures ∙ first);
      turn = c.steps_of_turn.ensures ∙ ap turn across;
      rows =
          c.steps_of_runs-2.ensures
          ∙ ap (λ (n : ℕ). run_steps (3 * n)) (c.from-2.ensures ∙ across)
          ∙ sym (ap run_steps (rows_far p));
      turn_back = c.steps_of_turn-2.ensures ∙ ap turn across;
      last_columns = c.steps_of_runs-3.ensures ∙ ap run_steps (c.from-3.ensures ∙ last);
    }
