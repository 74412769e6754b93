use Rattle.std.proofs.Common.{◌≡◌, sym, ap, ◌∙◌, arith, rules, eqb-true}
use borrow.Author.Tests.{eqb-false}
use Rattle.course.specs.Upright.{upright_heading, on_deck}
use Rattle.course.proofs.Headings.{still, goes_aside, goes_along, goes_back, done, in_run, seen}
use Rattle.course.proofs.route.Route.heading.Goals as goal
use Rattle.course.proofs.route.Route.heading.Goals.{in-Turn-default, in_default, in_default-eq0, in_default-2, in_default-3, in_default-4}

pub returns : goal.returns
returns c p k h =
    let from = c.run-run.result.from in
    let to = c.run-run.result.to in
    let t = c.args.moment.progress in
    let upright : c.match-stage.upright ≡ upright_heading c.args.moment.stage c.args.self.now t =
    elim c.match-stage.branch [
      | in-Turn-default w ↦ search rules
      | in_default w ↦ w.upright-is ∙ sym (still from to t (eqb-true from to (sym w.is_still.ensures ∙ w.if-is_still.true))) ∙ in_run _ _ t from to c.run-run.ensures.from c.run-run.ensures.to w.in_default.not-Turn-0 w.in_default.not-TurnBack-0
      | in_default-eq0 w ↦ w.upright-is ∙ w.aside-upright.ensures ∙ sym (goes_aside from to t (eqb-false from to (sym w.is_still.ensures ∙ w.if-is_still.false)) w.in_default-eq0.is-1) ∙ in_run _ _ t from to c.run-run.ensures.from c.run-run.ensures.to w.in_default.not-Turn-0 w.in_default.not-TurnBack-0
      | in_default-2 w ↦ w.upright-is ∙ w.along-upright.ensures ∙ sym (goes_along from to t (search rules) (omega arith)) ∙ in_run _ _ t from to c.run-run.ensures.from c.run-run.ensures.to w.in_default.not-Turn-0 w.in_default.not-TurnBack-0
      | in_default-3 w ↦ w.upright-is ∙ w.back-upright.ensures ∙ sym (goes_back from to t (eqb-false from to (sym w.is_still.ensures ∙ w.if-is_still.false)) (omega arith)) ∙ in_run _ _ t from to c.run-run.ensures.from c.run-run.ensures.to w.in_default.not-Turn-0 w.in_default.not-TurnBack-0
      | in_default-4 w ↦ w.upright-is ∙ sym (done from to t (search rules)) ∙ in_run _ _ t from to c.run-run.ensures.from c.run-run.ensures.to w.in_default.not-Turn-0 w.in_default.not-TurnBack-0
    ] in
    c.on_deck.ensures ∙ ap (on_deck c.args.moment.stage) upright ∙ seen c.args.moment.stage c.args.self.now p k h t
