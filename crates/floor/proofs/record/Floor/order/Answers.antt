use Rattle.std.proofs.Common.{◌≡◌, ℕ, ◌<◌, List, length, vec_items, sym, refl, ap, ◌∙◌, subst, arith, length-take}
use Rattle.std.proofs.lemmas.Result.{err_from_is_err_and}
use Rattle.grid.specs.declared.sides.Sides.{Sides}
use Rattle.grid.specs.Sides.{slot_count}
use Rattle.motion.specs.Plans.{Plan}
use Rattle.course.specs.declared.route.Route.{Route}
use Rattle.course.specs.Routes.{route_at, plan_of}
use Rattle.planning.specs.Planned.{Planned}
use Rattle.plan.specs.Making.{start_square}
use Rattle.chain.specs.Calls.{OrderRefused}
use Rattle.floor.specs.Present.{present}
use Rattle.floor.specs.Shown.{plan_in, kept}
use Rattle.floor.proofs.Records.{few_slots}
use Rattle.floor.proofs.Orders.{starts_in_slots, starts_shown, planned_at}
use Rattle.floor.proofs.record.Floor.order.Goals as goal

pub returns-in_err-may_order-clause-ordered : goal.returns-in_err-may_order-clause-ordered
returns-in_err-may_order-clause-ordered g c =
    let p = err_from_is_err_and c.from_residual.result c.from_residual.ensures.1 in
    rw (p.1, p.2) (c.in_err-may_order.ensures, refl)

pub make_plan-requires : goal.make_plan-requires
make_plan-requires g c =
    let f = c.args.self.now in
    let starts = c.write_starts.new.starts in
    let many = f.many in
    let few = few_slots f.sides.height f.sides.width (kept f).sides in
    let long : length starts ≡ slot_count f.sides.height f.sides.width = c.write_starts.auto.starts ∙ simp length-take (omega (arith, few)) in
    let asked = c.in_ok-may_order.ensures in
    let here : (x : ℕ) → x < length (vec_items f.routes) → (route_at starts x).start ≡ present f.steps_done (route_at (vec_items f.routes) x) =
    subst
    (λ (rs : List Route). (x : ℕ) → x < length rs → (route_at starts x).start ≡ present f.steps_done (route_at rs x))
    c.deref.ensures.value c.write_starts.ensures in
    record {
      rule = asked.rule_for;
      size = (long, omega (arith, asked.enough));
      clear = λ k l. asked.clean k (omega arith);
      starts = starts_in_slots f starts long here;
    }

pub returns-clause-ordered : goal.returns-clause-ordered
returns-clause-ordered g c =
    let f = c.args.self.now in
    let h = f.sides.height in
    let w = f.sides.width in
    let n = slot_count h w in
    let v = g.D.Deck.view c.args.deck.now in
    let r = g.R.Rule.meaning c.args.rule.now in
    let starts = c.write_starts.new.starts in
    let routes = c.make_plan.new.routes in
    let after = c.take_on.new.self in
    let few = few_slots h w (kept f).sides in
    let long : length starts ≡ n = c.write_starts.auto.starts ∙ simp length-take (omega (arith, few)) in
    let here : (x : ℕ) → x < length (vec_items f.routes) → (route_at starts x).start ≡ present f.steps_done (route_at (vec_items f.routes) x) =
    subst
    (λ (rs : List Route). (x : ℕ) → x < length rs → (route_at starts x).start ≡ present f.steps_done (route_at rs x))
    c.deref.ensures.value c.write_starts.ensures in
    let asked = c.in_ok-may_order.ensures in
    let answer = c.in-Ok.ensures.answer in
    let planned : Planned r h w v.square (plan_of h w routes) =
    planned_at r h w (start_square starts) v.square (plan_of h w routes) answer.1
    (λ x l. starts_shown f starts long here v asked.at_rest asked.stands x (omega (arith, answer.0.long))) in
    let plan-same : plan_in after ≡ plan_of h w routes =
    ap (λ (s : Sides). plan_of s.height s.width (vec_items after.routes)) c.take_on.ensures.sides
    ∙ ap (λ (rs : List Route). plan_of h w rs) c.take_on.ensures.routes in
    record {
      at_rest = asked.at_rest;
      enough = asked.enough;
      clean = asked.clean;
      stands = asked.stands;
      rule_for = asked.rule_for;
      height = ap (λ (s : Sides). s.height) c.take_on.ensures.sides;
      width = ap (λ (s : Sides). s.width) c.take_on.ensures.sides;
      planned = subst (λ (p : Plan). Planned r h w v.square p) (sym plan-same) planned;
      answer = c.total.ensures.whole (plan_in after) after.staged;
      length = sym c.total.ensures.sum;
      done = c.take_on.ensures.done;
      orders = c.take_on.ensures.orders;
    }

pub returns-in_default-clause-ordered : goal.returns-in_default-clause-ordered
returns-in_default-clause-ordered g c =
    let asked = c.in_ok-may_order.ensures in (
      OrderRefused.unfillable asked.at_rest asked.enough asked.clean asked.stands asked.rule_for
          (λ x. c.in_default.ensures.answer.1.none x.0 x.1),
      refl,
    )
