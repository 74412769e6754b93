use Rattle.std.proofs.Common.{◌≡◌, List, Option, Result, IfErr, ok_or, length, vec_items, sym, ap, ◌∙◌, subst, arith, length-take}
use Rattle.std.proofs.lemmas.Option.{MatchOption-at_none, MatchOption-at_some}
use Rattle.std.proofs.lemmas.Result.{err_from_is_err_and}
use Rattle.grid.specs.declared.sides.Sides.{Sides}
use Rattle.grid.specs.Sides.{GoodSides, slot_count}
use Rattle.course.specs.declared.route.Route.{Route}
use Rattle.course.specs.Routes.{plan_of}
use Rattle.course.specs.Stages.{Staged, total_steps}
use Rattle.chain.specs.declared.fault.FloorFault.{FloorFault}
use Rattle.chain.specs.declared.fault.FloorFault.TheVariants.{BadSides, WrongDeck, OffSlot, NoMemory}
use Rattle.chain.specs.Floors.{FloorView, Sized}
use Rattle.chain.specs.Calls.{OpenRefused, Opening}
use Rattle.chain.proofs.Keeping.{every_chain}
use Rattle.floor.specs.Resting.{AllRest}
use Rattle.floor.proofs.Records.{few_slots}
use Rattle.floor.proofs.Openings.{at_sides, on_slots, rest_good, rest_opening}
use Rattle.floor.proofs.record.Floor.open.Goals as goal

pub returns-in_err-sides-clause-opened : goal.returns-in_err-sides-clause-opened
returns-in_err-sides-clause-opened g c =
    let p = err_from_is_err_and c.from_residual.result c.from_residual.ensures.1 in
    let e = c.in_err-sides.ensures in
    let refused = OpenRefused c.args.height c.args.width (g.D.Deck.view c.args.deck.now) in
    rw (p.1, p.2)
    (subst (λ (r : Result Sides FloorFault). IfErr r refused) (sym e.value)
    (subst (λ (o : Option Sides). IfErr (ok_or o BadSides) refused) (sym e.ok_part)
    (OpenRefused.bad_sides (MatchOption-at_none _ _ e.ok_part c.new.ensures))))

pub returns-then-not-is_sized-clause-opened : goal.returns-then-not-is_sized-clause-opened
returns-then-not-is_sized-clause-opened g c =
    let s = c.in_ok-sides.sides in
    let v = g.D.Deck.view c.args.deck.now in
    at_sides s c.args.height c.args.width (MatchOption-at_some _ _ _ c.in_ok-sides.ensures.ok_part c.new.ensures) (λ h w. OpenRefused h w v WrongDeck)
    (OpenRefused.wrong_deck (s.tall, s.wide) c.if-not-is_sized.ensures)

pub returns-in_err-rest_all-clause-opened : goal.returns-in_err-rest_all-clause-opened
returns-in_err-rest_all-clause-opened g c =
    let s = c.in_ok-sides.sides in
    let v = g.D.Deck.view c.args.deck.now in
    let p = err_from_is_err_and c.from_residual-in_err-rest_all.result c.from_residual-in_err-rest_all.ensures.1 in
    let why = c.in_err-rest_all.ensures in
    rw (p.1, p.2, why.0)
    (at_sides s c.args.height c.args.width (MatchOption-at_some _ _ _ c.in_ok-sides.ensures.ok_part c.new.ensures) (λ h w. OpenRefused h w v OffSlot)
    (OpenRefused.off_slot (s.tall, s.wide) c.if-not-is_sized.ensures why.1))

pub returns-in_err-routes-clause-opened : goal.returns-in_err-routes-clause-opened
returns-in_err-routes-clause-opened g c =
    let p = err_from_is_err_and c.from_residual-in_err-routes.result c.from_residual-in_err-routes.ensures.1 in
    let s = c.in_ok-sides.sides in
    let v = g.D.Deck.view c.args.deck.now in
    rw (p.1, p.2)
    (at_sides s c.args.height c.args.width (MatchOption-at_some _ _ _ c.in_ok-sides.ensures.ok_part c.new.ensures) (λ h w. OpenRefused h w v NoMemory)
    (OpenRefused.no_memory (s.tall, s.wide) c.if-not-is_sized.ensures
    (on_slots s.height s.width v c.rest_all.new.routes c.in_ok-rest_all.ensures)))

pub invariant_of-result : goal.invariant_of-result
invariant_of-result g c =
    let s = c.in_ok-sides.sides in
    let v = g.D.Deck.view c.args.deck.now in
    let n = slot_count s.height s.width in
    let few = few_slots s.height s.width (s.tall, s.wide) in
    let items = vec_items c.in_ok-routes.routes in
    let same = c.in_ok-routes.ensures.items_if_clones_equal (λ x y e. e) in
    let long : length items ≡ n = ap length same ∙ c.rest_all.auto.routes ∙ simp length-take (omega (arith, few)) in
    let all : AllRest s.height s.width v n items = subst (AllRest s.height s.width v n) (sym same) c.in_ok-rest_all.ensures in
    let staged : Staged (plan_of s.height s.width items) c.of-stages.result =
    subst (λ (rs : List Route). Staged (plan_of s.height s.width rs) c.of-stages.result) c.deref.ensures.value
    (c.of-stages.ensures s.height s.width) in
    let good = rest_good s.height s.width v items c.if-not-is_sized.ensures (g.D.Deck.sound c.args.deck.now) long all in
    record { many = long; good = good; staged = staged; within = omega arith }

pub returns : goal.returns
returns g c =
    let s = c.in_ok-sides.sides in
    let v = g.D.Deck.view c.args.deck.now in
    let n = slot_count s.height s.width in
    let few = few_slots s.height s.width (s.tall, s.wide) in
    let items = vec_items c.in_ok-routes.routes in
    let same = c.in_ok-routes.ensures.items_if_clones_equal (λ x y e. e) in
    let long : length items ≡ n = ap length same ∙ c.rest_all.auto.routes ∙ simp length-take (omega (arith, few)) in
    let all : AllRest s.height s.width v n items = subst (AllRest s.height s.width v n) (sym same) c.in_ok-rest_all.ensures in
    let staged : Staged (plan_of s.height s.width items) c.of-stages.result =
    subst (λ (rs : List Route). Staged (plan_of s.height s.width rs) c.of-stages.result) c.deref.ensures.value
    (c.of-stages.ensures s.height s.width) in
    let sound = g.D.Deck.sound c.args.deck.now in
    let view : FloorView = record { height = s.height; width = s.width; plan = plan_of s.height s.width items; done = 0; length = total_steps c.of-stages.result; orders = 0 } in
    let opened =
    at_sides s c.args.height c.args.width (MatchOption-at_some _ _ _ c.in_ok-sides.ensures.ok_part c.new.ensures)
    (λ h w. GoodSides h w × Sized h w v × Opening h w v view) (
      (s.tall, s.wide),
      c.if-not-is_sized.ensures,
      rest_opening s.height s.width v items c.if-not-is_sized.ensures sound long all c.of-stages.result staged,
    ) in
    record {
      opened = opened;
      every_chain = every_chain c.args.height c.args.width view v opened.0 opened.1 sound opened.2;
    }
