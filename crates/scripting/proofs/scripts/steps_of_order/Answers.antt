use Rattle.std.proofs.Common.{refl, sym, subst}
use Rattle.std.proofs.lemmas.Result.{err_from_is_err_and}
use Rattle.roster.specs.Rosters.{roster_view, roster_sound}
use Rattle.floor.specs.Shown.{shown}
use Rattle.orderfile.specs.Records.{OrderView, GoodOrder}
use Rattle.orderfile.specs.Orders.{shown as order-shown}
use Rattle.scripting.specs.Writing.{AtHome}
use Rattle.scripting.proofs.Beginning.{not_opened, at_home, account_begins}
use Rattle.scripting.proofs.scripts.steps_of_order.Goals as goal

pub returns-in_err-floor : goal.returns-in_err-floor
returns-in_err-floor g c =
    let o = order-shown c.args.order in
    let good = subst GoodOrder (sym c.requires.order) c.requires.good in
    let p = err_from_is_err_and c.from_residual-in_err-floor.result c.from_residual-in_err-floor.ensures.1 in
    rw (p.1, p.2)
    (not_opened o.height o.width (roster_view c.in_ok-deck.deck) good.sides c.in_ok-deck.ensures.1 g.K.Task.order
    c.in_err-floor.field-0.0 _ c.in_err-floor.ensures.opened refl)

pub played-requires : goal.played-requires
played-requires g c =
    let o = order-shown c.args.order in
    let good = subst GoodOrder (sym c.requires.order) c.requires.good in
    let f = shown c.in_ok-floor.floor in
    let deck = c.in_ok-deck.deck in
    let v = roster_view deck in
    let home = at_home o f v good.sides (roster_sound deck) c.in_ok-deck.ensures.1 c.in_ok-floor.ensures.opened.2 in
    account_begins c.in_ok-writer.writer.page g.K.Task.order f v c.in_ok-writer.ensures
    (subst (λ (x : OrderView). AtHome x f v) c.requires.order home)
