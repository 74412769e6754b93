use Rattle.std.proofs.Common.{ℕ, ◌≤◌, ◌-◌, Option, Result, SomeIff, ok_or, sym, refl, arith, subst}
use Rattle.std.proofs.lemmas.Result.{err_from_is_err_and}
use Rattle.chain.specs.declared.fault.FloorFault.{FloorFault}
use Rattle.chain.specs.declared.fault.FloorFault.TheVariants.{NoLastMove}
use Rattle.chain.specs.Calls.{Backed, BackRefused}
use Rattle.floor.specs.Shown.{shown}
use Rattle.floor.proofs.Records.{unchanged}
use Rattle.floor.proofs.Moves.{backed_by}
use Rattle.floor.proofs.record.Floor.back.Goals as goal

pub returns-in_err-step : goal.returns-in_err-step
returns-in_err-step g c =
    let p = err_from_is_err_and c.from_residual.result c.from_residual.ensures.1 in
    let e = c.in_err-step.ensures in
    let f = shown c.args.self.now in
    let v = g.D.Deck.view c.args.deck.now in
    let none = subst (λ (o : Option ℕ). SomeIff o (1 ≤ f.done) (f.done - 1)) e.ok_part c.checked_sub.ensures in
    rw (p.1, p.2)
    (subst (λ (r : Result ℕ FloorFault). Backed f v r f v) (sym e.value)
    (subst (λ (o : Option ℕ). Backed f v (ok_or o NoLastMove) f v) (sym e.ok_part) (BackRefused.no_last_move (omega (arith, none)) (unchanged _), refl)))

pub returns : goal.returns
returns g c =
    let f = shown c.args.self.now in
    let some = subst (λ (o : Option ℕ). SomeIff o (1 ≤ f.done) (f.done - 1)) c.in_ok-step.ensures.ok_part c.checked_sub.ensures in
    backed_by _ _ _ _ _ _ (omega (arith, some)) c.move_on.ensures
