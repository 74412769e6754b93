use Rattle.std.proofs.Common.{ℕ, ◌<◌, length, MatchBool, Bool, true, false, List, arith, rules, tests}
use Rattle.std.specs.List.{HoldsAt, AllWithin}
use Rattle.std.proofs.lemmas.Iterator.{cases_from_any, YieldsList-from_slice}
use Rattle.grid.specs.Squares.{Remains}
use Rattle.deck.specs.Decks.{SomeLeaves, AllRemain}
use Rattle.decklists.specs.declared.carrier.Carrier.{Carrier}
use Rattle.decklists.specs.declared.extent.Extent.{Extent}
use Rattle.decklists.specs.Lists.{nobody, listed}
use Rattle.decklists.proofs.carriers.Carriers.some_leaves.Goals as goal

told : (e : Extent) (cs : List Carrier) (b : Bool) → MatchBool b ((k : ℕ) × (k < length cs) × HoldsAt (λ c. Remains e.rows e.columns c.square c.heading → ⊥) cs k) (AllWithin (λ c. Remains e.rows e.columns c.square c.heading) cs 0 (length cs)) → MatchBool b (SomeLeaves (listed e cs true)) (AllRemain (listed e cs true))
told e cs true (k, l, h) = (k, l, h nobody)
told e cs false h = λ k l. h k nobody (omega arith) l

pub returns : goal.returns
returns c =
    let e = c.args.self.now.extent in
    let cs = c.args.self.now.list.items in
    told e cs c.any.result (cases_from_any _ _ _ (λ c. Remains e.rows e.columns c.square c.heading → ⊥) (λ c. Remains e.rows e.columns c.square c.heading) c.any.ensures.ran (YieldsList-from_slice cs cc) (λ x q k. search (rules, tests)) (λ x q k. search (rules, tests)))
