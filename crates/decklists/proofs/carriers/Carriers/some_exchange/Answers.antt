use Rattle.std.proofs.Common.{◌≡◌, ◌≢◌, ℕ, ◌<◌, length, get_or, MatchBool, Bool, true, false, refl, subst, ⊎_elim, arith, rules, tests}
use Rattle.std.specs.List.{HoldsAt, AllWithin, range_with_len}
use Rattle.std.proofs.lemmas.Bool.{cases_lt}
use Rattle.std.proofs.lemmas.List.FromFn.{length-range_with_len, get_or-range_with_len}
use Rattle.std.proofs.lemmas.Iterator.{cases_from_any, YieldsList-from_range}
use Rattle.deck.specs.Decks.{DeckView, Exchanges, SomeExchange, NoneExchange}
use Rattle.decklists.specs.Carriers.{carriers_view}
use Rattle.decklists.proofs.carriers.Carriers.some_exchange.Goals as goal

-- carrier k exchanges with some other, or with none
abbrev Some : DeckView → ℕ → Type 0
Some v k = k < v.carriers → (j : ℕ) × (j < v.carriers) × (j ≢ k) × Exchanges v j k

abbrev None : DeckView → ℕ → Type 0
None v k = k < v.carriers → (j : ℕ) → j < v.carriers → (j ≢ k) → Exchanges v j k → ⊥

in_order : (v : DeckView) (b : Bool) (n : ℕ) → n ≡ v.carriers → MatchBool b ((k : ℕ) × (k < length (range_with_len 0 n)) × HoldsAt (Some v) (range_with_len 0 n) k) (AllWithin (None v) (range_with_len 0 n) 0 (length (range_with_len 0 n))) → MatchBool b (SomeExchange v) (NoneExchange v)
in_order v true n e (k, l, h) =
    let few : k < n = omega (arith, length-range_with_len 0 n) in
    let is = get_or-range_with_len 0 n k 0 few in
    let (j, jl, ne, x) = h 0 (omega arith) in
    ⊎_elim
    (λ (o : j < get_or (range_with_len 0 n) k 0). (j, get_or (range_with_len 0 n) k 0, o, omega arith, x))
    (λ o. (get_or (range_with_len 0 n) k 0, j, omega arith, jl, (x.1, x.0)))
    (cases_lt j (get_or (range_with_len 0 n) k 0))
in_order v false n e h = λ j k jk l x.
    (let few : k < n = omega arith in
    let is : get_or (range_with_len 0 n) k 0 ≡ k = omega (arith, get_or-range_with_len 0 n k 0 few) in
    let none : None v k = subst (None v) is (h k 0 (omega arith) (omega (arith, length-range_with_len 0 n))) in
    let ne : j ≢ k = omega arith in
    none l j (omega arith) ne x)

pub returns : goal.returns
returns c =
    let v = carriers_view c.args.self.now in
    in_order v c.any.result c.len.result (omega (arith, c.args.self.now.list.ok.0))
    (cases_from_any _ _ c.any.result (Some v) (None v) c.any.ensures.ran (YieldsList-from_range 0 c.len.result c.len.result refl (omega arith)) (λ x q k. search (rules, tests)) (λ x q k. search (rules, tests)))
