use Rattle.std.proofs.Common.{◌≡◌, ℕ, ◌+◌, ◌-◌, ◌<◌, ◌≤◌, List, Bool, true, Option, Some, None, length, take, drop, map, ap, sym, ◌∙◌, arith, rules, tests}
use Rattle.std.specs.List.{HoldsAt, AllWithin}
use Rattle.std.specs.Option.{MatchOption, option_map}
use Rattle.std.proofs.lemmas.Iterator.{IsFirst-from_position, YieldsList-from_slice}
use Rattle.std.proofs.lemmas.Iterator.Adapters.{serves_from_places}
use Rattle.matchings.specs.Matchings.{◌!◌}
use Rattle.matchings.specs.Reaching.{loose, Joins}
use Rattle.matching.specs.WorkLists.{member_of}
use Rattle.matching.specs.declared.work_list.Entry.{Entry}
use Rattle.matching.proofs.Rooms.{empty, after_at}
use Rattle.matching.proofs.reaching.find.Goals as goal

-- the place of an entry, where the first c entries are gone over from the place a on
joined : (can : ℕ → Bool) (mate : List ℕ) (es f : List Entry) (c a : ℕ) (r : Option ℕ) → f ≡ take c es → c ≤ length es
    → MatchOption r (AllWithin (λ (x : Entry). Unit {0}) (take (length f - a) (drop a f)) 0 (length (take (length f - a) (drop a f))))
    (λ i. (i < length (take (length f - a) (drop a f))) × HoldsAt (λ (x : Entry). can (mate ! x.member) ≡ true) (take (length f - a) (drop a f)) i × AllWithin (λ (x : Entry). Unit {0}) (take (length f - a) (drop a f)) 0 i)
    → Joins can mate (map member_of es) c (option_map (λ k. a + k) r)
joined can mate es f c a None is fits h = tt
joined can mate es f c a (Some i) is fits h =
    let e = after_at es f c a i empty is fits h.0 in
    (e.0, ap (λ (m : ℕ). can (mate ! m)) (sym e.1) ∙ h.1 empty)

pub position-requires-clause-callable : goal.position-requires-clause-callable
position-requires-clause-callable g c =
    let f : List Entry = c.first.result.now in
    serves_from_places (YieldsList-from_slice (take (length f - c.args.from) (drop c.args.from f)) cc) (λ x q k. search (rules, tests))
    (λ x k h e.
    (let a = after_at c.args.work.now.entries.now f c.args.to c.args.from k x.now c.first.ensures (omega arith) h in
    let b = c.requires.below (c.args.from + k) a.0 in
    let m : x.now.member < length c.args.mate.now = omega (arith, ap member_of e ∙ a.1) in
    let n = c.requires.seated.inj.below x.now.member m in
    search rules))

pub returns : goal.returns
returns g c =
    let f : List Entry = c.first.result.now in
    let can = loose (g.R.Relation.allowed c.args.quest.now.rel.now) c.args.quest.now.wild c.args.goal in
    let first = IsFirst-from_position _ _ c.position.result (λ (x : Entry). can (c.args.mate.now ! x.member) ≡ true) (λ x. Unit {0}) c.position.ensures.ran (YieldsList-from_slice (take (length f - c.args.from) (drop c.args.from f)) cc) (λ x q k. search (rules, tests)) (λ x q k. search (rules, tests)) in
    let e : c.map.result ≡ option_map (λ k. c.args.from + k) c.position.result = search (rules, tests) in
    rw e (joined can c.args.mate.now c.args.work.now.entries.now f c.args.to c.args.from c.position.result c.first.ensures (omega arith) first)
