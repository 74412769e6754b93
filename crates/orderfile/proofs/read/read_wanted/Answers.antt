use Rattle.std.proofs.Common.{◌≡◌, ℕ, List, sym, refl, ap, ◌∙◌, subst, inl, inr}
use Rattle.std.proofs.lemmas.Result.{err_from_is_err_and}
use Rattle.rules.specs.Entries.{GoodWanted}
use Rattle.orderfile.specs.Records.{Lists, numbers, GoodEntries}
use Rattle.orderfile.specs.Orders.{rule_lists}
use Rattle.orderfile.specs.Reading.{Held, entries_in}
use Rattle.orderfile.specs.declared.rule_name.RuleName.TheVariants.{Number}
use Rattle.orderfile.proofs.Reading.{Bytes, PairsBelow, pairs_of, entries_of, wanted_in, wanted_good, pairs_below, length_wanted}
use Rattle.orderfile.proofs.read.read_wanted.Goals as goal

pub returns-then-not-all_entries_below : goal.returns-then-not-all_entries_below
returns-then-not-all_entries_below c =
    let n = c.args.slots in
    let body = c.args.body.now in
    let small : Bytes body = λ i. (c.type_inv.body i).fits in
    let bad : GoodWanted (entries_of body) → ⊥ =
    λ good.
    let all : PairsBelow n (pairs_of body) = pairs_below n (pairs_of body) (length_wanted n body small c.requires) good in
    let no = c.if-not-all_entries_below.ensures.1 (subst (λ (ps : List (List ℕ)). PairsBelow n ps) (sym c.as_chunks.ensures.front) all) in
    cc in
    (_, wanted_in n body small c.requires, inl (refl, bad))

pub returns-in_err-wanted : goal.returns-in_err-wanted
returns-in_err-wanted c =
    let n = c.args.slots in
    let body = c.args.body.now in
    let small : Bytes body = λ i. (c.type_inv.body i).fits in
    let all = subst (λ (ps : List (List ℕ)). PairsBelow n ps) c.as_chunks.ensures.front (c.if-not-all_entries_below.ensures.0 refl) in
    let good = wanted_good n (pairs_of body) (length_wanted n body small c.requires) all in
    let p = err_from_is_err_and c.from_residual.result c.from_residual.ensures.1 in
    rw (p.1, p.2) (_, wanted_in n body small c.requires, inr (refl, good))

pub returns-in_err-new : goal.returns-in_err-new
returns-in_err-new c =
    let n = c.args.slots in
    let body = c.args.body.now in
    let small : Bytes body = λ i. (c.type_inv.body i).fits in
    let is = c.in_ok-wanted.ensures.1 ∙ ap entries_in c.as_chunks.ensures.front in
    let bad = subst (λ (es : List ℕ). GoodWanted es → ⊥) is c.in_err-new.ensures in
    let p = err_from_is_err_and c.from_residual-in_err-new.result c.from_residual-in_err-new.ensures.1 in
    rw (p.1, p.2) (_, wanted_in n body small c.requires, inl (refl, bad))

pub returns : goal.returns
returns c =
    let n = c.args.slots in
    let body = c.args.body.now in
    let small : Bytes body = λ i. (c.type_inv.body i).fits in
    let all = subst (λ (ps : List (List ℕ)). PairsBelow n ps) c.as_chunks.ensures.front (c.if-not-all_entries_below.ensures.0 refl) in
    let good = wanted_good n (pairs_of body) (length_wanted n body small c.requires) all in
    let is : rule_lists c.into.result ≡ numbers (entries_of body) =
    ap rule_lists c.into.ensures
    ∙ ap numbers (c.in_ok-new.ensures ∙ c.in_ok-wanted.ensures.1 ∙ ap entries_in c.as_chunks.ensures.front) in
    subst (λ (l : Lists). Held Number n body l × GoodEntries l) (sym is) (wanted_in n body small c.requires, good)
