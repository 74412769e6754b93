use Rattle.std.proofs.Common.{◌≡◌, ℕ, List, take, drop, sym, refl, ap, ◌∙◌, subst, inl, inr}
use Rattle.std.proofs.lemmas.Result.{err_from_is_err_and}
use Rattle.rules.specs.Entries.{GoodKinds}
use Rattle.orderfile.specs.Records.{Lists, kinds, GoodEntries}
use Rattle.orderfile.specs.Orders.{rule_lists}
use Rattle.orderfile.specs.Reading.{Held, entries_in}
use Rattle.orderfile.specs.declared.rule_name.RuleName.TheVariants.{Kind}
use Rattle.orderfile.proofs.RoundTrip.{kinds_same}
use Rattle.orderfile.proofs.Reading.{entries_of, kinds_in}
use Rattle.orderfile.proofs.read.read_kinds.Goals as goal

pub returns-then-not-all_kinds_exist : goal.returns-then-not-all_kinds_exist
returns-then-not-all_kinds_exist c =
    let bad = subst (λ (ks : List ℕ). GoodKinds ks → ⊥) c.split_at.ensures.front c.if-not-all_kinds_exist.ensures in
    (_, kinds_in c.args.slots c.args.body.now (λ i. (c.type_inv.body i).fits) c.requires, inl (refl, bad))

pub returns-in_err-kinds : goal.returns-in_err-kinds
returns-in_err-kinds c =
    let good = subst GoodKinds c.split_at.ensures.front c.if-not-all_kinds_exist.ensures in
    let p = err_from_is_err_and c.from_residual.result c.from_residual.ensures.1 in
    rw (p.1, p.2) (_, kinds_in c.args.slots c.args.body.now (λ i. (c.type_inv.body i).fits) c.requires, inr (refl, good))

pub returns : goal.returns
returns c =
    let n = c.args.slots in
    let body = c.args.body.now in
    let good = subst GoodKinds c.split_at.ensures.front c.if-not-all_kinds_exist.ensures in
    let ks = c.in_ok-new.ensures.0 ∙ c.in_ok-kinds.ensures.0 ∙ c.split_at.ensures.front in
    let masks = c.in_ok-new.ensures.1 ∙ c.in_ok-kinds.ensures.1 ∙ ap entries_in c.as_chunks.ensures.front ∙ ap entries_of c.split_at.ensures.back in
    let is : rule_lists c.into.result ≡ kinds (take n body) (entries_of (drop n body)) =
    ap rule_lists c.into.ensures ∙ kinds_same _ _ _ _ ks masks in
    subst (λ (l : Lists). Held Kind n body l × GoodEntries l) (sym is)
    (kinds_in n body (λ i. (c.type_inv.body i).fits) c.requires, good)
