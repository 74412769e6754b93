use Rattle.std.proofs.Common.{ℕ, List, vec_items, ◌∙◌, subst}
use Rattle.rules.specs.AnyRule.{any_meaning}
use Rattle.chain.specs.Chains.{Chain}
use Rattle.chain.specs.Sheets.{Event}
use Rattle.floor.specs.Shown.{shown}
use Rattle.serve.specs.Choices.{Choice}
use Rattle.serve.specs.Chosen.{Chooses}
use Rattle.serve.proofs.Playing.{marks_back, order_told}
use Rattle.serve.proofs.make_call.Goals as goal

pub returns-in-Order : goal.returns-in-Order
returns-in-Order g c =
    let rule = any_meaning c.in-Order.rule in
    let marks = c.in-Order.marks in
    let lent = c.deref_mut.ensures.value in
    let chosen = g.S.Source.chosen c.args.calls.now in
    order_told (shown c.args.floor.now) (shown c.order-answer.new.self) (g.D.Deck.view c.args.deck.now)
    (g.S.Source.account c.args.calls.now) (g.S.Source.account c.ordered.new.self)
    (λ (m : List ℕ). chosen (Choice.order rule m))
    rule c.order-answer.result (vec_items marks) c.deref_mut.result.now c.deref.result.now
    (subst (Chooses chosen) c.in-Order.is c.requires) lent
    (c.deref.ensures.value ∙ marks_back (vec_items marks) c.order-answer.new.marks marks.len marks.ok.0 (c.order-answer.ensures.marks ∙ lent))
    c.order-answer.ensures.ordered c.ordered.ensures

pub returns-in-Step : goal.returns-in-Step
returns-in-Step g c =
    let choice = subst (Chooses (g.S.Source.chosen c.args.calls.now)) c.in-Step.is c.requires in (
      Event.step c.step-answer.result,
      (λ o z es q chain. (q, Chain.stepped _ chain c.step-answer.ensures)),
      (λ es kept. c.stepped.ensures _ _ es kept choice c.step-answer.ensures),
    )

pub returns-in-Back : goal.returns-in-Back
returns-in-Back g c =
    let choice = subst (Chooses (g.S.Source.chosen c.args.calls.now)) c.in-Back.is c.requires in (
      Event.back c.back-answer.result,
      (λ o z es q chain. (q, Chain.backed _ chain c.back-answer.ensures)),
      (λ es kept. c.backed.ensures _ _ es kept choice c.back-answer.ensures),
    )
