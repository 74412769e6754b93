use Rattle.std.proofs.Common.{ℕ, subst, arith}
use Rattle.chain.specs.Calls.{RuleFor, OrderRefused}
use Rattle.floor.proofs.Orders.{clean_whole, clean_front}
use Rattle.floor.proofs.record.Floor.may_order.Goals as goal

pub returns-then-not-is_at_rest : goal.returns-then-not-is_at_rest
returns-then-not-is_at_rest g c = OrderRefused.unfinished c.if-not-is_at_rest.ensures

pub returns-then-marks-slots : goal.returns-then-marks-slots
returns-then-marks-slots g c = OrderRefused.few_marks c.if-not-is_at_rest.ensures (omega arith)

pub returns-then-not-are_clean : goal.returns-then-not-are_clean
returns-then-not-are_clean g c =
    OrderRefused.dirty_marks c.if-not-is_at_rest.ensures (omega arith)
    (λ clean. c.if-not-are_clean.ensures (clean_front c.args.marks.now _ c.slots-slots.result c.slots-slots.ensures (omega arith) clean))

pub returns-then-not-stands : goal.returns-then-not-stands
returns-then-not-stands g c =
    OrderRefused.astray c.if-not-is_at_rest.ensures (omega arith)
    (clean_whole c.args.marks.now _ c.slots-slots.result c.slots-slots.ensures (omega arith) c.if-not-are_clean.ensures)
    c.if-not-stands.ensures

pub returns-then-not-is_for : goal.returns-then-not-is_for
returns-then-not-is_for g c =
    OrderRefused.wrong_rule c.if-not-is_at_rest.ensures (omega arith)
    (clean_whole c.args.marks.now _ c.slots-slots.result c.slots-slots.ensures (omega arith) c.if-not-are_clean.ensures)
    c.if-not-stands.ensures
    (subst (λ (k : ℕ). RuleFor k (g.R.Rule.meaning c.args.rule.now) → ⊥) c.slots-slots.ensures c.if-not-is_for.ensures)

pub returns : goal.returns
returns g c =
    record {
      at_rest = c.if-not-is_at_rest.ensures;
      enough = omega arith;
      clean = clean_whole c.args.marks.now _ c.slots-slots.result c.slots-slots.ensures (omega arith) c.if-not-are_clean.ensures;
      stands = c.if-not-stands.ensures;
      rule_for = subst (λ (k : ℕ). RuleFor k (g.R.Rule.meaning c.args.rule.now)) c.slots-slots.ensures c.if-not-is_for.ensures;
    }
