use Rattle.std.proofs.Common.{◌≡◌, ℕ, ◌+◌, ◌*◌, List, length, ap, ◌∙◌, subst, arith}
use Rattle.std.proofs.lemmas.List.{take_rest}
use Rattle.std.proofs.lemmas.Result.{err_from_is_err_and}
use Rattle.orderfile.specs.Records.{Lists, GoodEntries}
use Rattle.orderfile.specs.Orders.{shown, rule_lists}
use Rattle.orderfile.specs.Reading.{Held, Unmade}
use Rattle.orderfile.proofs.RoundTrip.{writes_back}
use Rattle.orderfile.proofs.Reading.{rule_refused, order_good, order_bytes}
use Rattle.orderfile.proofs.read.read.Goals as goal

pub returns-in_err-rule-clause-read : goal.returns-in_err-rule-clause-read
returns-in_err-rule-clause-read c =
    let bytes = c.args.bytes.now in
    let n = c.slots-slots.result in
    let name = c.in_ok-sides.field-0.rule in
    let whole : length bytes ≡ 7 + c.entry_size.result * n = omega arith in
    let long = whole ∙ ap (λ (k : ℕ). 7 + k * n) c.entry_size.ensures in
    let p = err_from_is_err_and c.from_residual-in_err-rule.result c.from_residual-in_err-rule.ensures.1 in
    let fault = c.in_err-rule.field-0.0 in
    let why = subst (λ (body : List ℕ). (l : Lists) × Held name n body l × Unmade l fault) (take_rest bytes 7) c.in_err-rule.ensures in
    rw (p.1, p.2) (rule_refused bytes _ _ name n c.in_ok-sides.ensures c.slots-slots.ensures long why.0 fault why.1 why.2)

pub returns : goal.returns
returns c =
    let bytes = c.args.bytes.now in
    let n = c.slots-slots.result in
    let h = c.in_ok-sides.field-0 in
    let whole : length bytes ≡ 7 + c.entry_size.result * n = omega arith in
    let long = whole ∙ ap (λ (k : ℕ). 7 + k * n) c.entry_size.ensures in
    let l = rule_lists c.in_ok-rule.rule in
    let held = subst (λ (body : List ℕ). Held h.rule n body l × GoodEntries l) (take_rest bytes 7) c.in_ok-rule.ensures in
    let good = order_good bytes _ _ h.rule n c.in_ok-sides.ensures c.slots-slots.ensures long l (h.sides.tall, h.sides.wide) held.0 held.1 in
    let is = order_bytes bytes _ _ h.rule n c.in_ok-sides.ensures c.slots-slots.ensures long l held.0 in
    record { read = (good, is); writes_back = writes_back (shown (record { sides = h.sides; rule = c.in_ok-rule.rule })) bytes good is }
