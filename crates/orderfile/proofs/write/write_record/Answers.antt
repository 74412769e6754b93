use Rattle.std.proofs.Common.{◌≡◌, ◌++◌, length, drop, refl, ap, ◌∙◌, arith, length-append, length-drop}
use Rattle.std.proofs.lemmas.List.{length-take-le}
use Rattle.orderfile.specs.Records.{OrderView, header_bytes}
use Rattle.orderfile.specs.RecordLists.{shown_lists}
use Rattle.orderfile.proofs.RoundTrip.{ruled}
use Rattle.orderfile.proofs.Writing.{wrote, good_order, length_entries}
use Rattle.orderfile.proofs.write.write_record.Goals as goal

pub returns-then-out-end : goal.returns-then-out-end
returns-then-out-end c =
    let l = shown_lists c.args.lists in
    let held = c.if-not-has_each.ensures in
    let many = length_entries c.rule-rule.result c.entry_size.result c.slots-slots.result l c.entry_size.ensures c.rule-rule.ensures held.0 in (
      (
        good_order _ _ _ l (c.args.sides.tall, c.args.sides.wide) c.slots-slots.ensures held.0 c.if-not-all_exist.ensures held.1,
        ruled l,
        omega arith,
      ),
      refl,
    )

pub write-requires : goal.write-requires
write-requires c =
    let l = shown_lists c.args.lists in
    let held = c.if-not-has_each.ensures in
    let many = length_entries c.rule-rule.result c.entry_size.result c.slots-slots.result l c.entry_size.ensures c.rule-rule.ensures held.0 in
    let out = c.args.out.now in
    let front = c.copy_from_slice.new.self in
    let long : length front ≡ 7 = ap length (c.copy_from_slice.ensures.after ∙ c.header.ensures) in
    let total = length-append front (drop 7 out) in
    let rest = length-drop 7 out in
    let after = length-drop 7 (front ++ drop 7 out) in
    length-take-le _ _ (omega arith) ∙ (omega arith)

pub returns : goal.returns
returns c =
    let l = shown_lists c.args.lists in
    let o : OrderView = record { height = c.args.sides.height; width = c.args.sides.width; lists = l } in
    let held = c.if-not-has_each.ensures in
    let many = length_entries c.rule-rule.result c.entry_size.result c.slots-slots.result l c.entry_size.ensures c.rule-rule.ensures held.0 in
    let header = c.copy_from_slice.ensures.after ∙ c.header.ensures ∙ ap (header_bytes c.args.sides.height c.args.sides.width) c.rule-rule.ensures in (
      good_order _ _ _ l (c.args.sides.tall, c.args.sides.wide) c.slots-slots.ensures held.0 c.if-not-all_exist.ensures held.1,
      ruled l,
      omega arith,
      omega arith,
      wrote o _ _ _ _ c.args.out.now header c.write.ensures refl,
    )
