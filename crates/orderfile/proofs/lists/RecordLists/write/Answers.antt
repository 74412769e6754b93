use Rattle.std.proofs.Common.{length, ap, arith}
use Rattle.std.proofs.lemmas.List.{length-append}
use Rattle.orderfile.specs.Records.{words, list_bytes}
use Rattle.orderfile.specs.RecordLists.{shown_lists}
use Rattle.orderfile.specs.declared.lists.RecordLists.{RecordLists}
use Rattle.orderfile.proofs.Wording.{length_words}
use Rattle.orderfile.proofs.lists.RecordLists.write.Goals as goal

pub write_words-requires : goal.write_words-requires
write_words-requires c =
    let long = ap (λ (l : RecordLists). length (list_bytes (shown_lists l))) c.in-Wanted.is in
    omega (arith, length_words c.in-Wanted.wanted.now)

pub write_kinds_and_masks-requires : goal.write_kinds_and_masks-requires
write_kinds_and_masks-requires c =
    let long = ap (λ (l : RecordLists). length (list_bytes (shown_lists l))) c.in-Kinds.is in
    let masks = c.in-Kinds.masks.now in
    omega (arith, length-append c.in-Kinds.kinds.now (words masks), length_words masks)
