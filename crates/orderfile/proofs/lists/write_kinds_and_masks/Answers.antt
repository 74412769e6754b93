use Rattle.std.proofs.Common.{◌≡◌, ◌+◌, ◌-◌, ◌++◌, length, drop, ap, ◌∙◌, arith}
use Rattle.std.proofs.lemmas.List.{append-nil, drop_all, length-append, length-drop}
use Rattle.orderfile.proofs.Writing.{placed}
use Rattle.orderfile.proofs.lists.write_kinds_and_masks.Goals as goal

pub returns : goal.returns
returns c =
    let ks = c.args.kinds.now in
    let out = c.args.out.now in
    let front = c.copy_from_slice.new.self in
    let n = length ks in
    let rest = drop n out in
    let k = length (front ++ rest) - n in
    let same : front ≡ ks = c.copy_from_slice.ensures.after in
    let long : length front ≡ n = ap length same in
    let total : length (front ++ rest) ≡ length front + (length out - n) =
    length-append front rest ∙ ap (λ x. length front + x) (length-drop n out) in
    let none = drop_all (n + k) out (omega arith) in
    let tail = append-nil (front ++ c.write_words.new.out) in
    let first = placed n k front c.write_words.new.out out long in
    let masks = c.write_words.ensures in
    cc
