use Rattle.std.proofs.Common.{arith}
use Rattle.orderfile.proofs.Wording.{words_are}
use Rattle.orderfile.proofs.lists.write_words.Goals as goal

pub returns : goal.returns
returns c = words_are c.loop-k.out c.args.entries.now (omega arith) (λ j h. c.loop-k.invariant j (omega arith))
