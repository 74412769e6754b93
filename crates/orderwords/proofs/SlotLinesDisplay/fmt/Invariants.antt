use Rattle.std.specs.Fmt.{HasWritten, IsPlainFormatter}
use Rattle.rules.specs.AnyRule.{any_meaning}
use Rattle.orderwords.specs.Words.{slots_text}
use Rattle.orderwords.proofs.SlotLinesDisplay.fmt.Given as goal

abbrev pub invariant-loop-slot : goal.invariant-loop-slot
invariant-loop-slot g l =
    IsPlainFormatter l.initial.f
    → HasWritten g.W.Write.write_str_gives l.initial.f (slots_text (any_meaning l.self.0.now.rule) l.self.0.now.sides.width l.slot) l.f
