use Rattle.std.specs.Fmt.{HasWritten, IsPlainFormatter}
use Rattle.rules.specs.AnyRule.{any_meaning}
use Rattle.orderwords.specs.Words.{carriers_text}
use Rattle.orderwords.proofs.CarriersDisplay.fmt.Given as goal

abbrev pub invariant-loop-carrier : goal.invariant-loop-carrier
invariant-loop-carrier g l =
    IsPlainFormatter l.initial.f
    → HasWritten g.W.Write.write_str_gives l.initial.f (carriers_text ((any_meaning l.self.rule.now).admits l.self.slot) l.carrier-counter) l.f
