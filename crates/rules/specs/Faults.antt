-- The numbers of the refusals to make a rule.
use Rattle.std.specs.Prelude.{ℕ}
use Rattle.rules.specs.declared.fault.RuleFault.{RuleFault}
use Rattle.rules.specs.declared.fault.RuleFault.TheVariants.{BadEntry}

abbrev pub rule_fault_number : RuleFault → ℕ
rule_fault_number BadEntry = 35
