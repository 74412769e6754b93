-- The rules that a record can name.
use Rattle.std.specs.Prelude.{◌≡◌, ℕ, Ok, Err, Result}
use Rattle.orderfile.specs.Records.{Known}
use Rattle.orderfile.specs.declared.fault.OrderFault.{OrderFault}
use Rattle.orderfile.specs.declared.fault.OrderFault.TheVariants.{NoRule}
use Rattle.orderfile.specs.declared.rule_name.RuleName.{RuleName}
use Rattle.orderfile.specs.declared.rule_name.RuleName.TheVariants.{Number, Kind}

abbrev pub rule_name_number : RuleName → ℕ
rule_name_number Number = 1
rule_name_number Kind = 2

-- the rule with a number, or the refusal where there is none
abbrev pub Names : ℕ → Result RuleName OrderFault → Type 0
Names number (Ok name) = rule_name_number name ≡ number
Names number (Err fault) = (fault ≡ NoRule) × (Known number → ⊥)

-- how many bytes of the lists there are for each slot
abbrev pub entry_size : RuleName → ℕ
entry_size Number = 2
entry_size Kind = 3
