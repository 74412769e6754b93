-- What either rule means.
use Rattle.std.specs.Prelude.{ℕ, Some, None, Option}
use Rattle.rules.specs.Rules.{RuleView, Bounded}
use Rattle.rules.specs.NumberRule.{number_meaning, number_bounded}
use Rattle.rules.specs.KindRule.{kind_meaning, kind_bounded, kind_class}
use Rattle.rules.specs.declared.any.AnyRule.{AnyRule}
use Rattle.rules.specs.declared.any.AnyRule.TheVariants.{Number, Kind}

abbrev pub any_meaning : AnyRule → RuleView
any_meaning (Number r) = number_meaning r
any_meaning (Kind r) = kind_meaning r

pub any_bounded : (r : AnyRule) → Bounded (any_meaning r)
any_bounded (Number r) = number_bounded r
any_bounded (Kind r) = kind_bounded r

-- a number rule tells no classes; each carrier is one by itself
abbrev pub any_class : AnyRule → ℕ → ℕ
any_class (Number r) carrier = carrier
any_class (Kind r) carrier = kind_class r carrier

-- the class that it tells of a carrier
abbrev pub any_told : AnyRule → ℕ → Option ℕ
any_told (Number r) carrier = None
any_told (Kind r) carrier = Some (kind_class r carrier)
