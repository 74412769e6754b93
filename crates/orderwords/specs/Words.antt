-- An order in words.
use Rattle.std.specs.Prelude.{ℕ, zero, suc, ◌/◌, ◌%◌, Bool, cond, List, [], ◌++◌, codes, decimal}
use Rattle.grid.specs.Sides.{slot_count}
use Rattle.rules.specs.Rules.{RuleView}
use Rattle.rules.specs.AnyRule.{any_meaning}
use Rattle.rules.specs.declared.any.AnyRule.{AnyRule}
use Rattle.rules.specs.declared.any.AnyRule.TheVariants.{Number, Kind}
use Rattle.orderfile.specs.declared.order.Order.{Order}

-- those of the first n carriers that will do, each after a space
abbrev pub carriers_text : (ℕ → Bool) → ℕ → List ℕ
carriers_text will-do zero = []
carriers_text will-do (suc n) = carriers_text will-do n ++ cond (will-do n) (codes " " ++ decimal n) []

-- a slot's line, on a floor of so many bays
abbrev pub slot_text : RuleView → ℕ → ℕ → List ℕ
slot_text v bays s =
    codes "slot " ++ (decimal s ++ (codes " (row " ++ (decimal (s / bays) ++ (codes ", bay "
    ++ (decimal (s % bays) ++ (codes "):" ++ (carriers_text (v.admits s) v.carriers ++ codes "\n")))))))

-- the lines of the first n slots
abbrev pub slots_text : RuleView → ℕ → ℕ → List ℕ
slots_text v bays zero = []
slots_text v bays (suc n) = slots_text v bays n ++ slot_text v bays n

abbrev pub rule_text : AnyRule → List ℕ
rule_text (Number r) = codes "number"
rule_text (Kind r) = codes "kind"

abbrev pub order_text : Order → List ℕ
order_text o =
    codes "floor of " ++ (decimal o.sides.height ++ (codes " by " ++ (decimal o.sides.width ++ (codes " cells, "
    ++ (decimal (slot_count o.sides.height o.sides.width) ++ (codes " slots, " ++ (rule_text o.rule
    ++ (codes " rule\n" ++ slots_text (any_meaning o.rule) o.sides.width (any_meaning o.rule).slots))))))))
