-- The calls of a chain with their answers, and the sheet that is kept from these alone.
use Rattle.std.specs.Prelude.{ℕ, ◌+◌, ◌-◌, List, [], ◌∷◌, Some, None, Ok, Err, Option, Result}
use Rattle.rules.specs.Rules.{RuleView}
use Rattle.chain.specs.declared.fault.FloorFault.{FloorFault}

-- a call and what it answered; an order with its rule's meaning and the marks as handed in
pub data Event : Type 0 where
  order : RuleView → List ℕ → Result ℕ FloorFault → Event
  step : Result ℕ FloorFault → Event
  back : Result ℕ FloorFault → Event

-- the rule of the last accepted order, how many steps it has in full, and how many of them are made, net of those
-- undone
pub record Sheet : Type 0 where
  pub rule : Option RuleView
  pub full : ℕ
  pub net : ℕ

abbrev pub sheet : Option RuleView → ℕ → ℕ → Sheet
sheet r m n = record { rule = r; full = m; net = n }

-- a refused call changes nothing
abbrev pub noted : Event → Sheet → Sheet
noted (Event.order r marks (Ok n)) s = sheet (Some r) n 0
noted (Event.order r marks (Err e)) s = s
noted (Event.step (Ok n)) s = sheet s.rule s.full (s.net + 1)
noted (Event.step (Err e)) s = s
noted (Event.back (Ok n)) s = sheet s.rule s.full (s.net - 1)
noted (Event.back (Err e)) s = s

-- the newest event stands first
abbrev pub sheet_of : List Event → Sheet
sheet_of [] = sheet None 0 0
sheet_of (e ∷ es) = noted e (sheet_of es)
