-- The assignment of slots to carriers under a rule, the goals that it gives, and when there is none.
use Rattle.std.specs.Prelude.{◌≡◌, ℕ, ◌<◌, List}
use Rattle.grid.specs.Slots.{slot_number}
use Rattle.rules.specs.Rules.{RuleView}
use Rattle.matchings.specs.Matchings.{◌!◌, Perfect, First, Blocking}
use Rattle.motion.specs.Plans.{Plan, goal_bay}

-- the assignment of n slots to n carriers, by the slots' numbers: the first perfect matching under the rule
abbrev pub Assignment : RuleView → ℕ → List ℕ → Type 0
Assignment v n assignment = First v.admits n assignment

-- the carrier assigned to slot number s has the slot of that number as its goal
pub record AssignedGoals (p : Plan) (assignment : List ℕ) : Type 0 where
  pub number : (s : ℕ) → s < p.carriers → slot_number p.width (p.goal (assignment ! s)) ≡ s
  pub bay : (s : ℕ) → s < p.carriers → goal_bay p (assignment ! s) < p.width

-- no matching of n slots to n carriers is perfect under the rule: some of the slots, as many as are told of a list,
-- together admit fewer carriers than they are
pub record Blocked (v : RuleView) (n : ℕ) : Type 0 where
  pub none : (m : List ℕ) → Perfect v.admits n m → ⊥
  pub slots : List ℕ
  pub many : ℕ
  pub blocking : Blocking v.admits n slots many
