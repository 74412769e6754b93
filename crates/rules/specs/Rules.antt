-- What a rule means.
use Rattle.std.specs.Prelude.{◌≡◌, ℕ, ◌≤◌, Bool, false}

pub record RuleView : Type 0 where
  pub slots : ℕ
  pub carriers : ℕ
  -- whether a slot admits a carrier
  pub admits : ℕ → ℕ → Bool

-- outside its numbers a rule replies no
pub record Bounded (v : RuleView) : Type 0 where
  pub no_slot : (s c : ℕ) → v.slots ≤ s → v.admits s c ≡ false
  pub no_carrier : (s c : ℕ) → v.carriers ≤ c → v.admits s c ≡ false

-- c is the class of a carrier, and all of that class are admitted by the same slots
abbrev pub IsClass : (v : RuleView) (classes : ℕ → ℕ) (carrier c : ℕ) → Type 0
IsClass v classes carrier c = (classes carrier ≡ c) × ((s d : ℕ) → classes d ≡ c → v.admits s d ≡ v.admits s carrier)
