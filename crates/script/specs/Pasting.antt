-- Bytes written into the middle of a buffer.
use Rattle.std.specs.Prelude.{◌≡◌, ℕ, ◌+◌, ◌<◌, ◌≤◌, List, ◌++◌, length, take, drop, Ok, Err, Result}
use Rattle.chain.specs.declared.fault.FloorFault.{FloorFault}
use Rattle.chain.specs.declared.fault.FloorFault.TheVariants.{NoRoom}

-- n bytes stand from a place on, and all others are as they were
pub record Pasted (bytes before : List ℕ) (at n : ℕ) (after : List ℕ) : Type 0 where
  pub room : at + n ≤ length before
  pub count : n ≡ length bytes
  pub pasted : after ≡ take at before ++ (bytes ++ drop (at + n) before)

-- written, or refused where there is no room for it
abbrev pub Written : List ℕ → List ℕ → ℕ → Result ℕ FloorFault → List ℕ → Type 0
Written bytes before at (Ok n) after = Pasted bytes before at n after
Written bytes before at (Err e) after = (e ≡ NoRoom) × (length before < at + length bytes) × (after ≡ before)
