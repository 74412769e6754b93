-- The next step as a line of letters.
use Rattle.std.specs.Prelude.{◌≡◌, ℕ, ◌+◌, ◌<◌, ◌≤◌, List, [], ◌∷◌, ◌++◌, map, length, Ok, Err, Result}
use Rattle.std.specs.List.{range_with_len}
use Rattle.grid.specs.Headings.{letter}
use Rattle.motion.specs.Motions.{Motion}
use Rattle.motion.specs.Plans.{whole}
use Rattle.chain.specs.declared.fault.FloorFault.{FloorFault}
use Rattle.chain.specs.declared.fault.FloorFault.TheVariants.{NoNextMove, NoRoom}
use Rattle.chain.specs.Floors.{FloorView, slots}
use Rattle.script.specs.Pasting.{Pasted}

-- the letters of n carriers' headings after t steps of a motion, by carrier
abbrev pub letters : Motion → ℕ → ℕ → List ℕ
letters m t n = map (λ c. letter (m.heading t c)) (range_with_len 0 n)

-- the letters of the next step, and a line's end
abbrev pub line_bytes : FloorView → List ℕ
line_bytes f = letters (whole f.plan) f.done (slots f) ++ 10 ∷ []

pub data LineRefused (f : FloorView) (before : List ℕ) (at : ℕ) : FloorFault → Type 0 where
  no_next_move : f.length ≤ f.done → LineRefused f before at NoNextMove
  no_room : f.done < f.length → length before < at + (slots f + 1) → LineRefused f before at NoRoom

-- what is refused writes nothing
abbrev pub Lined : FloorView → List ℕ → ℕ → Result ℕ FloorFault → List ℕ → Type 0
Lined f before at (Ok n) after = (f.done < f.length) × (n ≡ slots f + 1) × Pasted (line_bytes f) before at n after
Lined f before at (Err e) after = LineRefused f before at e × (after ≡ before)
