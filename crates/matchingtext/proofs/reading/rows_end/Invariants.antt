use Rattle.std.proofs.Common.{◌≡◌, ℕ, ◌+◌, ◌*◌, ◌<◌, ◌≤◌, length}
use Rattle.matchingtext.specs.Sheets.{Row}
use Rattle.matchingtext.proofs.reading.rows_end.Given as goal

abbrev pub invariant-loop-row : goal.invariant-loop-row
invariant-loop-row l = ((j : ℕ) → j < l.row → Row l.text (l.from + j * (l.n + 1)) l.n) × (l.at ≡ l.from + l.row * (l.n + 1)) × (l.at ≤ length l.text)
