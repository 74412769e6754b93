use Rattle.std.proofs.Common.{◌≡◌, ℕ, ◌^◌, ◌<◌, ◌≤◌, take}
use Rattle.matchings.specs.Matchings.{◌!◌}
use Rattle.matchingtext.specs.Sheets.{written}
use Rattle.matchingtext.proofs.reading.numeral.Given as goal

abbrev pub invariant-loop-digit : goal.invariant-loop-digit
invariant-loop-digit l = ((k : ℕ) → k < l.digit-index → (48 ≤ l.digits ! k) × (l.digits ! k ≤ 57)) × (l.n ≡ written (take l.digit-index l.digits)) × (l.n < 10 ^ l.digit-index)
