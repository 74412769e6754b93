-- The relation at the front of a text.
use Rattle.std.specs.Prelude.{◌≡◌, ℕ, ◌+◌, ◌-◌, ◌*◌, ◌<◌, ◌≤◌, List, length, take, drop, Some, None, Option}
use Rattle.matchingtext.specs.Sheets.{LineEnd, Numeral, written, Rows}
use Rattle.matchingtext.specs.declared.reading.Sheet.{Sheet}

-- the bytes of a text from `from` to below `to`
abbrev pub part : (text : List ℕ) (from to : ℕ) → List ℕ
part text from to = take (to - from) (drop from text)

-- a line that ends at `end` writes the size n, and n rows follow
pub record Stands (text : List ℕ) (at end n : ℕ) : Type 0 where
  pub line : LineEnd text at end
  pub fits : end < length text
  pub numeral : Numeral (part text at end)
  pub size : n ≡ written (part text at end)
  pub rows : Rows text (end + 1) n

-- the sheet has the table of the relation at the front of the text, and what follows it
pub record Found (text : List ℕ) (s : Sheet) : Type 0 where
  pub end : ℕ
  pub to : ℕ
  pub stands : Stands text 0 end s.table.count
  pub ends : to ≡ end + 1 + s.table.count * (s.table.count + 1)
  pub fits : to ≤ length text
  pub rows : s.table.rows.now ≡ part text (end + 1) to
  pub rest : s.rest.now ≡ drop to text

-- the sheet that is found; or none stands there
abbrev pub Front : (text : List ℕ) → Option Sheet → Type 0
Front text None = (end n : ℕ) → Stands text 0 end n → ⊥
Front text (Some s) = Found text s
