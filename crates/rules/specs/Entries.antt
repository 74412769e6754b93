-- Which entries a rule is made from.
use Rattle.std.specs.Prelude.{ℕ, ◌<◌, List, length, slice_index}

-- each wanted carrier is one of as many as there are slots
abbrev pub GoodWanted : List ℕ → Type 0
GoodWanted wanted = (s : ℕ) → s < length wanted → slice_index wanted s < length wanted

-- each kind is one of sixteen
abbrev pub GoodKinds : List ℕ → Type 0
GoodKinds kinds = (c : ℕ) → c < length kinds → slice_index kinds c < 16
