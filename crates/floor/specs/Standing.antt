-- Carriers on the squares where they are to be.
use Rattle.std.specs.Prelude.{◌≡◌, ℕ, ◌<◌}
use Rattle.grid.specs.declared.square.Square.{Square}
use Rattle.deck.specs.Decks.{DeckView}

-- each of n carriers is on its square
abbrev pub Placed : DeckView → ℕ → (ℕ → Square) → Type 0
Placed v n place = (c : ℕ) → c < n → v.square c ≡ place c
