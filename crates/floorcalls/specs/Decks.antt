-- What a deck of one of two types is to a reader.
use Rattle.deck.specs.Decks.{DeckView, Sound}
use Rattle.floorcalls.specs.declared.any_deck.EitherDeck.{EitherDeck}
use Rattle.floorcalls.specs.declared.any_deck.EitherDeck.TheVariants.{First, Second}

module _ {A B : Type 0} (v : A → DeckView) (w : B → DeckView) where
  abbrev pub either_view : EitherDeck A B → DeckView
  either_view (First d) = v d
  either_view (Second d) = w d

  pub either_sound : ((d : A) → Sound (v d)) → ((d : B) → Sound (w d)) → (d : EitherDeck A B) → Sound (either_view d)
  either_sound s t (First d) = s d
  either_sound s t (Second d) = t d
