-- The view before a go settles what it answers.
use Rattle.std.specs.Prelude.{◌≡◌, true, Result}
use Rattle.deck.specs.declared.fault.DeckFault.{DeckFault}
use Rattle.deck.specs.Decks.{DeckView, Lawful, Unchanged, GoRefused, Went}

pub record GoIsSettled : Type 0 where
  pub one_refusal : (v : DeckView) (f g : DeckFault) → GoRefused v f → GoRefused v g → f ≡ g
  pub never_both : (v : DeckView) (f : DeckFault) → GoRefused v f → v.ready ≡ true → Lawful v → ⊥
  -- what decks show beyond their carriers does not count
  pub alike : (u v w : DeckView) (r : Result (Unit {0}) DeckFault) → Unchanged u v → Went v r w → Went u r w
