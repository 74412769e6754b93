-- The questions of go exclude one another.
use Rattle.std.proofs.Common.{◌≡◌, true, refl}
use Rattle.std.proofs.lemmas.Bool.{both_ways}
use Rattle.deck.specs.declared.fault.DeckFault.{DeckFault}
use Rattle.deck.specs.declared.fault.DeckFault.TheVariants.{NotReady, OffFloor, SharedSquare, Exchange, NoCarrier, NoHeading}
use Rattle.deck.specs.Decks.{DeckView, AllRemain, SomeLeaves, EndsDiffer, SomeMeet, NoneExchange, SomeExchange, Lawful, GoRefused}
use Rattle.deck.specs.Settled.{GoIsSettled}
use Rattle.deck.proofs.Driving.{goes_alike}

module _ (v : DeckView) where
  leaves_not : SomeLeaves v → AllRemain v → ⊥
  leaves_not (k, h, n) a = n (a k h)

  meet_not : SomeMeet v → EndsDiffer v → ⊥
  meet_not (j, k, jk, h, e) d = d j k jk h e

  exchange_not : SomeExchange v → NoneExchange v → ⊥
  exchange_not (j, k, jk, h, x) n = n j k jk h x

  one : (f g : DeckFault) → GoRefused v f → GoRefused v g → f ≡ g
  one NotReady NotReady p q = refl
  one NotReady OffFloor p (s, k) = absurd (both_ways v.ready p s)
  one NotReady SharedSquare p (s, b, n) = absurd (both_ways v.ready p s)
  one NotReady Exchange p (s, b, e, y) = absurd (both_ways v.ready p s)
  one NotReady NoCarrier p q = absurd q
  one NotReady NoHeading p q = absurd q
  one OffFloor NotReady (r, l) q = absurd (both_ways v.ready q r)
  one OffFloor OffFloor p q = refl
  one OffFloor SharedSquare (r, l) (s, b, n) = absurd (leaves_not l b)
  one OffFloor Exchange (r, l) (s, b, e, y) = absurd (leaves_not l b)
  one OffFloor NoCarrier p q = absurd q
  one OffFloor NoHeading p q = absurd q
  one SharedSquare NotReady (r, a, m) q = absurd (both_ways v.ready q r)
  one SharedSquare OffFloor (r, a, m) (s, k) = absurd (leaves_not k a)
  one SharedSquare SharedSquare p q = refl
  one SharedSquare Exchange (r, a, m) (s, b, e, y) = absurd (meet_not m e)
  one SharedSquare NoCarrier p q = absurd q
  one SharedSquare NoHeading p q = absurd q
  one Exchange NotReady (r, a, d, x) q = absurd (both_ways v.ready q r)
  one Exchange OffFloor (r, a, d, x) (s, k) = absurd (leaves_not k a)
  one Exchange SharedSquare (r, a, d, x) (s, b, n) = absurd (meet_not n d)
  one Exchange Exchange p q = refl
  one Exchange NoCarrier p q = absurd q
  one Exchange NoHeading p q = absurd q
  one NoCarrier g p q = absurd p
  one NoHeading g p q = absurd p

  never : (f : DeckFault) → GoRefused v f → v.ready ≡ true → Lawful v → ⊥
  never NotReady p t l = both_ways v.ready p t
  never OffFloor (r, k) t l = leaves_not k l.remain
  never SharedSquare (r, a, m) t l = meet_not m l.differ
  never Exchange (r, a, d, x) t l = exchange_not x l.pass
  never NoCarrier p t l = p
  never NoHeading p t l = p

pub settled : GoIsSettled
settled = record { one_refusal = one; never_both = never; alike = λ u v w r s h. goes_alike u v s r w h }
