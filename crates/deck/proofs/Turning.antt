-- A turned deck goes as the deck below.
use Rattle.std.proofs.Common.{◌≡◌, ℕ, Ok, Err, Result, sym, refl, ap, ◌∙◌}
use Rattle.grid.specs.declared.heading.Heading.{Heading}
use Rattle.grid.specs.declared.heading.Heading.TheVariants.{Stay, Up, Right, Down, Left}
use Rattle.grid.specs.declared.square.Square.{Square}
use Rattle.grid.specs.Headings.{turned_heading}
use Rattle.grid.specs.Squares.{Remains, led, turned_square}
use Rattle.deck.specs.declared.fault.DeckFault.{DeckFault}
use Rattle.deck.specs.declared.fault.DeckFault.TheVariants.{NotReady, OffFloor, SharedSquare, Exchange, NoCarrier, NoHeading}
use Rattle.deck.specs.Decks.{DeckView, end, AllRemain, SomeLeaves, EndsDiffer, SomeMeet, NoneExchange, SomeExchange, Lawful, SameFloor, GoRefused, Went}
use Rattle.deck.specs.Turned.{turned_view, TurningTwiceChangesNothing}

twice_heading : (h : Heading) → turned_heading (turned_heading h) ≡ h
twice_heading Stay = refl
twice_heading Up = refl
twice_heading Right = refl
twice_heading Down = refl
twice_heading Left = refl

pub twice : TurningTwiceChangesNothing
twice v i = record {
  rows = v.rows;
  columns = v.columns;
  carriers = v.carriers;
  square = v.square;
  heading = λ k. twice_heading (v.heading k) i;
  ready = v.ready;
}

turned_led : (s : Square) (h : Heading) → led (turned_square s) (turned_heading h) ≡ turned_square (led s h)
turned_led s Stay = refl
turned_led s Up = refl
turned_led s Right = refl
turned_led s Down = refl
turned_led s Left = refl

remains_there : (m n : ℕ) (s : Square) (h : Heading) → Remains m n s h → Remains n m (turned_square s) (turned_heading h)
remains_there m n s Stay p = p
remains_there m n s Up p = p
remains_there m n s Right p = p
remains_there m n s Down p = p
remains_there m n s Left p = p

remains_back : (m n : ℕ) (s : Square) (h : Heading) → Remains n m (turned_square s) (turned_heading h) → Remains m n s h
remains_back m n s Stay p = p
remains_back m n s Up p = p
remains_back m n s Right p = p
remains_back m n s Down p = p
remains_back m n s Left p = p

module _ (v : DeckView) where
  at_end : (k : ℕ) → end (turned_view v) k ≡ turned_square (end v k)
  at_end k = turned_led (v.square k) (v.heading k)

  ends_back : (j k : ℕ) → end (turned_view v) j ≡ end (turned_view v) k → end v j ≡ end v k
  ends_back j k e = ap turned_square (sym (at_end j) ∙ e ∙ at_end k)

  ends_there : (j k : ℕ) → end v j ≡ end v k → end (turned_view v) j ≡ end (turned_view v) k
  ends_there j k e = at_end j ∙ ap turned_square e ∙ sym (at_end k)

  onto_back : (j k : ℕ) → end (turned_view v) j ≡ (turned_view v).square k → end v j ≡ v.square k
  onto_back j k e = ap turned_square (sym (at_end j) ∙ e)

  onto_there : (j k : ℕ) → end v j ≡ v.square k → end (turned_view v) j ≡ (turned_view v).square k
  onto_there j k e = at_end j ∙ ap turned_square e

  remain : AllRemain v → AllRemain (turned_view v)
  remain a k h = remains_there v.rows v.columns (v.square k) (v.heading k) (a k h)

  leaves : SomeLeaves v → SomeLeaves (turned_view v)
  leaves (k, h, n) = (k, h, λ p. n (remains_back v.rows v.columns (v.square k) (v.heading k) p))

  differ : EndsDiffer v → EndsDiffer (turned_view v)
  differ d j k jk h e = d j k jk h (ends_back j k e)

  meet : SomeMeet v → SomeMeet (turned_view v)
  meet (j, k, jk, h, e) = (j, k, jk, h, ends_there j k e)

  pass : NoneExchange v → NoneExchange (turned_view v)
  pass n j k jk h (e, f) = n j k jk h (onto_back j k e, onto_back k j f)

  exchange : SomeExchange v → SomeExchange (turned_view v)
  exchange (j, k, jk, h, (e, f)) = (j, k, jk, h, (onto_there j k e, onto_there k j f))

  refused : (f : DeckFault) → GoRefused v f → GoRefused (turned_view v) f
  refused NotReady p = p
  refused OffFloor (r, l) = (r, leaves l)
  refused SharedSquare (r, a, m) = (r, remain a, meet m)
  refused Exchange (r, a, d, x) = (r, remain a, differ d, exchange x)
  refused NoCarrier p = p
  refused NoHeading p = p

  lawful : Lawful v → Lawful (turned_view v)
  lawful l = record { remain = remain l.remain; differ = differ l.differ; pass = pass l.pass }

turned_floor : (v w : DeckView) → SameFloor v w → SameFloor (turned_view v) (turned_view w)
turned_floor v w s = record { rows = s.columns; columns = s.rows; carriers = s.carriers }

pub turned_went : {U : Type 0} (v : DeckView) (r : Result U DeckFault) (w : DeckView) → Went v r w → Went (turned_view v) r (turned_view w)
turned_went v (Ok u) w (r, l, m) = (
  r,
  lawful v l,
  record {
    floor = turned_floor v w m.floor;
    moves = λ k h. ap turned_square (m.moves k h) ∙ sym (at_end v k);
    resting = λ k h. ap turned_heading (m.resting k h);
  },
)
turned_went v (Err f) w (y, m) = (
  refused v f y,
  record {
    floor = turned_floor v w m.floor;
    unmoved = λ k h. ap turned_square (m.unmoved k h);
    resting = λ k h. ap turned_heading (m.resting k h);
    ready = m.ready;
  },
)
