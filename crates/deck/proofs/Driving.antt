-- Carriers are steered one after another, and a go depends only on what the deck shows of its carriers.
use Rattle.std.proofs.Common.{◌≡◌, ℕ, ◌+◌, ◌<◌, ◌≤◌, List, get_or, Ok, Err, Result, sym, ap, ◌∙◌, subst, ⊎_elim, arith}
use Rattle.std.proofs.lemmas.Bool.{cases_eq}
use Rattle.grid.specs.declared.heading.Heading.{Heading}
use Rattle.grid.specs.declared.heading.Heading.TheVariants.{Stay}
use Rattle.grid.specs.declared.square.Square.{Square}
use Rattle.grid.specs.Headings.{heading_number}
use Rattle.grid.specs.Squares.{Remains, led}
use Rattle.deck.specs.declared.fault.DeckFault.{DeckFault}
use Rattle.deck.specs.declared.fault.DeckFault.TheVariants.{NotReady, OffFloor, SharedSquare, Exchange, NoCarrier, NoHeading}
use Rattle.deck.specs.Decks.{DeckView, end, RemainsAt, AllRemain, SomeLeaves, EndsDiffer, SomeMeet, NoneExchange, SomeExchange, SameFloor, Unmoved, Unchanged, Steered, GoRefused, Went}
use Rattle.deck.proofs.Numbering.{same_heading, few_numbers}

floor_then : (u v w : DeckView) → SameFloor u v → SameFloor v w → SameFloor u w
floor_then u v w s t = record { rows = t.rows ∙ s.rows; columns = t.columns ∙ s.columns; carriers = t.carriers ∙ s.carriers }

-- the first n carriers are steered by the list, and nothing else changed
pub record Steering (v : DeckView) (hs : List Heading) (n : ℕ) (w : DeckView) : Type 0 where
  pub floor : SameFloor v w
  pub unmoved : Unmoved v w
  pub ready : w.ready ≡ v.ready
  pub steered : (k : ℕ) → k < n → w.heading k ≡ get_or hs k Stay

module _ {U : Type 0} (u v w : DeckView) (hs : List Heading) (n : ℕ) (l : n < u.carriers) (i : Steering u hs n v) where
  pub steering_more : (h : Heading) (r : Result U DeckFault) → h ≡ get_or hs n Stay → Steered v n (heading_number h) r w → Steering u hs (n + 1) w
  steering_more h (Ok x) e (a, b, t) = record {
    floor = floor_then u v w i.floor t.floor;
    unmoved = λ k q. (let j : k < v.carriers = omega (arith, i.floor.carriers) in t.unmoved k j) ∙ i.unmoved k q;
    ready = t.ready ∙ i.ready;
    steered = λ k q. ⊎_elim
        (λ (o : k ≡ n). ap w.heading o ∙ same_heading (w.heading n) h t.heading ∙ e ∙ ap (λ m. get_or hs m Stay) (sym o))
        (λ (o : k ≡ n → ⊥).
        let j : k < v.carriers = omega (arith, i.floor.carriers) in
        let m : k < n = omega arith in
        t.others k j o ∙ i.steered k m)
        (cases_eq k n);
  }
  steering_more h (Err NoCarrier) e (y, t) = absurd (let z : v.carriers ≤ n = y in omega (arith, i.floor.carriers))
  steering_more h (Err NoHeading) e (y, t) = absurd (omega (arith, y.1, few_numbers h))
  steering_more h (Err NotReady) e (y, t) = absurd y
  steering_more h (Err OffFloor) e (y, t) = absurd y
  steering_more h (Err SharedSquare) e (y, t) = absurd y
  steering_more h (Err Exchange) e (y, t) = absurd y

-- What is unchanged goes alike.
module _ (u v : DeckView) (s : Unchanged u v) where
  there : (k : ℕ) → k < u.carriers → k < v.carriers
  there k h = omega (arith, s.floor.carriers)

  back : (k : ℕ) → k < v.carriers → k < u.carriers
  back k h = omega (arith, s.floor.carriers)

  at_end : (k : ℕ) → k < u.carriers → end v k ≡ end u k
  at_end k h = ap (λ (q : Square). led q (v.heading k)) (s.unmoved k h) ∙ ap (led (u.square k)) (s.headings k h)

  remains_same : (k : ℕ) → k < u.carriers → RemainsAt v k ≡ RemainsAt u k
  remains_same k h i = Remains (s.floor.rows i) (s.floor.columns i) (s.unmoved k h i) (s.headings k h i)

  remain : AllRemain v → AllRemain u
  remain a k h = subst (λ (X : Type 0). X) (remains_same k h) (a k (there k h))

  leaves : SomeLeaves v → SomeLeaves u
  leaves (k, h, n) = (k, back k h, λ p. n (subst (λ (X : Type 0). X) (sym (remains_same k (back k h))) p))

  differ : EndsDiffer v → EndsDiffer u
  differ d j k jk h e = let i : j < u.carriers = omega arith in d j k jk (there k h) (at_end j i ∙ e ∙ sym (at_end k h))

  meet : SomeMeet v → SomeMeet u
  meet (j, k, jk, h, e) =
      let o : k < u.carriers = back k h in
      let i : j < u.carriers = omega arith in
      (j, k, jk, o, sym (at_end j i) ∙ e ∙ at_end k o)

  pass : NoneExchange v → NoneExchange u
  pass n j k jk h (e, f) =
      let i : j < u.carriers = omega arith in
      n j k jk (there k h) (at_end j i ∙ e ∙ sym (s.unmoved k h), at_end k h ∙ f ∙ sym (s.unmoved j i))

  exchange : SomeExchange v → SomeExchange u
  exchange (j, k, jk, h, (e, f)) =
      let o : k < u.carriers = back k h in
      let i : j < u.carriers = omega arith in
      (j, k, jk, o, (sym (at_end j i) ∙ e ∙ s.unmoved k o, sym (at_end k o) ∙ f ∙ s.unmoved j i))

  refused : (f : DeckFault) → GoRefused v f → GoRefused u f
  refused NotReady p = sym s.ready ∙ p
  refused OffFloor (r, l) = (sym s.ready ∙ r, leaves l)
  refused SharedSquare (r, a, m) = (sym s.ready ∙ r, remain a, meet m)
  refused Exchange (r, a, d, x) = (sym s.ready ∙ r, remain a, differ d, exchange x)
  refused NoCarrier p = p
  refused NoHeading p = p

  -- a deck goes as any that shows the same of its carriers
  pub goes_alike : {U : Type 0} (r : Result U DeckFault) (w : DeckView) → Went v r w → Went u r w
  goes_alike (Ok x) w (r, l, m) = (
    sym s.ready ∙ r,
    record { remain = remain l.remain; differ = differ l.differ; pass = pass l.pass },
    record {
      floor = floor_then u v w s.floor m.floor;
      moves = λ k h. m.moves k (there k h) ∙ at_end k h;
      resting = m.resting;
    },
  )
  goes_alike (Err f) w (y, m) = (
    refused f y,
    record {
      floor = floor_then u v w s.floor m.floor;
      unmoved = λ k h. m.unmoved k (there k h) ∙ s.unmoved k h;
      resting = m.resting;
      ready = m.ready ∙ s.ready;
    },
  )
