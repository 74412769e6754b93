-- Where carriers come to, on a deck on which all remain.
use Rattle.std.proofs.Common.{◌≡◌, ℕ, ◌<◌, Bool, true, false, List, get_or, Some, None, MatchBool, Option, sym, ap, ◌∙◌, subst, arith}
use Rattle.grid.specs.declared.heading.Heading.TheVariants.{Stay}
use Rattle.grid.specs.declared.square.Square.{Square}
use Rattle.grid.specs.Squares.{OnFloor}
use Rattle.deck.specs.Decks.{DeckView, Sound, end, AllRemain, Exchanges, SomeMeet, Lawful, SameFloor, Halted, Moved}
use Rattle.decklists.specs.declared.carrier.Carrier.{Carrier}
use Rattle.decklists.specs.declared.extent.Extent.{Extent}
use Rattle.decklists.specs.Lists.{listed}
use Rattle.decklists.specs.Notes.{square_number, EachNoted, Noted, EndsNoted, PlacesNoted}
use Rattle.decklists.proofs.Placing.{led_inside, same_number}
use Rattle.decklists.proofs.Noting.{some_is, noted_there}

-- carrier k where it comes to, at rest
abbrev pub arrived : DeckView → ℕ → Carrier
arrived v k = record { square = end v k; heading = Stay }

module _ (v : DeckView) (inside : (k : ℕ) → k < v.carriers → OnFloor v.rows v.columns (v.square k)) (remain : AllRemain v) where
  pub ends_inside : (k : ℕ) → k < v.carriers → OnFloor v.rows v.columns (end v k)
  ends_inside k h = led_inside v.rows v.columns (v.square k) (v.heading k) (inside k h) (remain k h)

  -- an end square that is noted already is shared
  pub meets : (table : List (Option ℕ)) (n p j : ℕ) → n < v.carriers → Noted v.columns n (end v) table → p ≡ square_number v.columns (end v n) → get_or table p None ≡ Some j → SomeMeet v
  meets table n p j h i q r =
      let l : j < n = i.nobody_else p j r in
      let o : j < v.carriers = omega arith in
      (j, n, l, h, same_number v.columns (end v j) (end v n) (ends_inside j o).1 (ends_inside n h).1 (i.nowhere_else p j r ∙ q))

  -- who is noted on carrier k's square comes to it
  pub comes : (table : List (Option ℕ)) (p j k : ℕ) → k < v.carriers → EndsNoted v table → p ≡ square_number v.columns (v.square k) → get_or table p None ≡ Some j → (j < v.carriers) × (end v j ≡ v.square k)
  comes table p j k h i q r =
      let l : j < v.carriers = i.nobody_else p j r in
      (l, same_number v.columns (end v j) (v.square k) (ends_inside j l).1 (inside k h).1 (i.nowhere_else p j r ∙ q))

-- carrier k exchanges squares with whoever comes to where it stands, or with nobody
pub exchanges_with : (v : DeckView) (table : List (Option ℕ)) (p j k : ℕ) (b : Bool)
    → EachNoted v.columns v.carriers (end v) table
    → p ≡ square_number v.columns (v.square k) → get_or table p None ≡ Some j
    → (j < v.carriers) × (end v j ≡ v.square k) → (j ≡ k → ⊥)
    → MatchBool b (end v k ≡ v.square j) (end v k ≡ v.square j → ⊥)
    → MatchBool b ((i : ℕ) × (i < v.carriers) × (i ≡ k → ⊥) × Exchanges v i k) ((i : ℕ) → i < v.carriers → (i ≡ k → ⊥) → Exchanges v i k → ⊥)
exchanges_with v table p j k true each q s (l, c) o w = (j, l, o, (c, w))
exchanges_with v table p j k false each q s (l, c) o w = λ i h n x.
    let who : j ≡ i = some_is j i (sym s ∙ ap (λ m. get_or table m None) q ∙ ap (λ (u : Square). get_or table (square_number v.columns u) None) (sym x.0) ∙ each i h) in
    w (x.1 ∙ ap v.square (sym who))

-- what stands where on one floor stands so on another of the same size
on_same : (v w : DeckView) → SameFloor v w → (s t : Square) → t ≡ s → OnFloor v.rows v.columns s → OnFloor w.rows w.columns t
on_same v w f s t e (r, c) = (omega (arith, f.rows, ap (λ (x : Square). x.row) e), omega (arith, f.columns, ap (λ (x : Square). x.column) e))

-- carriers that move as they may are on the floor and apart
pub moved_sound : (v w : DeckView) → Lawful v → Moved v w → Sound v → Sound w
moved_sound v w l m s = record {
  inside = λ k h. (let o : k < v.carriers = omega (arith, m.floor.carriers) in on_same v w m.floor (end v k) (w.square k) (m.moves k o) (ends_inside v s.inside l.remain k o));
  apart = λ j k jk h e.
      (let o : k < v.carriers = omega (arith, m.floor.carriers) in
      let p : j < v.carriers = omega arith in
      l.differ j k jk o (sym (m.moves j p) ∙ e ∙ m.moves k o));
}

-- and so are those that stay
pub halted_sound : (v w : DeckView) → Halted v w → Sound v → Sound w
halted_sound v w m s = record {
  inside = λ k h. (let o : k < v.carriers = omega (arith, m.floor.carriers) in on_same v w m.floor (v.square k) (w.square k) (m.unmoved k o) (s.inside k o));
  apart = λ j k jk h e.
      (let o : k < v.carriers = omega (arith, m.floor.carriers) in
      let p : j < v.carriers = omega arith in
      s.apart j k jk o (sym (m.unmoved j p) ∙ e ∙ m.unmoved k o));
}

-- after a move, who came to a square stands on it
pub stand_where_they_came : (v w : DeckView) (table : List (Option ℕ)) → Moved v w → EndsNoted v table → PlacesNoted w table
stand_where_they_came v w table m i = subst (λ (columns : ℕ). Noted columns w.carriers w.square table) (sym m.floor.columns) (noted_there v.columns w.carriers v.carriers (end v) w.square table m.floor.carriers m.moves i)

-- nobody is noted yet where carrier n stands
pub still_free : (v : DeckView) (s : Sound v) (table : List (Option ℕ)) (n p : ℕ) → n < v.carriers → Noted v.columns n v.square table → p ≡ square_number v.columns (v.square n) → (k : ℕ) → get_or table p None ≡ Some k → ⊥
still_free v s table n p h i q k r =
    let l : k < n = i.nobody_else p k r in
    let o : k < v.carriers = omega arith in
    s.apart k n l h (same_number v.columns (v.square k) (v.square n) (s.inside k o).1 (s.inside n h).1 (i.nowhere_else p k r ∙ q))

-- the same of lists that stand for others
pub halted_in : (e : Extent) {a a' b b' : List Carrier} → a ≡ a' → b' ≡ b → ((x : Extent) (ready : Bool) → Halted (listed x a ready) (listed x b ready)) → Halted (listed e a' true) (listed e b' true)
halted_in e {a = a} {b' = b'} p q h = subst (λ (cs : List Carrier). Halted (listed e cs true) (listed e b' true)) p (subst (λ (cs : List Carrier). Halted (listed e a true) (listed e cs true)) (sym q) (h e true))

pub moved_in : (e : Extent) {a a' b b' : List Carrier} → a ≡ a' → b' ≡ b → Moved (listed e a true) (listed e b true) → Moved (listed e a' true) (listed e b' true)
moved_in e {a = a} {b' = b'} p q h = subst (λ (cs : List Carrier). Moved (listed e cs true) (listed e b' true)) p (subst (λ (cs : List Carrier). Moved (listed e a true) (listed e cs true)) (sym q) h)

pub moved_from : {u v w : DeckView} → u ≡ v → Moved u w → Moved v w
moved_from {w = w} p h = subst (λ (x : DeckView). Moved x w) p h
