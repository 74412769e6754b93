-- Decks that show the same squares.
use Rattle.std.proofs.Common.{◌≡◌, ℕ, ◌<◌, sym, ap, ◌∙◌, arith}
use Rattle.grid.specs.declared.square.Square.{Square}
use Rattle.deck.specs.Decks.{DeckView, Sound}

-- a deck of the same size with its carriers on the same squares is sound too
pub same_sound :
    (v w : DeckView)
    → v.rows ≡ w.rows
    → v.columns ≡ w.columns
    → v.carriers ≡ w.carriers
    → ((c : ℕ) → c < w.carriers → v.square c ≡ w.square c)
    → Sound w
    → Sound v
same_sound v w rows columns many same s =
    record {
      inside = λ k h.
          let h' : k < w.carriers = omega arith in
          let e = same k h' in
          let row : (v.square k).row ≡ (w.square k).row = ap (λ (x : Square). x.row) e in
          let column : (v.square k).column ≡ (w.square k).column = ap (λ (x : Square). x.column) e in
          (omega (arith, (s.inside k h').0), omega (arith, (s.inside k h').1));
      apart = λ j k jk h e.
          let h' : k < w.carriers = omega arith in
          let hj : j < w.carriers = omega arith in
          s.apart j k jk h' (sym (same j hj) ∙ e ∙ same k h');
    }
