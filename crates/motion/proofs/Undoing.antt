-- The reverse of a lawful move of a sound deck is lawful, and leads back.
use Rattle.std.proofs.Common.{◌≡◌, ℕ, ◌<◌, sym, refl, ap, ◌∙◌, subst, arith}
use Rattle.grid.specs.declared.heading.Heading.{Heading}
use Rattle.grid.specs.declared.heading.Heading.TheVariants.{Stay, Up, Right, Down, Left}
use Rattle.grid.specs.declared.square.Square.{Square}
use Rattle.grid.specs.Headings.{opposite}
use Rattle.grid.specs.Squares.{OnFloor, Remains, led}
use Rattle.deck.specs.Decks.{DeckView, Sound, Lawful, end}
use Rattle.motion.proofs.Squares.{same_square}

remains_back :
    (r l : ℕ) (s : Square) (h : Heading) → OnFloor r l s → Remains r l s h → Remains r l (led s h) (opposite h)
remains_back r l s Stay f m = tt
remains_back r l s Up f m = omega arith
remains_back r l s Right f m = omega arith
remains_back r l s Down f m = omega arith
remains_back r l s Left f m = omega arith

led_back : (r l : ℕ) (s : Square) (h : Heading) → Remains r l s h → led (led s h) (opposite h) ≡ s
led_back r l s Stay m = refl
led_back r l s Up m = same_square (omega arith) refl
led_back r l s Right m = same_square refl (omega arith)
led_back r l s Down m = same_square (omega arith) refl
led_back r l s Left m = same_square refl (omega arith)

-- the deck after a move, each carrier headed back
abbrev undone : DeckView → (ℕ → Square) → DeckView
undone v after =
    record {
      rows = v.rows;
      columns = v.columns;
      carriers = v.carriers;
      square = after;
      heading = λ k. opposite (v.heading k);
      ready = v.ready;
    }

module _ (v : DeckView) (after : ℕ → Square) (good : Sound v) (law : Lawful v)
    (leads : (k : ℕ) → k < v.carriers → end v k ≡ after k) where
  pub undo_leads : (k : ℕ) → k < v.carriers → end (undone v after) k ≡ v.square k
  undo_leads k h =
      ap (λ (s : Square). led s (opposite (v.heading k))) (sym (leads k h))
      ∙ led_back v.rows v.columns (v.square k) (v.heading k) (law.remain k h)

  pub undo_lawful : Lawful (undone v after)
  undo_lawful =
      record {
        remain =
            λ k h.
            subst (λ (s : Square). Remains v.rows v.columns s (opposite (v.heading k))) (leads k h)
            (remains_back v.rows v.columns (v.square k) (v.heading k) (good.inside k h) (law.remain k h));
        differ =
            λ j k jk h e. good.apart j k jk h (sym (undo_leads j (omega arith)) ∙ e ∙ undo_leads k h);
        pass =
            λ j k jk h x.
            law.pass j k jk h (
              leads j (omega arith) ∙ sym x.1 ∙ undo_leads k h,
              leads k h ∙ sym x.0 ∙ undo_leads j (omega arith),
            );
      }
