-- A move of a good plan is refused only where the deck is not ready, and leads where the plan says.
use Rattle.std.proofs.Common.{◌≡◌, ℕ, ◌+◌, ◌<◌, Bool, true, false, List, length, get_or, Ok, Err, Result, sym, refl, ◌∙◌, arith}
use Rattle.grid.specs.declared.heading.Heading.{Heading}
use Rattle.grid.specs.declared.heading.Heading.TheVariants.{Stay}
use Rattle.grid.specs.declared.square.Square.{Square}
use Rattle.grid.specs.Sides.{slot_count}
use Rattle.deck.specs.declared.fault.DeckFault.{DeckFault}
use Rattle.deck.specs.Decks.{DeckView, Lawful, end, SameFloor, Unchanged, Went}
use Rattle.deck.specs.Driven.{headed, Driven}
use Rattle.deck.proofs.Driving.{goes_alike}
use Rattle.deck.proofs.Settling.{settled}
use Rattle.motion.specs.Plans.{Plan, whole, plan_steps}
use Rattle.motion.specs.Carrying.{Good, moment, retreat}
use Rattle.motion.proofs.Whole.{plans_are_carried}
use Rattle.chain.specs.Floors.{FloorView, Sized}
use Rattle.chain.specs.Calls.{StepRefused, BackRefused, Stepped, Backed}
use Rattle.chain.specs.declared.fault.FloorFault.{FloorFault}
use Rattle.floor.specs.declared.record.moves.Way.{Way}
use Rattle.floor.specs.declared.record.moves.Way.TheVariants.{On, Back}
use Rattle.floor.specs.Standing.{Placed}
use Rattle.floor.specs.Moving.{way_heading, leaving, coming, Gone, HeldBack, Advanced}

not-true : (b : Bool) → (b ≡ true → ⊥) → b ≡ false
not-true true n = absurd (n refl)
not-true false n = refl

-- m is v steered by the list, as far as its carriers go
module _ (m v w : DeckView) (hs : List Heading) (place : ℕ → Square) (same : Unchanged m (headed v hs)) (law : Lawful m) (ends : (k : ℕ) → k < m.carriers → end m k ≡ place k) where
  below : (k : ℕ) → k < v.carriers → k < m.carriers
  below k l = omega (arith, same.floor.carriers)

  floor_of : SameFloor m w → SameFloor v w
  floor_of f =
      record {
        rows = f.rows ∙ sym same.floor.rows;
        columns = f.columns ∙ sym same.floor.columns;
        carriers = f.carriers ∙ sym same.floor.carriers;
      }

  pub went_gone : {U : Type 0} (r : Result U DeckFault) → Went m r w → Gone v place r w
  went_gone (Ok u) (ready, l, moved) =
      record {
        ready = same.ready ∙ ready;
        floor = floor_of moved.floor;
        placed = λ k l. moved.moves k (below k l) ∙ ends k (below k l);
        resting = moved.resting;
      }
  went_gone (Err e) (why, halted) = (
    same.ready ∙ not-true m.ready (λ t. settled.never_both m e why t law),
    record {
      floor = floor_of halted.floor;
      unmoved = λ k l. halted.unmoved k (below k l) ∙ sym (same.unmoved k (below k l));
      resting = halted.resting;
      ready = halted.ready ∙ sym same.ready;
    },
  )

-- the view m, ready as v is
abbrev as_ready : DeckView → DeckView → DeckView
as_ready m v =
    record {
      rows = m.rows;
      columns = m.columns;
      carriers = m.carriers;
      square = m.square;
      heading = m.heading;
      ready = v.ready;
    }

module _ {U : Type 0} (p : Plan) (v w : DeckView) (hs : List Heading) (r : Result U DeckFault) (t : ℕ) (good : Good p) (many : p.carriers ≡ slot_count p.height p.width) (sized : Sized p.height p.width v) (next : t < plan_steps p) (long : length hs ≡ p.carriers) (driven : Driven v hs r w) where
  gone_by :
      (m : DeckView) (place : ℕ → Square)
      → Lawful m
      → ((k : ℕ) → k < m.carriers → end m k ≡ place k)
      → Unchanged (as_ready m v) (headed v hs)
      → Gone v place r w
  gone_by m place law ends same =
      let law-here : Lawful (as_ready m v) = record { remain = law.remain; differ = law.differ; pass = law.pass } in
      went_gone (as_ready m v) v w hs place same law-here ends r
      (goes_alike (as_ready m v) (headed v hs) same r w (driven.goes (omega (arith, sized.carriers))))

  pub moved_gone :
      (way : Way)
      → Placed v p.carriers (leaving way p t)
      → ((c : ℕ) → c < p.carriers → get_or hs c Stay ≡ way_heading way ((whole p).heading t c))
      → Gone v (coming way p t) r w
  moved_gone On placed steered =
      gone_by (moment p t) ((whole p).place (t + 1)) ((plans_are_carried p good).lawful t next)
      (λ k l. (plans_are_carried p good).leads t k next l)
      (record {
        floor = record { rows = sized.rows; columns = sized.columns; carriers = sized.carriers ∙ sym many };
        unmoved = placed;
        headings = steered;
        ready = refl;
      })
  moved_gone Back placed steered =
      gone_by (retreat p t) ((whole p).place t) ((plans_are_carried p good).undone_lawful t next)
      (λ k l. (plans_are_carried p good).undone_leads t k next l)
      (record {
        floor = record { rows = sized.rows; columns = sized.columns; carriers = sized.carriers ∙ sym many };
        unmoved = placed;
        headings = steered;
        ready = refl;
      })

-- what a move that is asked for comes to is what step, or back, comes to
step_held : (f : FloorView) (v w : DeckView) (e : FloorFault) → f.done < f.length → HeldBack f v w e → StepRefused f v w e
step_held f v w e l (HeldBack.astray off same) = StepRefused.astray l off same
step_held f v w e l (HeldBack.go_refused stands why halted) = StepRefused.go_refused l stands why halted

pub stepped_by :
    (f : FloorView) (v : DeckView) (r : Result ℕ FloorFault) (g : FloorView) (w : DeckView)
    → f.done < f.length
    → Advanced f v (f.done + 1) r g w
    → Stepped f v r g w
stepped_by f v (Ok n) g w l (e, moved) = (l, e, moved)
stepped_by f v (Err e) g w l (held, same) = (step_held f v w e l held, same)

back_held : (f : FloorView) (v w : DeckView) (e : FloorFault) → 0 < f.done → HeldBack f v w e → BackRefused f v w e
back_held f v w e l (HeldBack.astray off same) = BackRefused.astray l off same
back_held f v w e l (HeldBack.go_refused stands why halted) = BackRefused.go_refused l stands why halted

pub backed_by :
    (f : FloorView) (v : DeckView) (n : ℕ) (r : Result ℕ FloorFault) (g : FloorView) (w : DeckView)
    → n + 1 ≡ f.done
    → Advanced f v n r g w
    → Backed f v r g w
backed_by f v n (Ok m) g w l (e, moved) = (omega arith, moved)
backed_by f v n (Err e) g w l (held, same) = (back_held f v w e (omega arith) held, same)
