-- What every floor record gives.
use Rattle.std.proofs.Common.{◌≡◌, ℕ, ◌<◌, ◌≤◌, Bool, true, false, List, length, get_or, vec_items, sym, refl, ap, ◌∙◌, subst, mul-le-mul, mul-le-mul_left, arith}
use Rattle.grid.specs.declared.heading.Heading.{Heading}
use Rattle.grid.specs.declared.heading.Heading.TheVariants.{Stay}
use Rattle.grid.specs.Sides.{greatest_side, GoodSides, slot_count}
use Rattle.deck.specs.Decks.{DeckView, Unchanged}
use Rattle.motion.specs.Plans.{whole}
use Rattle.course.specs.declared.route.Route.{Route}
use Rattle.course.specs.declared.stage.Moment.{Moment}
use Rattle.course.specs.Routes.{plan_of}
use Rattle.course.specs.Stages.{motion_of, place_when, heading_when, Alike}
use Rattle.chain.specs.Floors.{Sized, Stands}
use Rattle.floor.specs.Shown.{shown, plan_in}
use Rattle.floor.specs.Standing.{Placed}
use Rattle.floor.specs.Telling.{Tells}
use Rattle.floor.specs.Moving.{way_heading}
use Rattle.floor.specs.declared.record.Floor.{Floor}
use Rattle.floor.specs.declared.record.moves.Way.{Way}

-- no floor has more slots than the largest
pub few_slots : (h w : ℕ) → GoodSides h w → slot_count h w ≤ slot_count greatest_side greatest_side
few_slots h w g = mul-le-mul (mul-le-mul_left 3 g.0.1) g.1.1

pub unchanged : (v : DeckView) → Unchanged v v
unchanged v =
    record {
      floor = record { rows = refl; columns = refl; carriers = refl };
      unmoved = λ k l. refl;
      headings = λ k l. refl;
      ready = refl;
    }

pub when_same : (b : Bool) {A B : Type 0} → (A → B) → (B → A) → Tells b A → Tells b B
when_same true f g a = f a
when_same false f g n = λ b. n (g b)

-- a deck of the floor's sizes stands as the record says exactly when its carriers are placed by the moment
pub stands_when :
    (b : Bool) (f : Floor) (v : DeckView) (routes : List Route) (m : Moment)
    → routes ≡ vec_items f.routes
    → Sized f.sides.height f.sides.width v
    → Alike (whole (plan_in f)) f.steps_done (motion_of m.stage (plan_in f)) m.progress
    → ((h w : ℕ) → Tells b (Placed v (length routes) (place_when m (plan_of h w routes))))
    → Tells b (Stands (shown f) v)
stands_when b f v routes m same sized alike w =
    let items = vec_items f.routes in
    let many = f.many in
    let P : List Route → Type 0 =
    λ rs. Placed v (length rs) (place_when m (plan_of f.sides.height f.sides.width rs)) in
    let here : Tells b (P items) = subst (λ (rs : List Route). Tells b (P rs)) same (w f.sides.height f.sides.width) in
    when_same b {A = P items} {B = Stands (shown f) v}
    (λ p. record { sized = sized; placed = λ c l. p c (omega arith) ∙ sym (alike.place c) })
    (λ s c l. s.placed c (omega arith) ∙ alike.place c)
    here

-- headings by the moment are the plan's
pub headings_whole :
    (f : Floor) (way : Way) (hs : List Heading) (routes : List Route) (m : Moment) (t : ℕ)
    → routes ≡ vec_items f.routes
    → Alike (whole (plan_in f)) t (motion_of m.stage (plan_in f)) m.progress
    → ((h w c : ℕ)
    → c < length routes
    → get_or hs c Stay ≡ way_heading way (heading_when m (plan_of h w routes) c))
    → (c : ℕ)
    → c < (plan_in f).carriers
    → get_or hs c Stay ≡ way_heading way ((whole (plan_in f)).heading t c)
headings_whole f way hs routes m t same alike all c l =
    let here : (x : ℕ) → x < length (vec_items f.routes) → get_or hs x Stay ≡ way_heading way (heading_when m (plan_in f) x) =
    subst
    (λ (rs : List Route). (x : ℕ) → x < length rs → get_or hs x Stay ≡ way_heading way (heading_when m (plan_of f.sides.height f.sides.width rs) x))
    same (all f.sides.height f.sides.width) in
    here c l ∙ ap (way_heading way) (sym (alike.heading c))
