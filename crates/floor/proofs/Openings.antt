-- A floor in which every carrier rests where it stands is as a new record is to be.
use Rattle.std.proofs.Common.{◌≡◌, ℕ, List, length, refl, ap, ◌∙◌, subst}
use Rattle.grid.specs.declared.sides.Sides.{Sides}
use Rattle.grid.specs.Sides.{slot_count}
use Rattle.deck.specs.Decks.{DeckView, Sound}
use Rattle.motion.specs.Carrying.{Good}
use Rattle.course.specs.declared.route.Route.{Route}
use Rattle.course.specs.declared.stage.Stages.{Stages}
use Rattle.course.specs.Routes.{route_at, plan_of}
use Rattle.course.specs.Stages.{Staged, total_steps}
use Rattle.course.proofs.Courses.{staged_steps}
use Rattle.chain.specs.Floors.{FloorView, Sized}
use Rattle.chain.specs.Calls.{OnSlots, Opening}
use Rattle.chain.proofs.Fitting.{opened_good, opened_steps}
use Rattle.floor.specs.Resting.{AllRest}

-- the sides that were asked for
pub at_sides : (s : Sides) (h w : ℕ) → (s.height ≡ h) × (s.width ≡ w) → (P : ℕ → ℕ → Type 0) → P s.height s.width → P h w
at_sides s h w e P x = subst (λ (b : ℕ). P h b) e.1 (subst (λ (a : ℕ). P a s.width) e.0 x)

module _ (h w : ℕ) (v : DeckView) (routes : List Route) (sized : Sized h w v) (sound : Sound v) (long : length routes ≡ slot_count h w) (all : AllRest h w v (slot_count h w) routes) where
  -- the record, so many steps long
  abbrev fresh : ℕ → FloorView
  fresh n = record { height = h; width = w; plan = plan_of h w routes; done = 0; length = n; orders = 0 }

  opening : (n : ℕ) → n ≡ 0 → Opening h w v (fresh n)
  opening n none =
      record {
        height = refl;
        width = refl;
        plan_height = refl;
        plan_width = refl;
        carriers = long;
        starts = λ c l. (all c l).stands;
        middles = λ c l. ap (λ (r : Route). r.middle_row) (all c l).rests;
        goals = λ c l. ap (λ (r : Route). r.goal) (all c l).rests;
        done = refl;
        length = none;
        orders = refl;
      }

  pub rest_good : Good (plan_of h w routes)
  rest_good = opened_good h w v (fresh 0) sized sound (opening 0 refl)

  -- nobody has any way to go
  pub rest_opening : (s : Stages) → Staged (plan_of h w routes) s → Opening h w v (fresh (total_steps s))
  rest_opening s g =
      opening (total_steps s)
      (staged_steps (plan_of h w routes) s g ∙ opened_steps h w v (fresh 0) sized sound (opening 0 refl))

pub on_slots : (h w : ℕ) (v : DeckView) (routes : List Route) → AllRest h w v (slot_count h w) routes → OnSlots h w v
on_slots h w v routes all c l = ((route_at routes c).start, (all c l).stands)
