-- A run's heading in each of its cases, and the stages' headings by what is seen upright.
use Rattle.std.proofs.Common.{◌≡◌, ℕ, ◌+◌, ◌*◌, ◌%◌, ◌<◌, ◌≤◌, cond, ltb, sym, refl, ap, ◌∙◌, arith}
use Rattle.std.proofs.lemmas.Bool.Decides.{nat_tests}
use Rattle.grid.specs.declared.heading.Heading.TheVariants.{Stay, Up, Right, Down, Left}
use Rattle.grid.specs.declared.slot.Slot.{Slot}
use Rattle.grid.specs.Headings.{turned_heading}
use Rattle.motion.specs.Runs.{away, run_heading, turn_heading}
use Rattle.motion.specs.Plans.{Plan, goal_column}
use Rattle.course.specs.declared.route.Route.{Route}
use Rattle.course.specs.declared.stage.Stage.{Stage}
use Rattle.course.specs.declared.stage.Stage.TheVariants.{FirstColumns, Turn, Rows, TurnBack, LastColumns}
use Rattle.course.specs.Routes.{HasRoute}
use Rattle.course.specs.Stages.{motion_of}
use Rattle.course.specs.Upright.{run_from, run_to, upright_heading, on_deck}

module _ (from to : ℕ) where
  pub still : (p : ℕ) → from ≡ to → run_heading from to p ≡ Stay
  still p e = grind (arith, nat_tests)

  pub goes_aside : (p : ℕ) → (from ≡ to → ⊥) → p ≡ 0 → run_heading from to p ≡ cond (ltb to from) Left Right
  goes_aside p d e = grind (arith, nat_tests)

  pub goes_along : (p : ℕ) → 0 < p → p ≤ away from to → run_heading from to p ≡ cond (ltb to from) Up Down
  goes_along p l h = grind (arith, nat_tests)

  pub goes_back : (p : ℕ) → (from ≡ to → ⊥) → p ≡ away from to + 1 → run_heading from to p ≡ cond (ltb to from) Right Left
  goes_back p d e = grind (arith, nat_tests)

  pub done : (p : ℕ) → away from to + 1 < p → run_heading from to p ≡ Stay
  done p h = grind (arith, nat_tests)

-- but for the turns, a stage's heading is that of its run
pub in_run :
    (stage : Stage) (r : Route) (p from to : ℕ)
    → from ≡ run_from stage r
    → to ≡ run_to stage r
    → (stage ≡ Turn → ⊥)
    → (stage ≡ TurnBack → ⊥)
    → run_heading from to p ≡ upright_heading stage r p
in_run stage r p from to a b t u =
    ap (λ (x : ℕ). run_heading x to p) a ∙ ap (λ (x : ℕ). run_heading (run_from stage r) x p) b ∙ go stage t u
  where
    go :
        (s : Stage)
        → (s ≡ Turn → ⊥)
        → (s ≡ TurnBack → ⊥)
        → run_heading (run_from s r) (run_to s r) p ≡ upright_heading s r p
    go FirstColumns t u = refl
    go Turn t u = absurd (t refl)
    go Rows t u = refl
    go TurnBack t u = absurd (u refl)
    go LastColumns t u = refl

-- a turn goes by the row's place in its cell
turns_alike : (a b t : ℕ) → a % 3 ≡ b % 3 → turn_heading a t ≡ turn_heading b t
turns_alike a b t e = rw e

-- what is seen upright in a stage is what its motion says
pub seen :
    (stage : Stage) (r : Route) (p : Plan) (c : ℕ)
    → HasRoute p c r
    → (t : ℕ)
    → on_deck stage (upright_heading stage r t) ≡ (motion_of stage p).heading t c
seen FirstColumns r p c h t =
    ap (λ (s : Slot). run_heading s.row r.middle_row t) (sym h.start)
    ∙ ap (λ (m : ℕ). run_heading (p.start c).row m t) (sym h.middle)
seen Turn r p c h t = ap (λ (m : ℕ). turn_heading m t) (sym h.middle)
seen Rows r p c h t =
    ap (λ (s : Slot). turned_heading (run_heading (3 * s.bay + r.middle_row % 3) (3 * r.goal.bay + r.middle_row % 3) t)) (sym h.start)
    ∙ ap (λ (s : Slot). turned_heading (run_heading (3 * (p.start c).bay + r.middle_row % 3) (3 * s.bay + r.middle_row % 3) t)) (sym h.goal)
    ∙ ap (λ (m : ℕ). turned_heading (run_heading (3 * (p.start c).bay + m % 3) (3 * (p.goal c).bay + m % 3) t)) (sym h.middle)
seen TurnBack r p c h t =
    ap turned_heading
    (turns_alike r.middle_row (goal_column p c) t (ap (λ (m : ℕ). m % 3) (sym h.middle) ∙ sym (third (p.goal c).bay (p.middle c))))
  where
    third : (b m : ℕ) → (3 * b + m % 3) % 3 ≡ m % 3
    third b m = omega arith
seen LastColumns r p c h t =
    ap (λ (m : ℕ). run_heading m r.goal.row t) (sym h.middle)
    ∙ ap (λ (s : Slot). run_heading (p.middle c) s.row t) (sym h.goal)
