-- The stage that a plan stands in says where its carriers are and are headed; the lengths of the stages.
use Rattle.std.proofs.Common.{◌≡◌, ℕ, zero, suc, ◌+◌, ◌<◌, ◌≤◌, max, List, map, length, take, Option, unwrap_or, sym, ap, ◌∙◌, add-one, arith}
use Rattle.std.proofs.lemmas.List.{take_all}
use Rattle.std.proofs.lemmas.List.Sums.{fold_more}
use Rattle.std.proofs.lemmas.List.Folds.{max_of_map}
use Rattle.std.specs.List.{reduce}
use Rattle.std.specs.Ordering.{max_by_ordering, nat_cmp}
use Rattle.motion.specs.Plans.{Plan, greatest, first_columns, turning, rows, turning_back, last_columns, whole, plan_steps}
use Rattle.motion.specs.Motions.{Motion, and_then}
use Rattle.motion.proofs.Motions.{place_early, place_late, heading_early, heading_late}
use Rattle.motion.proofs.Lengths.{greatest_none, greatest_more}
use Rattle.motion.proofs.Whole.{from_turn, from_rows, from_turn_back}
use Rattle.course.specs.declared.route.Route.{Route}
use Rattle.course.specs.declared.stage.Stage.{Stage}
use Rattle.course.specs.declared.stage.Stage.TheVariants.{FirstColumns, Turn, Rows, TurnBack, LastColumns}
use Rattle.course.specs.declared.stage.Stages.{Stages}
use Rattle.course.specs.Routes.{nowhere, route_at}
use Rattle.course.specs.Greatest.{greatest_of}
use Rattle.course.specs.Stages.{motion_of, Alike, Staged, Standing}

pub staged_steps :
    (p : Plan) (s : Stages)
    → Staged p s
    → s.first_columns + s.turn + s.rows + s.turn_back + s.last_columns ≡ plan_steps p
unfolding whole
staged_steps p s g = omega (arith, g.first_columns, g.turn, g.rows, g.turn_back, g.last_columns)

-- the greatest of the first n carriers' answers is that of the first n routes
greatest_first :
    (answer : Route → ℕ) (routes : List Route) (n : ℕ)
    → n ≤ length routes
    → greatest_of answer (take n routes) ≡ greatest n (λ c. answer (route_at routes c))
greatest_first answer routes zero h = sym (greatest_none _)
greatest_first answer routes (suc n) h =
    ap (λ (k : ℕ). greatest_of answer (take k routes)) (sym (add-one n))
    ∙ fold_more (λ m r. max m (answer r)) 0 routes n nowhere (omega arith)
    ∙ ap (λ (m : ℕ). max m (answer (route_at routes n))) (greatest_first answer routes n (omega arith))
    ∙ (let e : max (greatest n (λ c. answer (route_at routes c))) (answer (route_at routes n)) ≡ max (answer (route_at routes n)) (greatest n (λ c. answer (route_at routes c))) = omega arith in e)
    ∙ sym (greatest_more n _)

pub greatest_listed :
    (answer : Route → ℕ) (routes : List Route)
    → greatest_of answer routes ≡ greatest (length routes) (λ c. answer (route_at routes c))
greatest_listed answer routes =
    ap (greatest_of answer) (sym (take_all (length routes) routes (omega arith)))
    ∙ greatest_first answer routes (length routes) (omega arith)

-- what `max().unwrap_or(0)` answers of the routes' answers
pub greatest_asked :
    (answer : Route → ℕ) (routes : List Route) (most : Option ℕ) (n : ℕ)
    → n ≡ unwrap_or most 0
    → most ≡ reduce (λ p z. max_by_ordering (nat_cmp p z) p z) (map answer routes)
    → n ≡ greatest_of answer routes
greatest_asked answer routes most n e m = e ∙ ap (λ (o : Option ℕ). unwrap_or o 0) m ∙ max_of_map answer routes

alike_early : (a b : Motion) (t : ℕ) → t < a.steps → Alike (and_then a b) t a t
alike_early a b t h = record { place = λ c. place_early a b t c h; heading = λ c. heading_early a b t c h }

alike_late : (a b : Motion) (t u : ℕ) → t ≡ a.steps + u → Alike (and_then a b) t b u
alike_late a b t u e = record { place = λ c. place_late a b t u c e; heading = λ c. heading_late a b t u c e }

then_alike : {a b d : Motion} {t u v : ℕ} → Alike a t b u → Alike b u d v → Alike a t d v
then_alike x y = record { place = λ c. x.place c ∙ y.place c; heading = λ c. x.heading c ∙ y.heading c }

pub stands_alike :
    (p : Plan) (s : Stages)
    → Staged p s
    → (t : ℕ) (stage : Stage) (n : ℕ)
    → Standing s t stage n
    → Alike (whole p) t (motion_of stage p) n
unfolding whole
stands_alike p s g t FirstColumns n st =
    let e : t ≡ n = omega (arith, st.made) in
    then_alike (alike_early (first_columns p) (from_turn p) t (omega (arith, g.first_columns))) (record {
      place = λ c. ap (λ (u : ℕ). (first_columns p).place u c) e;
      heading = λ c. ap (λ (u : ℕ). (first_columns p).heading u c) e;
    })
stands_alike p s g t Turn n st =
    then_alike (alike_late (first_columns p) (from_turn p) t n (omega (arith, g.first_columns)))
    (alike_early (turning p) (from_rows p) n (omega (arith, g.turn)))
stands_alike p s g t Rows n st =
    then_alike (alike_late (first_columns p) (from_turn p) t (s.turn + n) (omega (arith, g.first_columns)))
    (then_alike (alike_late (turning p) (from_rows p) (s.turn + n) n (omega (arith, g.turn)))
    (alike_early (rows p) (from_turn_back p) n (omega (arith, g.rows))))
stands_alike p s g t TurnBack n st =
    let n3 : ℕ = s.rows + n in
    then_alike (alike_late (first_columns p) (from_turn p) t (s.turn + n3) (omega (arith, g.first_columns)))
    (then_alike (alike_late (turning p) (from_rows p) (s.turn + n3) n3 (omega (arith, g.turn)))
    (then_alike (alike_late (rows p) (from_turn_back p) n3 n (omega (arith, g.rows)))
    (alike_early (turning_back p) (last_columns p) n (omega (arith, g.turn_back)))))
stands_alike p s g t LastColumns n st =
    let n4 : ℕ = s.turn_back + n in
    let n3 : ℕ = s.rows + n4 in
    then_alike (alike_late (first_columns p) (from_turn p) t (s.turn + n3) (omega (arith, g.first_columns)))
    (then_alike (alike_late (turning p) (from_rows p) (s.turn + n3) n3 (omega (arith, g.turn)))
    (then_alike (alike_late (rows p) (from_turn_back p) n3 n4 (omega (arith, g.rows)))
    (alike_late (turning_back p) (last_columns p) n4 n (omega (arith, g.turn_back)))))
