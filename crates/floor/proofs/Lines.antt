-- Letters in a row.
use Rattle.std.proofs.Common.{◌≡◌, ℕ, ◌+◌, ◌<◌, List, [], ◌∷◌, ◌++◌, map, length, get_or, take, drop, set, vec_items, sym, refl, ap, ◌∙◌, subst, arith, length-drop, length-take, get_or-take}
use Rattle.std.specs.List.{range_with_len}
use Rattle.std.proofs.lemmas.List.FromFn.{fill_by_all}
use Rattle.std.proofs.lemmas.List.{take-append-drop}
use Rattle.grid.specs.Headings.{letter}
use Rattle.grid.specs.Sides.{slot_count}
use Rattle.motion.specs.Plans.{whole}
use Rattle.course.specs.declared.route.Route.{Route}
use Rattle.course.specs.declared.stage.Moment.{Moment}
use Rattle.course.specs.Routes.{plan_of}
use Rattle.course.specs.Stages.{motion_of, Alike}
use Rattle.floor.specs.Shown.{shown, plan_in}
use Rattle.floor.specs.Lines.{letters, line_bytes}
use Rattle.floor.specs.declared.record.Floor.{Floor}

ends : (xs zs : List ℕ) (x : ℕ) → length zs ≡ 1 → set (xs ++ zs) (length xs) x ≡ xs ++ x ∷ []
ends [] [] x h = absurd (omega arith)
ends [] (z ∷ []) x h = refl
ends [] (z ∷ y ∷ zs) x h = absurd (omega arith)
ends (y ∷ xs) zs x h = ap (λ t. y ∷ t) (ends xs zs x h)

-- a row that holds f k at each place, and then its end
pub row_ended :
    (f : ℕ → ℕ) (xs : List ℕ) (n x : ℕ)
    → length xs ≡ n + 1
    → ((k : ℕ) → k < n → get_or xs k 0 ≡ f k)
    → set xs n x ≡ map f (range_with_len 0 n) ++ x ∷ []
row_ended f xs n x long at =
    let front : length (take n xs) ≡ n = simp length-take (omega arith) in
    let last : length (drop n xs) ≡ 1 = simp length-drop (omega arith) in
    let same : take n xs ≡ map f (range_with_len 0 n) =
    fill_by_all f (take n xs) n 0 front (λ k h. get_or-take n xs k 0 h ∙ at k h) in
    let whole : take n xs ++ drop n xs ≡ xs = take-append-drop n xs in
    ap (λ (t : List ℕ). set t n x) (sym whole)
    ∙ ap (λ (k : ℕ). set (take n xs ++ drop n xs) k x) (sym front)
    ∙ ends (take n xs) (drop n xs) x last
    ∙ ap (λ (t : List ℕ). t ++ x ∷ []) same

same_letters : {f g : ℕ → ℕ} → ((c : ℕ) → f c ≡ g c) → (cs : List ℕ) → map f cs ≡ map g cs
same_letters e [] = refl
same_letters e (c ∷ cs) = let h = e c in let t = same_letters e cs in cc

-- the letters by the moment are the plan's
pub letters_whole :
    (f : Floor) (bytes : List ℕ) (routes : List Route) (m : Moment)
    → routes ≡ vec_items f.routes
    → Alike (whole (plan_in f)) f.steps_done (motion_of m.stage (plan_in f)) m.progress
    → ((h w : ℕ) → bytes ≡ letters (motion_of m.stage (plan_of h w routes)) m.progress (length routes) ++ 10 ∷ [])
    → bytes ≡ line_bytes (shown f)
letters_whole f bytes routes m same alike all =
    let h = f.sides.height in
    let w = f.sides.width in
    let here : bytes ≡ letters (motion_of m.stage (plan_in f)) m.progress (length (vec_items f.routes)) ++ 10 ∷ [] =
    subst (λ (rs : List Route). bytes ≡ letters (motion_of m.stage (plan_of h w rs)) m.progress (length rs) ++ 10 ∷ []) same (all h w) in
    here
    ∙ ap (λ (k : ℕ). letters (motion_of m.stage (plan_in f)) m.progress k ++ 10 ∷ []) f.many
    ∙ ap (λ (t : List ℕ). t ++ 10 ∷ []) (same_letters (λ c. ap letter (sym (alike.heading c))) (range_with_len 0 (slot_count h w)))
