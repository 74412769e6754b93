use Rattle.std.proofs.Common.{◌≡◌, ℕ, ◌+◌, ◌-◌, ◌<◌, ◌≤◌, ◌∙◌, List, Bool, true, false, not, length, take, drop, get_or, ap, refl, MatchBool, arith, rules, tests}
use Rattle.std.specs.List.{HoldsAt, AllWithin, zip}
use Rattle.std.proofs.lemmas.Iterator.{cases_from_any, YieldsList-from_slice, YieldsList-from_zip}
use Rattle.std.proofs.lemmas.Slice.Zip.{length-zip, get_or-zip}
use Rattle.matchings.specs.Matchings.{◌!◌}
use Rattle.matchings.specs.Placing.{HasLeast}
use Rattle.std.proofs.lemmas.List.{length-drop, take_rest}
use Rattle.matching.proofs.Rooms.{rest_at}
use Rattle.matching.proofs.search.has_least.Goals as goal

-- the numbers of a list from the place a on
abbrev after : List ℕ → ℕ → List ℕ
after xs a = take (length xs - a) (drop a xs)

-- a later member of the block of `left` has no lesser right member that `left` allows
abbrev Keeps : (A : ℕ → ℕ → Bool) (left : ℕ) (block mate : List ℕ) → ℕ × ℕ → Type 0
Keeps A left block mate p = p.1 ≡ block ! left → A left p.0 ≡ true → mate ! left ≤ p.0

told : (A : ℕ → ℕ → Bool) (n left : ℕ) (block mate : List ℕ) (b : Bool) → length mate ≡ n → length block ≡ n
    → MatchBool b ((k : ℕ) × (k < length (zip (after mate (left + 1)) (after block (left + 1)))) × HoldsAt (λ p. Unit {0}) (zip (after mate (left + 1)) (after block (left + 1))) k) (AllWithin (Keeps A left block mate) (zip (after mate (left + 1)) (after block (left + 1))) 0 (length (zip (after mate (left + 1)) (after block (left + 1)))))
    → MatchBool (not b) (HasLeast A n left block mate) (Unit {0})
told A n left block mate true m k h = tt
told A n left block mate false m k h = λ l lo hi e a.
    (let xs = after mate (left + 1) in
    let ys = after block (left + 1) in
    let i = l - (left + 1) in
    let lx : length xs ≡ length mate - (left + 1) = ap length (take_rest mate (left + 1)) ∙ length-drop (left + 1) mate in
    let ly : length ys ≡ length block - (left + 1) = ap length (take_rest block (left + 1)) ∙ length-drop (left + 1) block in
    let u : i < length xs = omega arith in
    let v : i < length ys = omega arith in
    let z = length-zip xs ys in
    let w : i < length (zip xs ys) = grind arith in
    let at : left + 1 + i ≡ l = omega arith in
    let p = get_or-zip xs ys i (0, 0) u v in
    let rx : (get_or (zip xs ys) i (0, 0)).0 ≡ mate ! l = ap (λ (q : ℕ × ℕ). q.0) p ∙ (rest_at mate (left + 1) i 0 u).1 ∙ ap (λ (j : ℕ). mate ! j) at in
    let ry : (get_or (zip xs ys) i (0, 0)).1 ≡ block ! l = ap (λ (q : ℕ × ℕ). q.1) p ∙ (rest_at block (left + 1) i 0 v).1 ∙ ap (λ (j : ℕ). block ! j) at in
    let f = h i (0, 0) (omega arith) w (ry ∙ e) (ap (A left) rx ∙ a) in
    omega (arith, rx, f))

pub returns : goal.returns
returns g c =
    let A = g.R.Relation.allowed c.args.rel.now in
    let mate = c.args.mate.now in
    let block = c.args.block.now in
    told A (length mate) c.args.left block mate c.any.result refl (search rules)
    (cases_from_any c.any.new.self _ c.any.result (λ p. Unit {0}) (Keeps A c.args.left block mate) c.any.ensures.ran
    (YieldsList-from_zip (YieldsList-from_slice (after mate (c.args.left + 1)) cc) (YieldsList-from_slice (after block (c.args.left + 1)) cc)) (λ x q k. search (rules, tests)) (λ x q k. search (rules, tests)))
