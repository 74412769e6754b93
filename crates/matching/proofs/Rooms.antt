-- What is at a place of a work list, and how long it is.
use Rattle.std.proofs.Common.{◌≡◌, ℕ, ◌+◌, ◌-◌, ◌<◌, ◌≤◌, List, length, set, take, drop, map, get_or, sym, inl, inr, ⊎_elim, ap, ◌∙◌, arith}
use Rattle.std.specs.List.{CopiedTo, SameBelow}
use Rattle.std.proofs.lemmas.List.{length-map, get_or-map, length-drop, length-take-le, take_rest, get_or-take, get_or-drop, map-set, set-get_or}
use Rattle.matchings.specs.Matchings.{◌!◌}
use Rattle.matchings.specs.Placing.{Split, Gathered}
use Rattle.matching.specs.declared.work_list.Entry.{Entry}
use Rattle.matching.specs.declared.work_list.WorkList.{WorkList}
use Rattle.matching.specs.WorkLists.{member_of, members_of, parents_of, parent_of, places}

abbrev pub empty : Entry
empty = record { member = 0; parent = 0 }

pub members_long : (w : WorkList) → length (members_of w) ≡ places w
members_long w = length-map w.entries.now member_of

pub parents_long : (w : WorkList) → length (parents_of w) ≡ places w
parents_long w = length-map w.entries.now parent_of

-- the entry k as it is read
pub member_at : (es : List Entry) (k : ℕ) → k < length es → (get_or es k empty).member ≡ map member_of es ! k
member_at es k h = sym (get_or-map member_of es k empty 0 h)

-- the same, where the first c entries are gone over
pub first_at : (es f : List Entry) (c k : ℕ) → f ≡ take c es → c ≤ length es → k < length f → (k < c) × ((get_or f k empty).member ≡ map member_of es ! k)
first_at es f c k is fits h =
    let long : length f ≡ c = ap length is ∙ length-take-le c es fits in
    let low : k < c = omega arith in
    (low, ap (λ (xs : List Entry). (get_or xs k empty).member) is ∙ ap member_of (get_or-take c es k empty low) ∙ member_at es k (omega arith))

-- what is true of the members of the first entries
pub split_first : (es f : List Entry) (c label : ℕ) (old new : List ℕ) → f ≡ take c es → c ≤ length es
    → Split (map member_of f) (length f) label old new → Split (map member_of es) c label old new
split_first es f c label old new is fits S i =
    let long : length f ≡ c = ap length is ∙ length-take-le c es fits in
    let here : (k : ℕ) → k < c → map member_of f ! k ≡ map member_of es ! k = λ k h. sym (member_at f k (omega arith)) ∙ (first_at es f c k is fits (omega arith)).1 in
    ⊎_elim
    (λ s. let z = s.0.1 in inl ((s.0.0, omega arith, sym (here s.0.0 (omega arith)) ∙ s.0.2), s.1))
    (λ s. inr ((λ a. let z = a.1 in s.0 (a.0, omega arith, here a.0 a.1 ∙ a.2)), s.1))
    (S i)

-- a number of a list, where it is gone over from the place a on
pub rest_at : {X : Type 0} (xs : List X) (a k : ℕ) (d : X) → k < length (take (length xs - a) (drop a xs))
    → (a + k < length xs) × (get_or (take (length xs - a) (drop a xs)) k d ≡ get_or xs (a + k) d)
rest_at xs a k d h =
    let e = take_rest xs a in
    let long = ap length e ∙ length-drop a xs in
    (omega arith, ap (λ ys. get_or ys k d) e ∙ get_or-drop a xs k d)

-- the member of an entry, where the first c entries are gone over from the place a on
pub after_at : (es f : List Entry) (c a k : ℕ) (d : Entry) → f ≡ take c es → c ≤ length es → k < length (take (length f - a) (drop a f))
    → (a + k < c) × ((get_or (take (length f - a) (drop a f)) k d).member ≡ map member_of es ! (a + k))
after_at es f c a k d is fits h =
    let r = rest_at f a k d h in
    let long : length f ≡ c = ap length is ∙ length-take-le c es fits in
    let low : a + k < c = omega arith in
    (low, ap member_of r.1 ∙ ap (λ (xs : List Entry). (get_or xs (a + k) d).member) is ∙ ap member_of (get_or-take c es (a + k) d low) ∙ sym (get_or-map member_of es (a + k) d 0 (omega arith)))

-- another member leaves the parents
pub parent_kept : (es : List Entry) (i m : ℕ) → i < length es
    → map parent_of (set es i (record { member = m; parent = (get_or es i empty).parent })) ≡ map parent_of es
parent_kept es i m h = map-set parent_of es i (record { member = m; parent = (get_or es i empty).parent })
    ∙ ap (λ (x : ℕ). set (map parent_of es) i x) (sym (get_or-map parent_of es i empty 0 h)) ∙ set-get_or (map parent_of es) i 0

-- entries that are copied to right behind the first one
pub copied : (count reached : ℕ) (a b : List Entry) → 0 < reached → reached ≤ count → count ≤ length a → length b ≡ length a
    → CopiedTo a b reached 1 (count - reached) → SameBelow a b 1 → Gathered count reached (map member_of a) (map member_of b)
copied count reached a b some low fits e to below = record {
  first = sym (member_at b 0 (omega arith)) ∙ ap member_of (below 0 empty (omega arith)) ∙ member_at a 0 (omega arith);
  rest = λ k h. sym (member_at b (k + 1) (omega arith)) ∙ ap member_of (to (k + 1) empty (omega arith) (omega arith))
      ∙ ap (λ (x : ℕ). (get_or a x empty).member) (let q : reached + (k + 1 - 1) ≡ k + reached = omega arith in q) ∙ member_at a (k + reached) (omega arith);
}
