-- One row given out, and one after another.
use Rattle.std.proofs.Common.{◌≡◌, ℕ, ◌+◌, ◌*◌, ◌<◌, ◌≤◌, Bool, ◌&&◌, eqb, ltb, leb, ◌≢◌, ◌⊎◌, List, [], length, get_or, set, sym, refl, ap, ◌∙◌, subst, inl, inr, ⊎_elim, mul_comm, arith, length-set, get_or-set_other, get_or-set_same, Result, Ok, Err, IsOk}
use Rattle.std.proofs.lemmas.Bool.{cases_eq, cases_lt, and_from, and_parts, eq-eqb, eqb-true, le-leb, leb-true, ltb-true}
use Rattle.grid.specs.declared.sides.Sides.{Sides}
use Rattle.grid.specs.declared.slot.Slot.{Slot}
use Rattle.grid.specs.Sides.{row_count}
use Rattle.matchings.specs.Matchings.{◌!◌, Perfect, First}
use Rattle.matchings.specs.Regular.{RegularCounts}
use Rattle.std.specs.Prelude.{⊤}
use Rattle.matching.specs.declared.search.Blockers.{Blockers}
use Rattle.matching.specs.Answers.{Answer}
use Rattle.motion.specs.Carrying.{InSlots}
use Rattle.course.specs.declared.route.Route.{Route}
use Rattle.course.specs.Routes.{nowhere, route_at}
use Rattle.planning.specs.MiddleRows.{allows, Round}
use Rattle.planning.proofs.Slots.{slots_of}
use Rattle.planning.proofs.Rounds.{SameEnds as SamePlanEnds, Agree, first_agree, waiting_agree, perfect_moved, first_moved, first_below, round_agree, regular_counts, none_left}
use Rattle.plan.specs.Routes.{plan_on, SameEnds}
use Rattle.plan.specs.Rows.{middle_of, waiting_routes, Tallied, LowRows, Lowest, Gave, Whole, FirstRows}

abbrev start_row_of : List Route → ℕ → ℕ
start_row_of rs c = (route_at rs c).start.row

abbrev start_bay_of : List Route → ℕ → ℕ
start_bay_of rs c = (route_at rs c).start.bay

abbrev goal_bay_of : List Route → ℕ → ℕ
goal_bay_of rs c = (route_at rs c).goal.bay

pub plan_ends : (s : Sides) (a b : List Route) → SameEnds a b → SamePlanEnds (plan_on s a) (plan_on s b)
plan_ends s a b E = record { width = refl; carriers = E.long; start = λ c l. E.start c; goal = λ c l. E.goal c }

pub ends_same : (a : List Route) → SameEnds a a
ends_same a = record { long = refl; start = λ c. refl; goal = λ c. refl }

pub ends_both : {a b c : List Route} → SameEnds a b → SameEnds b c → SameEnds a c
ends_both p q = record { long = q.long ∙ p.long; start = λ i. q.start i ∙ p.start i; goal = λ i. q.goal i ∙ p.goal i }

pub in_slots_kept :
    (s : Sides) (a b : List Route) (f g : ℕ → Slot)
    → length b ≡ length a
    → ((c : ℕ) → g c ≡ f c)
    → InSlots (plan_on s a) f
    → InSlots (plan_on s b) g
in_slots_kept s a b f g long e S =
    record {
      inside =
          λ c l.
          let x = S.inside c (omega arith) in
          let r = ap (λ (z : Slot). z.row) (e c) in
          let k = ap (λ (z : Slot). z.bay) (e c) in
          (let y = x.0 in omega arith, let y = x.1 in omega arith);
      apart = λ c d l ld q. S.apart c d l (omega arith) (sym (e c) ∙ q ∙ e d);
    }

pub whole_kept : (s : Sides) (a b : List Route) → SameEnds a b → Whole s a → Whole s b
whole_kept s a b E W =
    record {
      many = E.long ∙ W.many;
      starts = in_slots_kept s a b (λ c. (route_at a c).start) (λ c. (route_at b c).start) E.long E.start W.starts;
      goals = in_slots_kept s a b (λ c. (route_at a c).goal) (λ c. (route_at b c).goal) E.long E.goal W.goals;
    }

-- the first j bays have their carrier
pub record Given (a b : List Route) (k : ℕ) (goals : List ℕ) (j : ℕ) : Type 0 where
  pub ends : SameEnds a b
  pub changed : (c : ℕ) → c < length a → (middle_of b c ≡ middle_of a c) ⊎ ((k ≤ middle_of a c) × (middle_of b c ≡ k))
  pub goes : (c : ℕ) → c < length a → middle_of b c ≡ k → (start_bay_of b c < j) × (goal_bay_of b c ≡ goals ! start_bay_of b c)
  pub lowest : (c d : ℕ) → c < length a → d < length a → middle_of b c ≡ k → k ≤ middle_of b d → start_bay_of b d ≡ start_bay_of b c → goal_bay_of b d ≡ goal_bay_of b c → start_row_of b c ≤ start_row_of b d
  pub taken : (i : ℕ) → i < j → (c : ℕ) × (c < length a) × (middle_of b c ≡ k) × (start_bay_of b c ≡ i)

pub given_none : (a : List Route) (k : ℕ) (goals : List ℕ) → ((c : ℕ) → c < length a → middle_of a c ≡ k → ⊥) → Given a a k goals 0
given_none a k goals fresh =
    record {
      ends = ends_same a;
      changed = λ c l. inl refl;
      goes = λ c l e. absurd (fresh c l e);
      lowest = λ c d lc ld e. absurd (fresh c lc e);
      taken = λ i l. absurd (omega arith);
    }

pub given_low : (a b : List Route) → SameEnds a b → LowRows a → LowRows b
given_low a b E h c l =
    let z = E.long in
    let x = h c (omega arith) in
    let y = ap (λ (s : Slot). s.row) (E.start c) in
    omega arith

given_agree :
    (s : Sides) (a b : List Route) (k : ℕ)
    → ((c : ℕ) → c < length a → (middle_of b c ≡ middle_of a c) ⊎ ((k ≤ middle_of a c) × (middle_of b c ≡ k)))
    → Agree (plan_on s a) (plan_on s b) k
given_agree s a b k h c l = ⊎_elim (λ e. inl (sym e)) (λ p. inr (p.0, let z = p.1 in omega arith)) (h c l)

-- one waits for each pair of the matching
pub still_waits :
    (s : Sides) (a b : List Route) (k : ℕ) (goals : List ℕ) (j : ℕ)
    → Given a b k goals j
    → Perfect (allows (plan_on s a) k) s.width goals
    → j < s.width
    → 0 < waiting_routes b (length b) k j (goals ! j)
still_waits s a b k goals j G F l =
    let x = ltb-true 0 (waiting_routes a (length a) k j (goals ! j)) (F.allowed j l) in
    let y = waiting_agree (plan_on s a) (plan_on s b) (plan_ends s a b G.ends) k k (given_agree s a b k G.changed) (omega arith) j (goals ! j) in
    omega arith

module _ (a b : List Route) (k : ℕ) (goals : List ℕ) (j : ℕ) (G : Given a b k goals j) (c : ℕ) (L : Lowest b k j (get_or goals j 0) c) where
  abbrev new : Route
  new = record { start = (get_or b c nowhere).start; middle_row = k; goal = (get_or b c nowhere).goal }

  abbrev next : List Route
  next = set b c new

  at : get_or next c nowhere ≡ new
  at = get_or-set_same b c new nowhere L.here

  other : (d : ℕ) → d ≢ c → get_or next d nowhere ≡ get_or b d nowhere
  other d ne = get_or-set_other b c d new nowhere ne

  starts : (d : ℕ) → (get_or next d nowhere).start ≡ (get_or b d nowhere).start
  starts d = ⊎_elim (λ e. subst (λ (x : ℕ). (get_or next x nowhere).start ≡ (get_or b x nowhere).start) (sym e) (ap (λ (r : Route). r.start) at)) (λ ne. ap (λ (r : Route). r.start) (other d ne)) (cases_eq d c)

  goals_are : (d : ℕ) → (get_or next d nowhere).goal ≡ (get_or b d nowhere).goal
  goals_are d = ⊎_elim (λ e. subst (λ (x : ℕ). (get_or next x nowhere).goal ≡ (get_or b x nowhere).goal) (sym e) (ap (λ (r : Route). r.goal) at)) (λ ne. ap (λ (r : Route). r.goal) (other d ne)) (cases_eq d c)

  sb : (d : ℕ) → start_bay_of next d ≡ start_bay_of b d
  sb d = ap (λ (s : Slot). s.bay) (starts d)

  sr : (d : ℕ) → start_row_of next d ≡ start_row_of b d
  sr d = ap (λ (s : Slot). s.row) (starts d)

  gb : (d : ℕ) → goal_bay_of next d ≡ goal_bay_of b d
  gb d = ap (λ (s : Slot). s.bay) (goals_are d)

  mc : middle_of next c ≡ k
  mc = ap (λ (r : Route). r.middle_row) at

  mo : (d : ℕ) → d ≢ c → middle_of next d ≡ middle_of b d
  mo d ne = ap (λ (r : Route). r.middle_row) (other d ne)

  parts : (start_bay_of b c ≡ j) × (goal_bay_of b c ≡ get_or goals j 0) × (k ≤ middle_of b c)
  parts =
      let x = and_parts (eqb (start_bay_of b c) j) (eqb (goal_bay_of b c) (get_or goals j 0) && leb k (middle_of b c)) L.waits in
      let y = and_parts (eqb (goal_bay_of b c) (get_or goals j 0)) (leb k (middle_of b c)) x.1 in
      (eqb-true (start_bay_of b c) j x.0, eqb-true (goal_bay_of b c) (get_or goals j 0) y.0, leb-true k (middle_of b c) y.1)

  inside : c < length a
  inside = let x = L.here in let y = G.ends.long in omega arith

  -- it had no middle_of row of this round
  waited : k ≤ middle_of a c
  waited = ⊎_elim (λ e. let p = parts.2 in omega arith) (λ p. p.0) (G.changed c inside)

  -- the middle row of one other than c
  was : (d : ℕ) → d ≢ c → middle_of next d ≡ k → middle_of b d ≡ k
  was d ne e = sym (mo d ne) ∙ e

  over : (d : ℕ) → k ≤ middle_of next d → k ≤ middle_of b d
  over d h = ⊎_elim (λ e. subst (λ (x : ℕ). k ≤ middle_of b x) (sym e) parts.2) (λ ne. let z = mo d ne in omega arith) (cases_eq d c)

  pub given_more : Given a next k goals (j + 1)
  given_more = record {
    ends = ends_both G.ends (record { long = length-set b c new; start = starts; goal = goals_are });
    changed = λ d l. ⊎_elim (λ e. inr (subst (λ (x : ℕ). k ≤ middle_of a x) (sym e) waited, subst (λ (x : ℕ). middle_of next x ≡ k) (sym e) mc))
        (λ ne. ⊎_elim (λ q. inl (mo d ne ∙ q)) (λ p. inr (p.0, mo d ne ∙ p.1)) (G.changed d l)) (cases_eq d c);
    goes = λ d l e. ⊎_elim
        (λ q. subst (λ (x : ℕ). (start_bay_of next x < j + 1) × (goal_bay_of next x ≡ get_or goals (start_bay_of next x) 0)) (sym q)
        (let p = parts.0 in let s = sb c in omega arith, gb c ∙ parts.1 ∙ ap (λ (x : ℕ). get_or goals x 0) (sym (sb c ∙ parts.0))))
        (λ ne. let p = G.goes d l (was d ne e) in
        (let s = sb d in let z = p.0 in omega arith, gb d ∙ p.1 ∙ ap (λ (x : ℕ). get_or goals x 0) (sym (sb d)))) (cases_eq d c);
    lowest = λ d i ld li e h s g.
        let s' : start_bay_of b i ≡ start_bay_of b d = sym (sb i) ∙ s ∙ sb d in
        let g' : goal_bay_of b i ≡ goal_bay_of b d = sym (gb i) ∙ g ∙ gb d in
        let x = sr d in let y = sr i in
        let z : start_row_of b d ≤ start_row_of b i = ⊎_elim
        (λ q. subst (λ (x : ℕ). start_row_of b x ≤ start_row_of b i) (sym q) (L.least i (let v = G.ends.long in omega arith)
        (and_from (eqb (start_bay_of b i) j) (eqb (goal_bay_of b i) (get_or goals j 0) && leb k (middle_of b i)) (eq-eqb (start_bay_of b i) j (s' ∙ ap (start_bay_of b) q ∙ parts.0))
        (and_from (eqb (goal_bay_of b i) (get_or goals j 0)) (leb k (middle_of b i)) (eq-eqb (goal_bay_of b i) (get_or goals j 0) (g' ∙ ap (goal_bay_of b) q ∙ parts.1)) (le-leb k (middle_of b i) (over i h))))))
        (λ ne. G.lowest d i ld li (was d ne e) (over i h) s' g') (cases_eq d c) in
        omega arith;
    taken = λ i l. ⊎_elim (λ e. (c, inside, mc, sb c ∙ parts.0 ∙ sym e))
        (λ ne. let t = G.taken i (omega arith) in
        (t.0, t.1, mo t.0 (λ q. ne (sym t.3 ∙ ap (start_bay_of b) q ∙ parts.0)) ∙ t.2, sb t.0 ∙ t.3)) (cases_eq i j);
  }

-- all bays have their carrier
pub gave :
    (s : Sides) (a b : List Route) (k : ℕ) (goals : List ℕ) (j : ℕ)
    → j ≡ s.width
    → Given a b k goals j
    → Perfect (allows (plan_on s a) k) s.width goals
    → Gave s a b k goals
gave s a b k goals j e G F =
    record {
      ends = G.ends;
      changed = G.changed;
      round = record {
        perfect = perfect_moved (plan_on s a) (plan_on s b) (plan_ends s a b G.ends) k goals (given_agree s a b k G.changed) F;
        paired = λ c l q. (G.goes c (inside c l) q).1;
        lowest = λ c d lc ld. G.lowest c d (inside c lc) (inside d ld);
        each = λ i l. let t = G.taken i (omega arith) in (t.0, (let x = t.1 in let y = G.ends.long in omega arith), t.2, t.3);
      };
    }
  where
    inside : (c : ℕ) → c < length b → c < length a
    inside c l = let y = G.ends.long in omega arith

-- row m is given out by the first perfect matching
abbrev pub RoundDone : Sides → List Route → ℕ → Type 0
RoundDone s b m = (bays : List ℕ) × Round (plan_on s b) m bays × First (allows (plan_on s b) m) s.width bays

-- rows below k are given out, and the other carriers have r
pub record Upto (s : Sides) (a b : List Route) (r k : ℕ) : Type 0 where
  pub ends : SameEnds a b
  pub rounds : (m : ℕ) → m < k → RoundDone s b m
  pub rest : (c : ℕ) → c < length a → k ≤ middle_of b c → middle_of b c ≡ r

pub upto_fresh : (s : Sides) (a b : List Route) (r k : ℕ) → Upto s a b r k → k < r → (c : ℕ) → c < length b → middle_of b c ≡ k → ⊥
upto_fresh s a b r k U l c lc e = let z = U.rest c (let y = U.ends.long in omega arith) (omega arith) in omega arith

pub upto_more :
    (s : Sides) (a b d : List Route) (r k : ℕ) (m : List ℕ)
    → Upto s a b r k
    → k < r
    → First (allows (plan_on s b) k) s.width m
    → Gave s b d k m
    → Upto s a d r (k + 1)
upto_more s a b d r k m U l F G =
    let E = plan_ends s b d G.ends in
    let h : Agree (plan_on s b) (plan_on s d) k = given_agree s b d k G.changed in
    record {
      ends = ends_both U.ends G.ends;
      rounds =
          λ i li.
          ⊎_elim
          (λ e. subst (λ (x : ℕ). RoundDone s d x) (sym e) (m, G.round, first_moved (plan_on s b) (plan_on s d) E k m h F))
          (λ ne.
          let t = U.rounds i (omega arith) in (
            t.0,
            round_agree (plan_on s b) (plan_on s d) E k i h (omega arith) t.0 t.1,
            first_below (plan_on s b) (plan_on s d) E k i h (omega arith) t.0 t.2,
          ))
          (cases_eq i k);
      rest =
          λ c lc q.
          let y = U.ends.long in
          ⊎_elim (λ e. let z = U.rest c lc (omega arith) in omega arith) (λ p. absurd (let z = p.1 in omega arith)) (G.changed c (omega arith));
    }

-- the matchings so far
matching_of : (s : Sides) (b : List Route) (k : ℕ) → ((m : ℕ) → m < k → RoundDone s b m) → (m : ℕ) → (m < k) ⊎ (k ≤ m) → List ℕ
matching_of s b k R m (inl l) = (R m l).0
matching_of s b k R m (inr h) = []

round_of :
    (s : Sides) (b : List Route) (k : ℕ) (R : (m : ℕ) → m < k → RoundDone s b m) (m : ℕ) (d : (m < k) ⊎ (k ≤ m))
    → m < k
    → Round (plan_on s b) m (matching_of s b k R m d) × First (allows (plan_on s b) m) s.width (matching_of s b k R m d)
unfolding matching_of
round_of s b k R m (inl l) i = ((R m l).1, (R m l).2)
round_of s b k R m (inr h) i = absurd (omega arith)

module _ (s : Sides) (b : List Route) (W : Whole s b) (k : ℕ) (R : (m : ℕ) → m < k → RoundDone s b m) where
  pub matchings : ℕ → List ℕ
  matchings m = matching_of s b k R m (cases_lt m k)

  done : (m : ℕ) → m < k → Round (plan_on s b) m (matchings m) × First (allows (plan_on s b) m) s.width (matchings m)
  unfolding matchings
  done m l = round_of s b k R m (cases_lt m k) l

  -- with k rows given out, row k has a matching
  pub still_regular : k < row_count s.height → RegularCounts (allows (plan_on s b) k) s.width
  still_regular l =
      regular_counts (plan_on s b) (row_count s.height) (W.many ∙ mul_comm (row_count s.height) s.width)
      (slots_of (plan_on s b) (λ c. (route_at b c).start) W.starts) (slots_of (plan_on s b) (λ c. (route_at b c).goal) W.goals) matchings k l
      (λ m lm. (done m lm).0)

  pub all_rows : k ≡ row_count s.height → FirstRows s b
  all_rows e =
      record {
        below =
            none_left (plan_on s b) (row_count s.height) (W.many ∙ mul_comm (row_count s.height) s.width)
            (slots_of (plan_on s b) (λ c. (route_at b c).start) W.starts) (slots_of (plan_on s b) (λ c. (route_at b c).goal) W.goals) matchings
            (λ m lm. (done m (omega arith)).0);
        matchings = matchings;
        rounds = λ m lm. (done m (omega arith)).0;
        first = λ m lm. (done m (omega arith)).1;
      }

-- the first n have the middle row r
pub record Unplacing (a b : List Route) (r n : ℕ) : Type 0 where
  pub ends : SameEnds a b
  pub all : (c : ℕ) → c < n → middle_of b c ≡ r

-- what the search for a matching answers where the counts by bay are regular
module _ (A B : ℕ → ℕ → Bool) (n w : ℕ) (e : n ≡ w) (same : (j g : ℕ) → j < w → g < w → A j g ≡ B j g) where
  pub counts_regular : RegularCounts A w → RegularCounts B n
  counts_regular L =
      let K : RegularCounts B w = record { table = L.table; sum = L.sum; regular = L.regular; is = λ j g lj lg. sym (same j g lj lg) ∙ L.is j g lj lg } in
      subst (λ (i : ℕ). RegularCounts B i) (sym e) K

  pub matched : (m members : List ℕ) (r : Result ⊤ Blockers) → IsOk r → Answer B n m members r → First A w m
  matched m members (Ok _) found F = first_agree B A w m (λ i j li lj. sym (same i j li lj)) (subst (λ (i : ℕ). First B i m) e F)
  matched m members (Err b) found F = cc

-- the table allows the pairs of bays for which one waits
pub table_is :
    (s : Sides) (rs : List Route) (k n : ℕ) (counts cells : List ℕ)
    → n ≡ s.width
    → cells ≡ counts
    → Tallied rs (length rs) k s.width counts
    → (j g : ℕ)
    → j < s.width
    → g < s.width
    → allows (plan_on s rs) k j g ≡ ltb 0 (get_or cells (j * n + g) 0)
table_is s rs k n counts cells e f T j g lj lg =
    ap (λ (x : ℕ). ltb 0 x) (sym (T j g lj lg))
    ∙ ap (λ (x : ℕ). ltb 0 (get_or counts (j * x + g) 0)) (sym e)
    ∙ ap (λ (x : List ℕ). ltb 0 (get_or x (j * n + g) 0)) (sym f)
