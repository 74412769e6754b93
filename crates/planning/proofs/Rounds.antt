-- What the rounds say together: who has row k, how many are left, and that other rows do not matter.
use Rattle.std.proofs.Common.{◌≡◌, ℕ, zero, suc, ◌+◌, ◌-◌, ◌*◌, ◌<◌, ◌≤◌, Bool, true, false, ◌&&◌, eqb, ltb, leb, ◌≢◌, ◌⊎◌, List, sym, refl, ap, ◌∙◌, subst, inl, inr, ⊎_elim, arith}
use Rattle.std.proofs.lemmas.Bool.{cases_Bool, cases_lt, eq-eqb, eqb-true, le-leb, lt-leb, and_from, and_left, and_right}
use Rattle.grid.specs.declared.slot.Slot.{Slot}
use Rattle.matchings.specs.Matchings.{◌!◌, count, Perfect, First}
use Rattle.matchings.specs.Regular.{RegularCounts}
use Rattle.matchings.proofs.Counting.{holder}
use Rattle.motion.specs.Plans.{Plan, start_row, start_bay, goal_row, goal_bay}
use Rattle.planning.specs.MiddleRows.{waits, waiting, allows, Round}
use Rattle.planning.proofs.Slots.{Slots}
use Rattle.planning.proofs.Counts.{count_same, count_one, count_zero, full_bay, by_bay, total_same}

perfect_agree :
    (A B : ℕ → ℕ → Bool) (n : ℕ) (m : List ℕ)
    → ((i j : ℕ) → i < n → j < n → A i j ≡ B i j)
    → Perfect A n m
    → Perfect B n m
perfect_agree A B n m h P =
    record {
      long = P.long;
      below = P.below;
      apart = P.apart;
      allowed = λ i l. sym (h i (m ! i) l (P.below i l)) ∙ P.allowed i l;
    }

-- a relation with the same pairs has the same first perfect matching
pub first_agree :
    (A B : ℕ → ℕ → Bool) (n : ℕ) (m : List ℕ)
    → ((i j : ℕ) → i < n → j < n → A i j ≡ B i j)
    → First A n m
    → First B n m
first_agree A B n m h F =
    record {
      perfect = perfect_agree A B n m h F.perfect;
      first = λ p P k l same. F.first p (perfect_agree B A n p (λ i j li lj. sym (h i j li lj)) P) k l same;
    }

-- two plans have the same carriers, with the same starts and goals, over the same bays
pub record SameEnds (p q : Plan) : Type 0 where
  pub width : q.width ≡ p.width
  pub carriers : q.carriers ≡ p.carriers
  pub start : (c : ℕ) → c < p.carriers → q.start c ≡ p.start c
  pub goal : (c : ℕ) → c < p.carriers → q.goal c ≡ p.goal c

pub ends_turned : {p q : Plan} → SameEnds p q → SameEnds q p
ends_turned E =
    record {
      width = sym E.width;
      carriers = sym E.carriers;
      start = λ c l. sym (E.start c (let z = E.carriers in omega arith));
      goal = λ c l. sym (E.goal c (let z = E.carriers in omega arith));
    }

-- each carrier has the same middle row in both, or in neither one below k
abbrev pub Agree : (p q : Plan) (k : ℕ) → Type 0
Agree p q k = (c : ℕ) → c < p.carriers → (p.middle c ≡ q.middle c) ⊎ ((k ≤ p.middle c) × (k ≤ q.middle c))

leb_agree : (m k x y : ℕ) → m ≤ k → (x ≡ y) ⊎ ((k ≤ x) × (k ≤ y)) → leb m x ≡ leb m y
leb_agree m k x y l (inl e) = ap (leb m) e
leb_agree m k x y l (inr p) = let a = p.0 in let b = p.1 in le-leb m x (omega arith) ∙ sym (le-leb m y (omega arith))

module _ (p q : Plan) (E : SameEnds p q) where
  pub into : (c : ℕ) → c < q.carriers → c < p.carriers
  into c l = let z = E.carriers in omega arith

  pub out : (c : ℕ) → c < p.carriers → c < q.carriers
  out c l = let z = E.carriers in omega arith

  pub start_rows : (c : ℕ) → c < p.carriers → start_row q c ≡ start_row p c
  start_rows c l = ap (λ (s : Slot). s.row) (E.start c l)

  pub start_bays : (c : ℕ) → c < p.carriers → start_bay q c ≡ start_bay p c
  start_bays c l = ap (λ (s : Slot). s.bay) (E.start c l)

  pub goal_bays : (c : ℕ) → c < p.carriers → goal_bay q c ≡ goal_bay p c
  goal_bays c l = ap (λ (s : Slot). s.bay) (E.goal c l)

  pub agree_turned : (k : ℕ) → Agree p q k → Agree q p k
  agree_turned k h c l = ⊎_elim (λ e. inl (sym e)) (λ r. inr (r.1, r.0)) (h c (into c l))

  pub slots_agree :
      (r : ℕ)
      → Slots p.carriers r p.width (start_row p) (start_bay p)
      → Slots q.carriers r q.width (start_row q) (start_bay q)
  slots_agree r S =
      record {
        row_in = λ c l. let a = S.row_in c (into c l) in let b = start_rows c (into c l) in omega arith;
        bay_in = λ c l. let a = S.bay_in c (into c l) in let b = start_bays c (into c l) in let w = E.width in omega arith;
        apart =
            λ c d lc ld r b.
            S.apart c d (into c lc) (into d ld) (sym (start_rows c (into c lc)) ∙ r ∙ start_rows d (into d ld))
            (sym (start_bays c (into c lc)) ∙ b ∙ start_bays d (into d ld));
      }

  pub waiting_agree : (k m : ℕ) → Agree p q k → m ≤ k → (j g : ℕ) → waiting p m j g ≡ waiting q m j g
  waiting_agree k m h l j g =
      count_same (λ c. waits p m j g c) (λ c. waits q m j g c) p.carriers
      (λ c lc.
      ap (λ (b : ℕ). eqb b j && (eqb (goal_bay p c) g && leb m (p.middle c))) (sym (start_bays c lc))
      ∙ ap (λ (b : ℕ). eqb (start_bay q c) j && (eqb b g && leb m (p.middle c))) (sym (goal_bays c lc))
      ∙ ap (λ (u : Bool). eqb (start_bay q c) j && (eqb (goal_bay q c) g && u)) (leb_agree m k (p.middle c) (q.middle c) l (h c lc)))
      ∙ ap (λ (n : ℕ). count (λ c. waits q m j g c) n) (sym E.carriers)

  pub allows_agree : (k m : ℕ) → Agree p q k → m ≤ k → (j g : ℕ) → allows p m j g ≡ allows q m j g
  allows_agree k m h l j g = ap (λ (x : ℕ). ltb 0 x) (waiting_agree k m h l j g)

  pub perfect_moved : (k : ℕ) (m : List ℕ) → Agree p q k → Perfect (allows p k) p.width m → Perfect (allows q k) q.width m
  perfect_moved k m h P =
      subst (λ (x : ℕ). Perfect (allows q k) x m) (sym E.width)
      (perfect_agree (allows p k) (allows q k) p.width m (λ i j li lj. allows_agree k k h (omega arith) i j) P)

  pub first_moved : (k : ℕ) (m : List ℕ) → Agree p q k → First (allows p k) p.width m → First (allows q k) q.width m
  first_moved k m h F =
      subst (λ (x : ℕ). First (allows q k) x m) (sym E.width)
      (first_agree (allows p k) (allows q k) p.width m (λ i j li lj. allows_agree k k h (omega arith) i j) F)

  module _ (k m : ℕ) (h : Agree p q k) (l : m < k) where
    agree_less : Agree p q m
    agree_less c lc = ⊎_elim inl (λ r. inr (let x = r.0 in omega arith, let x = r.1 in omega arith)) (h c lc)

    back : (c : ℕ) → c < p.carriers → q.middle c ≡ m → p.middle c ≡ m
    back c lc e = ⊎_elim (λ r. r ∙ e) (λ r. absurd (let x = r.1 in omega arith)) (h c lc)

    fore : (c : ℕ) → c < p.carriers → p.middle c ≡ m → q.middle c ≡ m
    fore c lc e = ⊎_elim (λ r. sym r ∙ e) (λ r. absurd (let x = r.0 in omega arith)) (h c lc)

    over : (c : ℕ) → c < p.carriers → m ≤ q.middle c → m ≤ p.middle c
    over c lc e = ⊎_elim (λ r. omega arith) (λ r. let x = r.0 in omega arith) (h c lc)

    -- a matching below k stays the first
    pub first_below : (bays : List ℕ) → First (allows p m) p.width bays → First (allows q m) q.width bays
    first_below bays F = first_moved m bays agree_less F

    -- a round stays as it is where only middle rows above it change
    pub round_agree : (bays : List ℕ) → Round p m bays → Round q m bays
    round_agree bays R =
        record {
          perfect = perfect_moved m bays agree_less R.perfect;
          paired =
              λ c lc e.
              let i = into c lc in
              goal_bays c i ∙ R.paired c i (back c i e) ∙ ap (λ (x : ℕ). bays ! x) (sym (start_bays c i));
          lowest =
              λ c d lc ld e o sb gb.
              let i = into c lc in
              let j = into d ld in
              let x =
              R.lowest c d i j (back c i e) (over d j o) (sym (start_bays d j) ∙ sb ∙ start_bays c i)
              (sym (goal_bays d j) ∙ gb ∙ goal_bays c i)
              in
              let y = start_rows c i in
              let z = start_rows d j in
              omega arith;
          each =
              λ j lj.
              let t = R.each j (let z = E.width in omega arith) in
              (t.0, out t.0 t.1, fore t.0 t.1 t.2, start_bays t.0 t.1 ∙ t.3);
        }

module _ (p : Plan) (r : ℕ) (S : Slots p.carriers r p.width (start_row p) (start_bay p)) (k : ℕ) (m : List ℕ) (R : Round p k m) where
  -- one carrier of each start bay has middle row k
  pub one_start :
      (c d : ℕ)
      → c < p.carriers
      → d < p.carriers
      → p.middle c ≡ k
      → p.middle d ≡ k
      → start_bay p c ≡ start_bay p d
      → c ≡ d
  one_start c d lc ld ec ed e =
      let g : goal_bay p c ≡ goal_bay p d = R.paired c lc ec ∙ ap (λ (x : ℕ). m ! x) e ∙ sym (R.paired d ld ed) in
      let x = R.lowest c d lc ld ec (omega arith) (sym e) (sym g) in
      let y = R.lowest d c ld lc ed (omega arith) e g in
      S.apart c d lc ld (omega arith) e

  -- and of each goal bay
  pub one_goal :
      (c d : ℕ)
      → c < p.carriers
      → d < p.carriers
      → p.middle c ≡ k
      → p.middle d ≡ k
      → goal_bay p c ≡ goal_bay p d
      → c ≡ d
  one_goal c d lc ld ec ed e =
      one_start c d lc ld ec ed
      (R.perfect.apart (start_bay p c) (start_bay p d) (S.bay_in c lc) (S.bay_in d ld)
      (sym (R.paired c lc ec) ∙ e ∙ R.paired d ld ed))

  goal_taken : (g : ℕ) → g < p.width → (c : ℕ) × (c < p.carriers) × (p.middle c ≡ k) × (goal_bay p c ≡ g)
  goal_taken g lg =
      let o = holder p.width (λ j. m ! j) g (record { below = R.perfect.below; apart = R.perfect.apart }) lg in
      let t = R.each o.0 o.1 in
      (t.0, t.1, t.2, R.paired t.0 t.1 t.2 ∙ ap (λ (x : ℕ). m ! x) t.3 ∙ o.2)

-- how many carriers have the bay j and a middle row not below k
abbrev pub left_in : (p : Plan) (bay : ℕ → ℕ) (k j : ℕ) → ℕ
left_in p bay k j = count (λ c. eqb (bay c) j && leb k (p.middle c)) p.carriers

-- where just one carrier of bay j has middle row k, one fewer is left after the round
one_fewer :
    (p : Plan) (bay : ℕ → ℕ) (k j : ℕ)
    → ((c d : ℕ) → c < p.carriers → d < p.carriers → p.middle c ≡ k → p.middle d ≡ k → bay c ≡ bay d → c ≡ d)
    → (c : ℕ) × (c < p.carriers) × (p.middle c ≡ k) × (bay c ≡ j)
    → left_in p bay k j ≡ left_in p bay (k + 1) j + 1
one_fewer p bay k j apart t =
    let mid : ℕ → ℕ = p.middle in
    count_one (λ c. eqb (bay c) j && leb k (mid c)) (λ c. eqb (bay c) j && leb (k + 1) (mid c)) p.carriers t.0 t.1
    (let e = t.2 in and_from (eqb (bay t.0) j) (leb k (mid t.0)) (eq-eqb (bay t.0) j t.3) (le-leb k (mid t.0) (omega arith)))
    (let e = t.2 in and_right (eqb (bay t.0) j) (leb (k + 1) (mid t.0)) (lt-leb (k + 1) (mid t.0) (omega arith)))
    (λ c lc d.
    ⊎_elim
    (λ e.
    let no : mid c ≢ k = λ x. d (apart c t.0 lc t.1 x t.2 (eqb-true (bay c) j e ∙ sym t.3)) in
    ap (λ (u : Bool). eqb (bay c) j && u)
    (⊎_elim (λ x. lt-leb k (mid c) x ∙ sym (lt-leb (k + 1) (mid c) (omega arith)))
    (λ x. le-leb k (mid c) x ∙ sym (le-leb (k + 1) (mid c) (omega arith))) (cases_lt (mid c) k)))
    (λ e. and_left (eqb (bay c) j) (leb k (mid c)) e ∙ sym (and_left (eqb (bay c) j) (leb (k + 1) (mid c)) e))
    (cases_Bool (eqb (bay c) j)))

module _ (p : Plan) (r : ℕ) (many : p.carriers ≡ p.width * r)
    (S : Slots p.carriers r p.width (start_row p) (start_bay p))
    (G : Slots p.carriers r p.width (goal_row p) (goal_bay p))
    (matchings : ℕ → List ℕ) where
  all_left : (row bay : ℕ → ℕ) → Slots p.carriers r p.width row bay → (j : ℕ) → j < p.width → left_in p bay 0 j ≡ r
  all_left row bay B j lj =
      count_same (λ c. eqb (bay c) j && leb 0 (p.middle c)) (λ c. eqb (bay c) j) p.carriers
      (λ c lc.
      ⊎_elim (λ e. and_from (eqb (bay c) j) (leb 0 (p.middle c)) e (le-leb 0 (p.middle c) (omega arith)) ∙ sym e)
      (λ e. and_left (eqb (bay c) j) (leb 0 (p.middle c)) e ∙ sym e) (cases_Bool (eqb (bay c) j)))
      ∙ full_bay p.carriers r p.width row bay many B j lj

  starts_left : (k : ℕ) → ((m : ℕ) → m < k → Round p m (matchings m)) → (j : ℕ) → j < p.width → left_in p (start_bay p) k j + k ≡ r
  starts_left zero R j lj = let a = all_left (start_row p) (start_bay p) S j lj in omega arith
  starts_left (suc k) R j lj =
      let a = starts_left k (λ m l. R m (omega arith)) j lj in
      let now = R k (omega arith) in
      let b = one_fewer p (start_bay p) k j (one_start p r S k (matchings k) now) (now.each j lj) in
      let e : left_in p (start_bay p) (k + 1) j ≡ left_in p (start_bay p) (suc k) j = ap (λ (x : ℕ). left_in p (start_bay p) x j) (omega arith) in
      omega arith

  goals_left : (k : ℕ) → ((m : ℕ) → m < k → Round p m (matchings m)) → (j : ℕ) → j < p.width → left_in p (goal_bay p) k j + k ≡ r
  goals_left zero R j lj = let a = all_left (goal_row p) (goal_bay p) G j lj in omega arith
  goals_left (suc k) R j lj =
      let a = goals_left k (λ m l. R m (omega arith)) j lj in
      let now = R k (omega arith) in
      let b = one_fewer p (goal_bay p) k j (one_goal p r S k (matchings k) now) (goal_taken p r S k (matchings k) now j lj) in
      let e : left_in p (goal_bay p) (k + 1) j ≡ left_in p (goal_bay p) (suc k) j = ap (λ (x : ℕ). left_in p (goal_bay p) x j) (omega arith) in
      omega arith

  -- with k rows given out, each bay has r - k carriers left
  pub regular_counts : (k : ℕ) → k < r → ((m : ℕ) → m < k → Round p m (matchings m)) → RegularCounts (allows p k) p.width
  regular_counts k l R =
      record {
        table = λ j g. waiting p k j g;
        sum = r - k;
        regular = record {
          some = omega arith;
          rows =
              λ j lj.
              let a = starts_left k R j lj in
              let s =
              total_same (λ g. waiting p k j g)
              (λ g. count (λ c. eqb (goal_bay p c) g && (eqb (start_bay p c) j && leb k (p.middle c))) p.carriers) p.width
              (λ g lg. count_same (λ c. waits p k j g c) (λ c. eqb (goal_bay p c) g && (eqb (start_bay p c) j && leb k (p.middle c))) p.carriers
              (λ c lc. and_swap (eqb (start_bay p c) j) (eqb (goal_bay p c) g) (leb k (p.middle c))))
              in
              let b = by_bay (goal_bay p) (λ c. eqb (start_bay p c) j && leb k (p.middle c)) p.carriers p.width G.bay_in in
              omega arith;
          columns =
              λ g lg.
              let a = goals_left k R g lg in
              let b = by_bay (start_bay p) (λ c. eqb (goal_bay p c) g && leb k (p.middle c)) p.carriers p.width S.bay_in in
              omega arith;
        };
        is = λ j g lj lg. refl;
      }
    where
      and_swap : (a b c : Bool) → (a && (b && c)) ≡ (b && (a && c))
      and_swap true true c = refl
      and_swap true false c = refl
      and_swap false true c = refl
      and_swap false false c = refl

  -- with all rows given out, none is left
  pub none_left : ((m : ℕ) → m < r → Round p m (matchings m)) → (c : ℕ) → c < p.carriers → p.middle c < r
  none_left R c lc =
      ⊎_elim (λ l. l)
      (λ l.
      let a = starts_left r R (start_bay p c) (S.bay_in c lc) in
      absurd (count_zero (λ d. eqb (start_bay p d) (start_bay p c) && leb r (p.middle d)) p.carriers c (omega arith) lc
      (and_from (eqb (start_bay p c) (start_bay p c)) (leb r (p.middle c)) (eq-eqb (start_bay p c) (start_bay p c) refl) (le-leb r (p.middle c) l))))
      (cases_lt (p.middle c) r)
