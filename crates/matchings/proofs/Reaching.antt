-- How the reached members grow: the first one, one more, one visit, the goal.
use Rattle.std.proofs.Common.{◌≡◌, ℕ, ◌+◌, ◌-◌, ◌<◌, ◌≤◌, Bool, true, false, cond, leb, ◌≢◌, List, length, set, sym, refl, ap, ◌∙◌, subst, ⊎_elim, arith, get_or-set_other, get_or-set_same}
use Rattle.std.proofs.lemmas.Bool.{cases_eq, cases_lt, both_ways}
use Rattle.matchings.proofs.Counting.{room}
use Rattle.matchings.proofs.Lines.{same_two, exchanged, same_exchanged}
use Rattle.matchings.specs.Matchings.{◌!◌}
use Rattle.matchings.specs.Reaching.{Clear, loose, Inj, Movable, Same, Reached, Closed, IsClass, Noted, Added}

-- the member l joins the reached ones at their end, by the right member of the one at `head`
module _ (A : ℕ → ℕ → Bool) (n fixed left : ℕ) (mate members parents marks : List ℕ) (tail head l : ℕ)
    (R : Reached A n fixed left mate members parents marks tail) (lh : head < tail) (ll : l < n) (fl : fixed ≤ l)
    (other : (k : ℕ) → k < tail → members ! k ≢ l) where
  pub has_room : tail < n - fixed
  has_room = room (λ k. members ! k - fixed) tail (n - fixed) (l - fixed) (omega arith)
      (λ k q. let a = R.below k q in let b = R.above k q in omega arith)
      (λ i j qi qj e. let a = R.above i qi in let b = R.above j qj in R.apart i j qi qj (omega arith))
      (λ k q e. let a = R.above k q in other k q (omega arith))

  module _ (Q P : List ℕ) (qk : (k : ℕ) → k < tail → Q ! k ≡ members ! k) (qt : Q ! tail ≡ l) (is : P ≡ set parents tail head)
      (lp : tail < length parents) (lm : mate ! l < length marks) (may : A l (mate ! (members ! head)) ≡ true) where
    abbrev pub M : List ℕ
    M = set marks (mate ! l) 1

    pk : (k : ℕ) → k < tail → P ! k ≡ parents ! k
    pk k h = ap (λ xs. xs ! k) is ∙ get_or-set_other parents tail k head 0 (omega arith)

    pt : P ! tail ≡ head
    pt = ap (λ xs. xs ! tail) is ∙ get_or-set_same parents tail head 0 lp

    pub mt : M ! (mate ! l) ≡ 1
    mt = get_or-set_same marks (mate ! l) 1 0 lm

    mo : (r : ℕ) → r ≢ mate ! l → M ! r ≡ marks ! r
    mo r d = get_or-set_other marks (mate ! l) r 1 0 d

    mk : (r : ℕ) → 0 < marks ! r → 0 < M ! r
    mk r h = ⊎_elim (λ e. let f : M ! r ≡ 1 = rw e mt in omega arith) (λ d. let f = mo r d in omega arith) (cases_eq r (mate ! l))

    more : (X : ℕ → Type 0) → ((k : ℕ) → k < tail → X k) → X tail → (k : ℕ) → k < tail + 1 → X k
    more X a b k h = ⊎_elim (λ e. subst X (sym e) b) (λ d. a k (omega arith)) (cases_eq k tail)

    pub pushed : Reached A n fixed left mate Q P M (tail + 1)
    pushed = record {
      some = omega arith;
      fits = let h = has_room in omega arith;
      first = qk 0 R.some ∙ R.first;
      below = more (λ k. Q ! k < n) (λ k h. rw (qk k h) (R.below k h)) (rw qt ll);
      above = more (λ k. fixed ≤ Q ! k) (λ k h. rw (qk k h) (R.above k h)) (rw qt fl);
      apart = λ j k hj hk. more (λ j. Q ! j ≡ Q ! k → j ≡ k)
          (λ j hj. more (λ k. Q ! j ≡ Q ! k → j ≡ k)
          (λ k hk e. R.apart j k hj hk (sym (qk j hj) ∙ e ∙ qk k hk))
          (λ e. absurd (other j hj (sym (qk j hj) ∙ e ∙ qt))) k hk)
          (more (λ k. Q ! tail ≡ Q ! k → tail ≡ k)
          (λ k hk e. absurd (other k hk (sym (qk k hk) ∙ sym e ∙ qt)))
          (λ e. refl) k hk) j hj;
      rank = λ k pos h. more (λ k. 0 < k → P ! k < k) (λ k h pos. rw (pk k h) (R.rank k pos h)) (λ pos. rw pt lh) k h pos;
      link = λ k pos h. more (λ k. 0 < k → A (Q ! k) (mate ! (Q ! (P ! k))) ≡ true)
          (λ k h pos. let b = R.rank k pos h in let c : parents ! k < tail = omega arith in
          rw (qk k h, pk k h, qk (parents ! k) c) (R.link k pos h))
          (λ pos. rw (qt, pt, qk head lh) may) k h pos;
      ticked = more (λ k. 0 < M ! (mate ! (Q ! k))) (λ k h. rw (qk k h) (mk (mate ! (members ! k)) (R.ticked k h))) (rw (qt, mt) (omega arith));
      from = λ r lr h. ⊎_elim (λ e. (tail, omega arith, ap (λ x. mate ! x) qt ∙ sym e))
          (λ d. let f = R.from r lr (rw (mo r d) at h) in (f.0, let z = f.1 in omega arith, ap (λ x. mate ! x) (qk f.0 f.1) ∙ f.2)) (cases_eq r (mate ! l));
    }

    pub still_closed : (m : ℕ) → Same m members Q → Closed A m mate members marks head → Closed A m mate Q M head
    still_closed m S c k j lk lj a =
        let x = S.back j lj in
        mk (mate ! (Q ! j)) (subst (λ (y : ℕ). 0 < marks ! (mate ! y)) x.2
        (c k x.0 lk x.1 (subst (λ (y : ℕ). A y (mate ! (members ! k)) ≡ true) (sym x.2) (rw (qk k (omega arith)) at a))))

module _ (A : ℕ → ℕ → Bool) (n fixed left : ℕ) (mate members parents marks : List ℕ) (tail k goal : ℕ)
    (R : Reached A n fixed left mate members parents marks tail) (lk : k < tail) (ll : goal < n) (fl : fixed ≤ goal) (new : marks ! (mate ! goal) ≡ 0) where
  unreached : (j : ℕ) → j < tail → members ! j ≢ goal
  unreached j h e = let a = R.ticked j h in let u = ap (λ (x : ℕ). marks ! (mate ! x)) e in omega arith

  pub goal_fits : tail < n - fixed
  goal_fits = has_room A n fixed left mate members parents marks tail k goal R lk ll fl unreached

  pub joined : (Q P : List ℕ) → Q ≡ set members tail goal → P ≡ set parents tail k → n ≤ length members → n ≤ length parents → mate ! goal < length marks → A goal (mate ! (members ! k)) ≡ true
      → Reached A n fixed left mate Q P (set marks (mate ! goal) 1) (tail + 1)
  joined Q P qe pe lq lp lm may = let f = goal_fits in
      pushed A n fixed left mate members parents marks tail k goal R lk ll fl unreached Q P
      (λ j h. ap (λ xs. xs ! j) qe ∙ get_or-set_other members tail j goal 0 (omega arith)) (ap (λ xs. xs ! tail) qe ∙ get_or-set_same members tail goal 0 (omega arith)) pe (omega arith) lm may

pub at_end : (A : ℕ → ℕ → Bool) (m : ℕ) (mate members marks : List ℕ) (head tail : ℕ) → Closed A m mate members marks head → tail ≤ head → Closed A m mate members marks tail
at_end A m mate members marks head tail C e k l h = C k l (omega arith)

-- what a turn of the loop over k keeps; q is the member at `head`
pub record Turn (A : ℕ → ℕ → Bool) (n fixed left m : ℕ) (mate line : List ℕ) (head q count k : ℕ) (members parents marks : List ℕ) (tail : ℕ) : Type 0 where
  pub movable : Movable n fixed m members
  pub same : Same m line members
  pub reached : Reached A n fixed left mate members parents marks tail
  pub closed : Closed A m mate members marks head
  pub passed : (j : ℕ) → tail ≤ j → j < k → A (members ! j) (mate ! q) ≡ false
  pub ahead : head < tail
  pub grows : count ≤ tail
  pub behind : tail ≤ k
  pub here : members ! head ≡ q
  pub front : (j : ℕ) → j < count → members ! j ≡ line ! j

module _ (A : ℕ → ℕ → Bool) (n fixed left m : ℕ) (mate line : List ℕ) (head q count k : ℕ) (members parents marks : List ℕ) (tail : ℕ)
    (t : Turn A n fixed left m mate line head q count k members parents marks tail) (next target : ℕ) (ne : next ≡ members ! k) (te : target ≡ mate ! q) where
  pub turn_skip : A next target ≡ false → Turn A n fixed left m mate line head q count (k + 1) members parents marks tail
  turn_skip h = record {
    movable = t.movable;
    same = t.same;
    reached = t.reached;
    closed = t.closed;
    passed = λ j tj jk. ⊎_elim (λ e. subst (λ (x : ℕ). A (members ! x) (mate ! q) ≡ false) (sym e) (rw (← ne, ← te) h)) (λ d. t.passed j tj (omega arith)) (cases_eq j k);
    ahead = t.ahead;
    grows = t.grows;
    behind = let b = t.behind in omega arith;
    here = t.here;
    front = t.front;
  }

  pub turn_push : (Q P : List ℕ) → P ≡ set parents tail head → k < m → n ≤ length parents → mate ! next < length marks → A next target ≡ true
      → Q ! tail ≡ members ! k → Q ! k ≡ members ! tail → ((j : ℕ) → j ≢ tail → j ≢ k → Q ! j ≡ members ! j)
      → Turn A n fixed left m mate line head q count (k + 1) Q P (set marks (mate ! next) 1) (tail + 1)
  turn_push Q P is lk lp lm may sa sb so =
      let b = t.behind in
      let ah = t.ahead in
      let ft = t.movable.fits in
      let ll : next < n = rw ne (t.movable.below k lk) in
      let fl : fixed ≤ next = rw ne (t.movable.above k lk) in
      let qk : (j : ℕ) → j < tail → Q ! j ≡ members ! j = λ j h. so j (omega arith) (omega arith) in
      let other : (j : ℕ) → j < tail → members ! j ≢ next = λ j h e. let z = t.movable.apart j k (omega arith) lk (e ∙ ne) in omega arith in
      let here : A next (mate ! (members ! head)) ≡ true = subst (λ (x : ℕ). A next x ≡ true) (te ∙ ap (λ (x : ℕ). mate ! x) (sym t.here)) may in
      let lp' : tail < length parents = omega arith in
      let S = same_exchanged m members Q tail k (omega arith) lk sa sb so in
      record {
        movable = exchanged m members Q tail k (omega arith) lk sa sb so n fixed t.movable;
        same = same_two m line members Q t.same S;
        reached = pushed A n fixed left mate members parents marks tail head next t.reached ah ll fl other Q P qk (sa ∙ sym ne) is lp' lm here;
        closed = still_closed A n fixed left mate members parents marks tail head next t.reached ah ll fl other Q P qk (sa ∙ sym ne) is lp' lm here m S t.closed;
        passed = λ j tj jk. ⊎_elim
            (λ e. subst (λ (x : ℕ). A x (mate ! q) ≡ false) (sym (ap (λ (x : ℕ). Q ! x) e ∙ sb)) (t.passed tail (omega arith) (omega arith)))
            (λ d. subst (λ (x : ℕ). A x (mate ! q) ≡ false) (sym (so j (omega arith) d)) (t.passed j (omega arith) (omega arith))) (cases_eq j k);
        ahead = omega arith;
        grows = let g = t.grows in omega arith;
        behind = omega arith;
        here = qk head ah ∙ t.here;
        front = λ j h. let g = t.grows in qk j (omega arith) ∙ t.front j h;
      }

module _ (A : ℕ → ℕ → Bool) (n fixed left m : ℕ) (mate line : List ℕ) (head q count k : ℕ) (members parents marks : List ℕ) (tail : ℕ)
    (t : Turn A n fixed left m mate line head q count k members parents marks tail) where
  pub turn_done : k ≡ m → Closed A m mate members marks (head + 1)
  turn_done e i j li lj a = ⊎_elim
      (λ x. ⊎_elim
      (λ s. t.reached.ticked j s)
      (λ s. absurd (both_ways (A (members ! j) (mate ! q)) (t.passed j s (omega arith))
      (subst (λ (y : ℕ). A (members ! j) (mate ! y) ≡ true) (ap (λ (y : ℕ). members ! y) x ∙ t.here) a)))
      (cases_lt j tail))
      (λ d. t.closed i j (omega arith) lj a) (cases_eq i head)

module _ (A : ℕ → ℕ → Bool) (n fixed left : ℕ) (mate Q parents marks : List ℕ)
    (ll : left < n) (fl : fixed ≤ left) (q0 : Q ! 0 ≡ left) (lm : mate ! left < length marks) (clear : Clear marks n) where
  only : (X : ℕ → Type 0) → X 0 → (k : ℕ) → k < 1 → X k
  only X x k h = let e : k ≡ 0 = omega arith in subst X (sym e) x

  m0 : set marks (mate ! left) 1 ! (mate ! left) ≡ 1
  m0 = get_or-set_same marks (mate ! left) 1 0 lm

-- those not settled yet allow everything, of every class
pub loose_class : (A : ℕ → ℕ → Bool) (n wild : ℕ) (class : ℕ → ℕ) (right c : ℕ) → IsClass A n class right c → IsClass (loose A wild) n class right c
loose_class A n wild class right c is = (is.0, λ l s ll ls e. ap (λ (b : Bool). cond (leb wild l) true b) (is.1 l s ll ls e))

-- nobody new allows a right member of a class that was visited before
pub closed_skip :
    (A : ℕ → ℕ → Bool) (n fixed m : ℕ) (class : ℕ → ℕ) (mate members marks seen : List ℕ) (head : ℕ)
    → IsClass A n class (mate ! (members ! head)) (class (mate ! (members ! head)))
    → Inj n (λ k. mate ! k)
    → Movable n fixed m members
    → head < m
    → Closed A m mate members marks head
    → Noted class mate members head seen
    → 0 < seen ! class (mate ! (members ! head))
    → Closed A m mate members marks (head + 1)
closed_skip A n fixed m class mate members marks seen head is inj movable lh closed noted known i j li lj a =
    let right : (k : ℕ) → k < m → mate ! (members ! k) < n = λ k h. inj.below (members ! k) (movable.below k h) in
    ⊎_elim
    (λ e.
    let f = noted (class (mate ! (members ! head))) known in
    let lf = f.1 in
    let same = is.1 (members ! j) (mate ! (members ! f.0)) (movable.below j lj) (right f.0 (omega arith)) f.2 in
    closed f.0 j lf lj (same ∙ subst (λ (x : ℕ). A (members ! j) (mate ! (members ! x)) ≡ true) e a))
    (λ d. closed i j (omega arith) lj a) (cases_eq i head)

-- one class more is noted, that of the right member of the member at `head`
pub noted_more :
    (A : ℕ → ℕ → Bool) (n : ℕ) (class : ℕ → ℕ) (mate members Q : List ℕ) (head count : ℕ) (old new : List ℕ) (fresh : Bool)
    → Noted class mate members head old
    → Added A n class (mate ! (members ! head)) old new fresh
    → head < count
    → ((k : ℕ) → k < count → Q ! k ≡ members ! k)
    → Noted class mate Q (head + 1) new
noted_more A n class mate members Q head count old new fresh before added lh front c h =
    let at : (k : ℕ) → k < count → class (mate ! (Q ! k)) ≡ class (mate ! (members ! k)) =
    λ k l. ap (λ (x : ℕ). class (mate ! x)) (front k l) in
    ⊎_elim
    (λ e. (head, omega arith, at head lh ∙ sym e))
    (λ o. let f = before c o in let l = f.1 in (f.0, omega arith, at f.0 (omega arith) ∙ f.2))
    (added.only c h)
