-- The lowest so far, and counts by bay so far.
use Rattle.std.proofs.Common.{◌≡◌, ℕ, ◌+◌, ◌*◌, ◌<◌, ◌≤◌, Bool, true, false, cond, ◌&&◌, eqb, leb, ◌⊎◌, List, length, get_or, set, sym, refl, ap, ◌∙◌, subst, inl, inr, ⊎_elim, arith, get_or-set_other, get_or-set_same}
use Rattle.std.proofs.lemmas.Bool.{cases_eq, and_from, and_left, and_right, eq-eqb, ne_eqb, le-leb, lt-leb}
use Rattle.course.specs.declared.route.Route.{Route}
use Rattle.course.specs.Routes.{route_at}
use Rattle.planning.proofs.Slots.{cell_same}
use Rattle.planning.proofs.Counts.{count_some, count_more}
use Rattle.plan.specs.Rows.{route_waits, waiting_routes, Tallied, LowRows, Lowest}

-- of the first n that pass, `best` has the lowest row, `least`; `least` is 255 where none passes
pub record Pick (pass : ℕ → Bool) (row : ℕ → ℕ) (n best least : ℕ) : Type 0 where
  pub low : (d : ℕ) → d < n → pass d ≡ true → least ≤ row d
  pub is : (least ≡ 255) ⊎ ((best < n) × (pass best ≡ true) × (row best ≡ least))

module _ (pass : ℕ → Bool) (row : ℕ → ℕ) where
  pub pick_none : Pick pass row 0 0 255
  pick_none = record { low = λ d h. absurd (omega arith); is = inl refl }

  pub pick_take : (n best least : ℕ) → Pick pass row n best least → pass n ≡ true → row n < least → Pick pass row (n + 1) n (row n)
  pick_take n best least P t l = record {
    low = λ d h q. ⊎_elim (λ e. rw e (omega arith)) (λ f. let z = P.low d (omega arith) q in omega arith) (cases_eq d n);
    is = inr (omega arith, t, refl);
  }

  pub pick_skip : (n best least : ℕ) → Pick pass row n best least → (pass n ≡ true → least ≤ row n) → Pick pass row (n + 1) best least
  pick_skip n best least P h = record {
    low = λ d l q. ⊎_elim (λ e. rw e (h (subst (λ (x : ℕ). pass x ≡ true) e q))) (λ f. P.low d (omega arith) q) (cases_eq d n);
    is = ⊎_elim inl (λ p. inr (let z = p.0 in omega arith, p.1, p.2)) P.is;
  }

pub picked :
    (rs : List Route) (k j g n best least : ℕ)
    → LowRows rs
    → 0 < waiting_routes rs (length rs) k j g
    → n ≡ length rs
    → Pick (λ c. route_waits k j g (route_at rs c)) (λ c. (route_at rs c).start.row) n best least
    → Lowest rs k j g best
picked rs k j g n best least rows some e P =
    let d = count_some (λ c. route_waits k j g (route_at rs c)) (length rs) some in
    let a = P.low d.0 (let z = d.1 in omega arith) d.2 in
    let b = rows d.0 d.1 in
    ⊎_elim (λ q. absurd (omega arith))
    (λ p.
    record {
      here = (let z = p.0 in omega arith);
      waits = p.1;
      least = λ i l t. let x = P.low i (omega arith) t in let y = p.2 in omega arith;
    })
    P.is

module _ (rs : List Route) (k w c : ℕ) (counts : List ℕ) (inv : Tallied rs c k w counts) where
  abbrev sb : ℕ
  sb = (route_at rs c).start.bay

  abbrev gb : ℕ
  gb = (route_at rs c).goal.bay

  abbrev mid : ℕ
  mid = (route_at rs c).middle_row

  pub tally_skip : mid < k → (j g : ℕ) → j < w → g < w → get_or counts (j * w + g) 0 ≡ waiting_routes rs (c + 1) k j g
  tally_skip h j g lj lg =
      let a = count_more (λ i. route_waits k j g (route_at rs i)) c in
      let b : route_waits k j g (route_at rs c) ≡ false = and_right (eqb sb j) (eqb gb g && leb k mid) (and_right (eqb gb g) (leb k mid) (lt-leb k mid h)) in
      let d : waiting_routes rs (c + 1) k j g ≡ waiting_routes rs c k j g = a ∙ ap (λ (u : Bool). cond u 1 0 + waiting_routes rs c k j g) b ∙ (let z : 0 + waiting_routes rs c k j g ≡ waiting_routes rs c k j g = omega arith in z) in
      inv j g lj lg ∙ sym d

  module _ (h : k ≤ mid) (ls : sb < w) (lg : gb < w) (room : sb * w + gb < length counts) where
    pub tally_add : (v : ℕ) → v ≡ get_or counts (sb * w + gb) 0 + 1 → (j g : ℕ) → j < w → g < w
        → get_or (set counts (sb * w + gb) v) (j * w + g) 0 ≡ waiting_routes rs (c + 1) k j g
    tally_add v is j g lj l = go (cases_eq sb j) (cases_eq gb g)
      where
        more : waiting_routes rs (c + 1) k j g ≡ cond (route_waits k j g (route_at rs c)) 1 0 + waiting_routes rs c k j g
        more = count_more (λ i. route_waits k j g (route_at rs i)) c

        other : (sb * w + gb ≡ j * w + g → ⊥) → route_waits k j g (route_at rs c) ≡ false → get_or (set counts (sb * w + gb) v) (j * w + g) 0 ≡ waiting_routes rs (c + 1) k j g
        other d f =
            let a = get_or-set_other counts (sb * w + gb) (j * w + g) v 0 (λ q. d (sym q)) in
            let b = inv j g lj l in
            let m = more ∙ ap (λ (u : Bool). cond u 1 0 + waiting_routes rs c k j g) f in
            let z : 0 + waiting_routes rs c k j g ≡ waiting_routes rs c k j g = omega arith in
            a ∙ b ∙ sym (m ∙ z)

        go : (sb ≡ j) ⊎ (sb ≡ j → ⊥) → (gb ≡ g) ⊎ (gb ≡ g → ⊥) → get_or (set counts (sb * w + gb) v) (j * w + g) 0 ≡ waiting_routes rs (c + 1) k j g
        go (inl p) (inl q) =
            let e : sb * w + gb ≡ j * w + g = ap (λ (x : ℕ). x * w + gb) p ∙ ap (λ (x : ℕ). j * w + x) q in
            let a = get_or-set_same counts (sb * w + gb) v 0 room in
            let b = inv j g lj l in
            let t : route_waits k j g (route_at rs c) ≡ true = and_from (eqb sb j) (eqb gb g && leb k mid) (eq-eqb sb j p) (and_from (eqb gb g) (leb k mid) (eq-eqb gb g q) (le-leb k mid h)) in
            let m : waiting_routes rs (c + 1) k j g ≡ 1 + waiting_routes rs c k j g = more ∙ ap (λ (u : Bool). cond u 1 0 + waiting_routes rs c k j g) t in
            let x : get_or (set counts (sb * w + gb) v) (j * w + g) 0 ≡ v = ap (λ (i : ℕ). get_or (set counts (sb * w + gb) v) i 0) (sym e) ∙ a in
            let y : get_or counts (sb * w + gb) 0 ≡ get_or counts (j * w + g) 0 = ap (λ (i : ℕ). get_or counts i 0) e in
            x ∙ (let z : v ≡ 1 + waiting_routes rs c k j g = omega arith in z) ∙ sym m
        go (inr p) q = other (λ e. p (cell_same sb gb j g w lg l e).0) (and_left (eqb sb j) (eqb gb g && leb k mid) (ne_eqb sb j p))
        go (inl p) (inr q) = other (λ e. q (cell_same sb gb j g w lg l e).1) (and_right (eqb sb j) (eqb gb g && leb k mid) (and_left (eqb gb g) (leb k mid) (ne_eqb gb g q)))
