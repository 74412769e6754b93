-- Slots by row and bay, and by number.
use Rattle.std.proofs.Common.{◌≡◌, ℕ, ◌+◌, ◌*◌, ◌<◌, ◌≤◌, ◌⊎◌, sym, ap, inl, inr, ⊎_elim, mul-le-mul_right, mul_comm, add-mul, one-mul, arith}
use Rattle.std.proofs.lemmas.Bool.{cases_eq, cases_lt}
use Rattle.grid.specs.declared.slot.Slot.{Slot}
use Rattle.grid.specs.Sides.{row_count}
use Rattle.grid.specs.Slots.{slot_number}
use Rattle.motion.specs.Plans.{Plan}
use Rattle.motion.specs.Carrying.{InSlots}

-- no two of the n carriers have one slot, and each slot is one of r rows and w bays
pub record Slots (n r w : ℕ) (row bay : ℕ → ℕ) : Type 0 where
  pub row_in : (c : ℕ) → c < n → row c < r
  pub bay_in : (c : ℕ) → c < n → bay c < w
  pub apart : (c d : ℕ) → c < n → d < n → row c ≡ row d → bay c ≡ bay d → c ≡ d

pub same_slot : {a b : Slot} → a.row ≡ b.row → a.bay ≡ b.bay → a ≡ b
same_slot r c = λ i. record { row = r i; bay = c i }

pub slots_of :
    (p : Plan) (place : ℕ → Slot)
    → InSlots p place
    → Slots p.carriers (row_count p.height) p.width (λ c. (place c).row) (λ c. (place c).bay)
slots_of p place S =
    record {
      row_in = λ c l. (S.inside c l).0;
      bay_in = λ c l. (S.inside c l).1;
      apart =
          λ c d lc ld r b.
          ⊎_elim (λ l. absurd (S.apart c d l ld (same_slot r b)))
          (λ l. ⊎_elim (λ e. e) (λ ne. absurd (S.apart d c (omega arith) lc (same_slot (sym r) (sym b)))) (cases_eq c d))
          (cases_lt c d);
    }

pub in_slots :
    (p : Plan) (place : ℕ → Slot)
    → Slots p.carriers (row_count p.height) p.width (λ c. (place c).row) (λ c. (place c).bay)
    → InSlots p place
in_slots p place S =
    record {
      inside = λ c l. (S.row_in c l, S.bay_in c l);
      apart =
          λ c d l ld e.
          let z = S.apart c d (omega arith) ld (ap (λ (s : Slot). s.row) e) (ap (λ (s : Slot). s.bay) e) in omega arith;
    }

pub cell_in : (j g w : ℕ) → j < w → g < w → j * w + g < w * w
cell_in j g w lj lg =
    let a : (j + 1) * w ≤ w * w = mul-le-mul_right w (omega arith) in
    let b = add-mul j 1 w in
    let d = one-mul w in
    omega arith

pub cell_same : (j g i h w : ℕ) → g < w → h < w → j * w + g ≡ i * w + h → (j ≡ i) × (g ≡ h)
cell_same j g i h w lg lh e = go (cases_eq j i)
  where
    go : (j ≡ i) ⊎ (j ≡ i → ⊥) → (j ≡ i) × (g ≡ h)
    go (inl q) = (q, let z : j * w ≡ i * w = ap (λ (x : ℕ). x * w) q in omega arith)
    go (inr d) = absurd (⊎_elim
        (λ l. let a : (j + 1) * w ≤ i * w = mul-le-mul_right w (omega arith) in let b = add-mul j 1 w in let o = one-mul w in omega arith)
        (λ l. let a : (i + 1) * w ≤ j * w = mul-le-mul_right w (omega arith) in let b = add-mul i 1 w in let o = one-mul w in omega arith)
        (cases_lt j i))

-- a number below the count of slots is that of a row of the floor
pub row_below : (w r row bay s : ℕ) → w * row + bay ≡ s → s < r * w → row < r
row_below w r row bay s e l =
    ⊎_elim (λ h. h)
    (λ h. absurd (let z : r * w ≤ row * w = mul-le-mul_right w h in let y = mul_comm row w in omega arith))
    (cases_lt row r)

-- slots of one number are one
pub one_number : (w : ℕ) (a b : Slot) → a.bay < w → b.bay < w → slot_number w a ≡ slot_number w b → a ≡ b
one_number w a b la lb e =
    let x = mul_comm w a.row in
    let y = mul_comm w b.row in
    let s = cell_same a.row a.bay b.row b.bay w la lb (omega arith) in
    same_slot s.0 s.1
