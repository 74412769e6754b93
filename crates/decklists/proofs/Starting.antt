-- Where carriers start: placed row by row, they stand on the floor and apart.
use Rattle.std.proofs.Common.{◌≡◌, ℕ, ◌+◌, ◌-◌, ◌*◌, ◌/◌, ◌%◌, ◌<◌, ◌≤◌, true, List, length, take, get_or, sym, ap, ◌∙◌, subst, mul-le-mul_right, add-mul, one-mul, arith}
use borrow.Rule.Slice.PartMut.{put_mid}
use native.Mathlib.Decide.{dec_lt}
use Rattle.std.proofs.lemmas.List.{get_or_append_left, get_or-append_right, get_or-take, length-take-le}
use Rattle.std.proofs.lemmas.Nat.{div_below, mod_below, div-add-mod', div-mul-add, mod-mul-add}
use Rattle.grid.specs.declared.square.Square.{Square}
use Rattle.grid.specs.Sides.{row_count, column_count, slot_count}
use Rattle.grid.specs.Slots.{slot, slot_square, numbered_slot}
use Rattle.grid.specs.Squares.{OnFloor, turned_square}
use Rattle.deck.specs.Decks.{Sound}
use Rattle.decklists.specs.declared.carrier.Carrier.{Carrier}
use Rattle.decklists.specs.declared.laying.Laying.{Laying}
use Rattle.decklists.specs.declared.laying.Laying.TheVariants.{Upright, Lying}
use Rattle.decklists.specs.Lists.{nobody, listed, placed}
use Rattle.decklists.specs.Laid.{laid_square, laid_extent}
use Rattle.decklists.specs.Started.{resting_in, resting_on, Started}

slot_inside : (h w k : ℕ) → 0 < w → k < slot_count h w → OnFloor (row_count h) (column_count w) (slot_square (numbered_slot w k))
slot_inside h w k p l = (div_below k w (3 * h) p l, omega (arith, mod_below k w p))

slot_known : (w j k : ℕ) → slot_square (numbered_slot w j) ≡ slot_square (numbered_slot w k) → j ≡ k
slot_known w j k e =
    let r : j / w ≡ k / w = ap (λ (s : Square). s.row) e in
    let m : j % w ≡ k % w = omega (arith, ap (λ (s : Square). s.column) e) in
    sym (div-add-mod' j w) ∙ ap (λ q. q * w + j % w) r ∙ ap (λ q. k / w * w + q) m ∙ div-add-mod' k w

laid_inside : (way : Laying) (h w : ℕ) (s : Square) → OnFloor (row_count h) (column_count w) s → OnFloor (laid_extent way h w).rows (laid_extent way h w).columns (laid_square way s)
laid_inside Upright h w s i = i
laid_inside Lying h w s i = (i.1, i.0)

laid_known : (way : Laying) (s t : Square) → laid_square way s ≡ laid_square way t → s ≡ t
laid_known Upright s t e = e
laid_known Lying s t e = ap turned_square e

module _ (way : Laying) (h w : ℕ) (cs : List Carrier) (s : Started way h w cs) where
  at : (k : ℕ) → k < slot_count h w → placed cs k ≡ laid_square way (slot_square (numbered_slot w k))
  at k l = ap (λ (c : Carrier). c.square) (s.on_slots k l)

  pub starts_sound : 0 < w → Sound (listed (laid_extent way h w) cs true)
  starts_sound p = record {
    inside = λ k l.
        (let i : k < slot_count h w = omega (arith, s.many) in
        subst (OnFloor (laid_extent way h w).rows (laid_extent way h w).columns) (sym (at k i)) (laid_inside way h w (slot_square (numbered_slot w k)) (slot_inside h w k p i)));
    apart = λ j k jk l e.
        (let i : k < slot_count h w = omega (arith, s.many) in
        let o : j < slot_count h w = omega arith in
        let q : j ≡ k = slot_known w j k (laid_known way (slot_square (numbered_slot w j)) (slot_square (numbered_slot w k)) (sym (at j o) ∙ e ∙ at k i)) in
        omega arith);
  }

-- a row more is placed, over the middle of the list
module _ (way : Laying) (h w r : ℕ) (cs row : List Carrier) (size : length cs ≡ slot_count h w) (low : r < row_count h) (long : length row ≡ w) where
  room : r * w + w ≤ length cs
  room =
      let below : r + 1 ≤ row_count h = omega (arith, low) in
      omega (arith, size, mul-le-mul_right w below, add-mul r 1 w, one-mul w)

  module _
      (k : ℕ)
      (before : (s : ℕ) → s < r * w → get_or cs s nobody ≡ resting_on way w s)
      (now : (b : ℕ) → b < w → get_or row b nobody ≡ resting_in way (slot r b)) where
    placed_there : (s : ℕ) → s < r * w + w → Dec (s < r * w) → get_or (put_mid (r * w) k cs row) s nobody ≡ resting_on way w s
    placed_there s l (yes i) =
        get_or_append_left (take (r * w) cs) _ nobody s (omega (arith, i, length-take-le (r * w) cs (omega (arith, room))))
        ∙ get_or-take (r * w) cs s nobody i ∙ before s i
    placed_there s l (no i) =
        let b : ℕ = s - r * w in
        let o : b < w = omega (arith, l) in
        let e : r * w + b ≡ s = omega (arith, i) in
        let same : slot r b ≡ numbered_slot w s = sym (ap (λ q. slot q ((r * w + b) % w)) (div-mul-add r w b o) ∙ ap (slot r) (mod-mul-add r w b o)) ∙ ap (numbered_slot w) e in
        get_or-append_right (take (r * w) cs) _ (r * w) s nobody (length-take-le (r * w) cs (omega (arith, room))) (omega (arith, i))
        ∙ get_or_append_left row _ nobody b (omega (arith, o, long))
        ∙ now b o ∙ ap (resting_in way) same

    pub row_placed : (s : ℕ) → s < (r + 1) * w → get_or (put_mid (r * w) k cs row) s nobody ≡ resting_on way w s
    row_placed s l = placed_there s (omega (arith, l, add-mul r 1 w, one-mul w)) (dec_lt s (r * w))
