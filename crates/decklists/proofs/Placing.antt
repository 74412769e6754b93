-- Squares on the floor: where a heading leads, and their numbers.
use Rattle.std.proofs.Common.{◌≡◌, ℕ, ◌/◌, ◌%◌, ◌<◌, Bool, true, false, ◌&&◌, eqb, MatchBool, sym, ap, ◌∙◌, ⊎_elim, arith}
use Rattle.std.proofs.lemmas.Bool.{and_parts, and_cases, eqb-true, eqb-false}
use Rattle.std.proofs.lemmas.Nat.{div-mul-add, mod-mul-add}
use Rattle.grid.specs.declared.heading.Heading.{Heading}
use Rattle.grid.specs.declared.heading.Heading.TheVariants.{Stay, Up, Right, Down, Left}
use Rattle.grid.specs.declared.square.Square.{Square}
use Rattle.grid.specs.Squares.{square, OnFloor, Remains, led}
use Rattle.decklists.specs.Notes.{square_number}

pub led_inside : (rows columns : ℕ) (s : Square) (h : Heading) → OnFloor rows columns s → Remains rows columns s h → OnFloor rows columns (led s h)
led_inside rows columns s Stay (r, c) p = (r, c)
led_inside rows columns s Up (r, c) p = (omega arith, c)
led_inside rows columns s Right (r, c) p = (r, p)
led_inside rows columns s Down (r, c) p = (p, c)
led_inside rows columns s Left (r, c) p = (r, omega arith)

pub same_square : (s t : Square) → s.row ≡ t.row → s.column ≡ t.column → s ≡ t
same_square s t p q = ap (λ r. square r s.column) p ∙ ap (square t.row) q

-- a square is known by its number
pub same_number : (columns : ℕ) (s t : Square) → s.column < columns → t.column < columns → square_number columns s ≡ square_number columns t → s ≡ t
same_number n s t l m e = same_square s t
    (sym (div-mul-add s.row n s.column l) ∙ ap (λ q. q / n) e ∙ div-mul-add t.row n t.column m)
    (sym (mod-mul-add s.row n s.column l) ∙ ap (λ q. q % n) e ∙ mod-mul-add t.row n t.column m)

-- what a comparison of two squares tells
pub tells_square : (b : Bool) (s t : Square) → b ≡ (eqb s.row t.row && eqb s.column t.column) → MatchBool b (s ≡ t) (s ≡ t → ⊥)
tells_square true s t e =
    let both = and_parts (eqb s.row t.row) (eqb s.column t.column) (sym e) in
    same_square s t (eqb-true s.row t.row both.0) (eqb-true s.column t.column both.1)
tells_square false s t e = λ q. ⊎_elim
    (λ r. eqb-false s.row t.row r (ap (λ (u : Square). u.row) q))
    (λ r. eqb-false s.column t.column r (ap (λ (u : Square). u.column) q))
    (and_cases (eqb s.row t.row) (eqb s.column t.column) (sym e))
