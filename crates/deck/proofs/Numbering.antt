-- A heading is known by its number.
use Rattle.std.proofs.Common.{◌≡◌, ℕ, ◌≤◌, cond, eqb, sym, refl, ap, ◌∙◌, arith}
use Rattle.grid.specs.declared.heading.Heading.{Heading}
use Rattle.grid.specs.declared.heading.Heading.TheVariants.{Stay, Up, Right, Down, Left}
use Rattle.grid.specs.Headings.{heading_number}

abbrev numbered : ℕ → Heading
numbered n = cond (eqb n 0) Stay (cond (eqb n 1) Up (cond (eqb n 2) Right (cond (eqb n 3) Down Left)))

of_number : (h : Heading) → numbered (heading_number h) ≡ h
of_number Stay = refl
of_number Up = refl
of_number Right = refl
of_number Down = refl
of_number Left = refl

pub same_heading : (g h : Heading) → heading_number g ≡ heading_number h → g ≡ h
same_heading g h e = sym (of_number g) ∙ ap numbered e ∙ of_number h

pub few_numbers : (h : Heading) → heading_number h ≤ 4
few_numbers Stay = omega arith
few_numbers Up = omega arith
few_numbers Right = omega arith
few_numbers Down = omega arith
few_numbers Left = omega arith
