-- Equal squares.
use Rattle.std.proofs.Common.{◌≡◌, ap}
use Rattle.grid.specs.declared.square.Square.{Square}

pub same_square : {a b : Square} → a.row ≡ b.row → a.column ≡ b.column → a ≡ b
same_square r c = λ i. record { row = r i; column = c i }

pub same_row : {a b : Square} → a ≡ b → a.row ≡ b.row
same_row e = ap (λ (s : Square). s.row) e

pub same_column : {a b : Square} → a ≡ b → a.column ≡ b.column
same_column e = ap (λ (s : Square). s.column) e
