-- The first line of a script, and the line of a refusal. Numbers are in decimal.
use Rattle.std.specs.Prelude.{ℕ, List, [], ◌∷◌, ◌++◌, codes, decimal}

-- LFS 1, the sides and the length, with one space between
abbrev pub first_line_bytes : ℕ → ℕ → ℕ → List ℕ
first_line_bytes height width length =
    codes "LFS 1 " ++ decimal height ++ codes " " ++ decimal width ++ codes " " ++ decimal length ++ 10 ∷ []

-- refused, and the number of the refusal
abbrev pub refused_line_bytes : ℕ → List ℕ
refused_line_bytes number = codes "refused " ++ decimal number ++ 10 ∷ []
