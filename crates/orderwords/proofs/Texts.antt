-- One carrier more in a text.
use Rattle.std.proofs.Common.{◌≡◌, ℕ, ◌+◌, Bool, cond, [], ◌++◌, codes, decimal, add-one}
use Rattle.orderwords.specs.Words.{carriers_text}

pub carriers_more :
    (will-do : ℕ → Bool) (n : ℕ)
    → carriers_text will-do (n + 1) ≡ carriers_text will-do n ++ cond (will-do n) (codes " " ++ decimal n) []
carriers_more will-do n = rw add-one
