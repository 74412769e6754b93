use Rattle.std.proofs.Common.{◌≡◌, ℕ, ◌+◌, ◌*◌, ◌/◌, ◌%◌, ◌<◌, get_or}
use Rattle.orderfile.proofs.lists.write_words.Given as goal

abbrev pub invariant-loop-k : goal.invariant-loop-k
invariant-loop-k l =
    (j : ℕ)
    → j < l.k
    → (get_or l.out (2 * j) 0 ≡ get_or l.entries j 0 / 256) × (get_or l.out (2 * j + 1) 0 ≡ get_or l.entries j 0 % 256)
