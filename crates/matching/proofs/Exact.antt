-- What was found, or who blocks, says exactly when there is a perfect matching.
use Rattle.std.proofs.Common.{ℕ, Bool, List, Result, Ok, Err, IsOk, refl}
use Rattle.std.specs.Prelude.{⊤}
use Rattle.matchings.specs.Matchings.{listed}
use Rattle.matchings.specs.Regular.{RegularCounts}
use Rattle.matchings.proofs.Blocks.{none_past}
use Rattle.matchings.proofs.Regularity.{never_blocks}
use Rattle.matching.specs.declared.search.Blockers.{Blockers}
use Rattle.matching.specs.Answers.{Answer, Exactly}

pub exactly_answered : (A : ℕ → ℕ → Bool) (n : ℕ) (mate members : List ℕ) (r : Result ⊤ Blockers) → Answer A n mate members r → Exactly A n r
exactly_answered A n mate members (Ok x) F = record {
  perfect = λ e. (mate, F.perfect);
  found = λ p P. refl;
  unblocked = λ e set. none_past A n mate set F.perfect;
  free = λ f. refl;
}
exactly_answered A n mate members (Err b) B = record {
  perfect = λ e. cc;
  found = λ p P. absurd (none_past A n p (listed members b.count) P B.blocks);
  unblocked = λ e. cc;
  free = λ f. absurd (f (listed members b.count) B.blocks);
}

pub regular_answered : (A : ℕ → ℕ → Bool) (n : ℕ) (mate members : List ℕ) (r : Result ⊤ Blockers) → Answer A n mate members r → RegularCounts A n → IsOk r
regular_answered A n mate members (Ok x) F C = refl
regular_answered A n mate members (Err b) B C = absurd (never_blocks _ _ (listed members b.count) C B.blocks)
