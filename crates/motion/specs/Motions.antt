-- Motions: where many carriers are, and where they are headed, at each time.
use Rattle.std.specs.Prelude.{ℕ, ◌+◌, ◌-◌, cond, nat_lt}
use Rattle.grid.specs.declared.heading.Heading.{Heading}
use Rattle.grid.specs.declared.square.Square.{Square}
use Rattle.grid.specs.Headings.{turned_heading}
use Rattle.grid.specs.Squares.{turned_square}
use Rattle.motion.specs.Runs.{run_square, run_heading, turn_square, turn_heading}

-- what all carriers do over some steps: carrier c's square after t steps, and its heading in the step after them
pub record Motion : Type 0 where
  pub steps : ℕ
  pub place : ℕ → ℕ → Square
  pub heading : ℕ → ℕ → Heading

-- one motion, and then another
abbrev pub and_then : Motion → Motion → Motion
and_then a b =
    record {
      steps = a.steps + b.steps;
      place = λ t c. cond (nat_lt t a.steps) (a.place t c) (b.place (t - a.steps) c);
      heading = λ t c. cond (nat_lt t a.steps) (a.heading t c) (b.heading (t - a.steps) c);
    }

-- the same motion where rows and columns are exchanged
abbrev pub across : Motion → Motion
across m =
    record {
      steps = m.steps;
      place = λ t c. turned_square (m.place t c);
      heading = λ t c. turned_heading (m.heading t c);
    }

-- each carrier runs in its line, and n steps are made
abbrev pub run : (line from to : ℕ → ℕ) → ℕ → Motion
run line from to n =
    record {
      steps = n;
      place = λ p c. run_square (line c) (from c) (to c) p;
      heading = λ p c. run_heading (from c) (to c) p;
    }

-- each carrier turns in its line's cell, and n steps are made
abbrev pub turn : (line row : ℕ → ℕ) → ℕ → Motion
turn line row n =
    record {
      steps = n;
      place = λ p c. turn_square (line c) (row c) p;
      heading = λ p c. turn_heading (row c) p;
    }
