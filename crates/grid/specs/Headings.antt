-- Headings: their numbers, their letters in a script, and how they look from elsewhere.
use Rattle.std.specs.Prelude.{◌≡◌, ℕ, ◌<◌, Result, MatchResult}
use Rattle.grid.specs.declared.heading.Heading.{Heading}
use Rattle.grid.specs.declared.heading.Heading.TheVariants.{Stay, Up, Right, Down, Left}
use Rattle.grid.specs.declared.heading.NoHeading.{NoHeading}

abbrev pub heading_number : Heading → ℕ
heading_number Stay = 0
heading_number Up = 1
heading_number Right = 2
heading_number Down = 3
heading_number Left = 4

-- the heading of that number, or an error where it is the number of none
abbrev pub Names : ℕ → Result Heading NoHeading → Type 0
Names number r = MatchResult r (λ h. heading_number h ≡ number) (λ _. 4 < number)

-- the codes of the letters . U R D L
abbrev pub letter : Heading → ℕ
letter Stay = 46
letter Up = 85
letter Right = 82
letter Down = 68
letter Left = 76

-- where rows and columns are exchanged
abbrev pub turned_heading : Heading → Heading
turned_heading Stay = Stay
turned_heading Up = Left
turned_heading Right = Down
turned_heading Down = Right
turned_heading Left = Up

-- the way back
abbrev pub opposite : Heading → Heading
opposite Stay = Stay
opposite Up = Down
opposite Right = Left
opposite Down = Up
opposite Left = Right
