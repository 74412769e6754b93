-- A carrier's heading in each stage as it is seen upright, and how it is on the deck.
use Rattle.std.specs.Prelude.{ℕ, ◌+◌, ◌*◌, ◌%◌}
use Rattle.grid.specs.declared.heading.Heading.{Heading}
use Rattle.grid.specs.Headings.{turned_heading}
use Rattle.motion.specs.Runs.{run_heading, turn_heading}
use Rattle.course.specs.declared.route.Route.{Route}
use Rattle.course.specs.declared.stage.Stage.{Stage}
use Rattle.course.specs.declared.stage.Stage.TheVariants.{FirstColumns, Turn, Rows, TurnBack, LastColumns}

-- where a stage's run begins and ends, seen upright; in a turn there is none, so nowhere to go
abbrev pub run_from : Stage → Route → ℕ
run_from FirstColumns r = r.start.row
run_from Turn r = r.middle_row
run_from Rows r = 3 * r.start.bay + r.middle_row % 3
run_from TurnBack r = r.middle_row
run_from LastColumns r = r.middle_row

abbrev pub run_to : Stage → Route → ℕ
run_to FirstColumns r = r.middle_row
run_to Turn r = r.middle_row
run_to Rows r = 3 * r.goal.bay + r.middle_row % 3
run_to TurnBack r = r.middle_row
run_to LastColumns r = r.goal.row

abbrev pub upright_heading : Stage → Route → ℕ → Heading
upright_heading FirstColumns r p = run_heading (run_from FirstColumns r) (run_to FirstColumns r) p
upright_heading Turn r p = turn_heading r.middle_row p
upright_heading Rows r p = run_heading (run_from Rows r) (run_to Rows r) p
upright_heading TurnBack r p = turn_heading r.middle_row p
upright_heading LastColumns r p = run_heading (run_from LastColumns r) (run_to LastColumns r) p

-- rows and turn back are seen upright where rows and columns are exchanged
abbrev pub on_deck : Stage → Heading → Heading
on_deck FirstColumns h = h
on_deck Turn h = h
on_deck Rows h = turned_heading h
on_deck TurnBack h = turned_heading h
on_deck LastColumns h = h
