use Rattle.std.proofs.Common.{true}
use Rattle.deck.specs.Decks.{end}
use Rattle.decklists.specs.Lists.{listed}
use Rattle.decklists.specs.Notes.{Noted}
use Rattle.decklists.proofs.carriers.notes.note_ends.Given as goal

abbrev pub invariant-loop-k : goal.invariant-loop-k
invariant-loop-k l = Noted l.extent.columns l.k (end (listed l.extent l.carriers true)) l.table
