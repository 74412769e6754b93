use Rattle.std.proofs.Common.{◌≡◌, true, get_or, None, sym, refl, ap, ◌∙◌, arith}
use Rattle.deck.specs.Decks.{end}
use Rattle.decklists.specs.Lists.{listed}
use Rattle.decklists.specs.Notes.{square_number}
use Rattle.decklists.proofs.Moving.{meets}
use Rattle.decklists.proofs.Noting.{some_noted, none_noted, noted_more}
use Rattle.decklists.proofs.carriers.notes.note_ends.Goals as goal

pub returns-then-is_some : goal.returns-then-is_some
returns-then-is_some c =
    let e = c.args.extent in
    let v = listed e c.args.carriers.now true in
    let here : c.number-number.result ≡ square_number e.columns (end v c.loop-k.k) = c.number-number.ensures.number ∙ ap (square_number e.columns) c.led.ensures in
    let (j, is) = some_noted (get_or c.loop-k.table c.number-number.result None) (sym c.is_some.ensures ∙ c.if-is_some.true) in
    (refl, meets v c.requires.inside c.requires.remain c.loop-k.table c.loop-k.k c.number-number.result j (omega arith) c.loop-k.invariant here is)

pub loop-k-preserved : goal.loop-k-preserved
loop-k-preserved c =
    let e = c.args.extent in
    let v = listed e c.args.carriers.now true in
    let here : c.number-number.result ≡ square_number e.columns (end v c.loop-k.k) = c.number-number.ensures.number ∙ ap (square_number e.columns) c.led.ensures in
    noted_more e.columns (end v) c.loop-k.table c.loop-k.k c.number-number.result here (omega (arith, c.number-number.ensures.below, c.requires.room)) (none_noted (get_or c.loop-k.table c.number-number.result None) (sym c.is_some.ensures ∙ c.if-is_some.false)) c.loop-k.invariant
