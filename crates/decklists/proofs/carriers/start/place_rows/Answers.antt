use Rattle.std.proofs.Common.{◌≡◌, ◌+◌, ◌-◌, ◌*◌, ◌<◌, length, ◌∙◌, rules, arith}
use Rattle.grid.specs.Sides.{row_count}
use Rattle.decklists.proofs.Starting.{row_placed}
use Rattle.decklists.proofs.carriers.start.place_rows.Goals as goal

pub loop-row-preserved : goal.loop-row-preserved
loop-row-preserved c =
    let r = c.loop-row.row in
    let s = c.args.sides in
    let w = s.width in
    let row = c.place_row.new.carriers in
    let low : r < row_count s.height = omega (arith, c.loop-row-test.true, c.rows-row-end.ensures) in
    let long : length row ≡ w = search rules in
    row_placed c.args.laying s.height w r c.loop-row.carriers row (c.loop-row.auto.carriers ∙ c.requires) low long (r * w + w - r * w) c.loop-row.invariant
    (λ b l. c.place_row.ensures b (omega (arith, l, long, c.place_row.auto.carriers)))
