use Rattle.std.proofs.Common.{◌≡◌, ℕ, ◌+◌, length, refl, arith, length-append}
use Rattle.std.proofs.lemmas.List.FromFn.{length-map-range_with_len}
use Rattle.floor.specs.Shown.{shown, plan_in}
use Rattle.floor.specs.Lines.{LineRefused, line_bytes}
use Rattle.script.proofs.Pastes.{pasted}
use Rattle.floor.proofs.Lines.{letters_whole}
use Rattle.floor.proofs.record.Floor.line.Goals as goal

pub returns-then-self-total : goal.returns-then-self-total
returns-then-self-total c = (LineRefused.no_next_move (omega arith), refl)

pub returns-then-not-has_room : goal.returns-then-not-has_room
returns-then-not-has_room c = (LineRefused.no_room (omega arith) (omega (arith, c.if-not-has_room.ensures)), refl)

pub returns : goal.returns
returns c =
    let f = c.args.self.now in
    let at = c.at-moment.result in
    let n : ℕ = c.slots-count.result + 1 in
    let bytes =
    letters_whole f c.write_letters.new.out c.deref.result.now at c.deref.ensures.value
    (c.at-moment.ensures.alike (plan_in f) f.staged)
    c.write_letters.ensures in
    let long : n ≡ length (line_bytes (shown f)) = simp (length-append, length-map-range_with_len) (omega arith) in (
      omega arith,
      omega arith,
      pasted c.args.out.now c.write_letters.new.out (line_bytes (shown f)) c.args.at n c.if-not-has_room.ensures bytes long,
    )
