use Rattle.std.proofs.Common.{Bool, true, false, ◌≡◌, ◌<◌, length, None, MatchBool, sym, ap, ◌∙◌, arith}
use Rattle.std.proofs.lemmas.List.{get_or_read}
use Rattle.grid.specs.declared.square.Square.{Square}
use Rattle.grid.specs.Squares.{led}
use Rattle.decklists.specs.declared.carrier.Carrier.{Carrier}
use Rattle.decklists.specs.Carriers.{carriers_view}
use Rattle.decklists.specs.Lists.{nobody}
use Rattle.decklists.specs.Notes.{square_number}
use Rattle.decklists.proofs.Placing.{tells_square}
use Rattle.decklists.proofs.Moving.{comes, exchanges_with}
use Rattle.decklists.proofs.carriers.Carriers.exchanges.Goals as goal

tells_of : (b : Bool) {s t s' t' : Square} → s ≡ s' → t ≡ t' → MatchBool b (s ≡ t) (s ≡ t → ⊥) → MatchBool b (s' ≡ t') (s' ≡ t' → ⊥)
tells_of true p q e = sym p ∙ e ∙ q
tells_of false p q e = λ r. e (p ∙ r ∙ sym q)

pub returns-then-j-k : goal.returns-then-j-k
returns-then-j-k c =
    let s = c.args.self.now in
    let v = carriers_view s in
    let table = s.notes.items in
    let j = c.in-Some.j in
    let here = get_or_read s.list.items c.args.k c.index-carrier.result.now c.requires.there c.index-carrier.ensures nobody in
    let number : c.number.result ≡ square_number v.columns (v.square c.args.k) = c.number.ensures.number ∙ ap (λ (x : Carrier). square_number v.columns x.square) here in
    let within : c.number.result < length table = omega (arith, c.number.ensures.below, s.room) in
    let is = sym (get_or_read table c.number.result c.index.result.now within c.index.ensures None) ∙ c.in-Some.is in
    let meets = comes v s.inside c.requires.remain table c.number.result j c.args.k c.requires.there c.requires.noted number is in
    let there = get_or_read s.list.items j c.index-then-j-k.result.now meets.0 c.index-then-j-k.ensures nobody in
    let told = tells_square c.eq.result c.led.result c.index-then-j-k.result.now.square c.eq.ensures in
    exchanges_with v table c.number.result j c.args.k c.eq.result c.requires.noted.each number is meets c.if-j-k.true (tells_of c.eq.result (c.led.ensures ∙ ap (λ (x : Carrier). led x.square x.heading) here) (ap (λ (x : Carrier). x.square) there) told)
