use Rattle.std.proofs.Common.{arith}
use Rattle.floor.specs.Shown.{shown}
use Rattle.serve.proofs.Playing.{run_none, run_more, run_still, still_leads, stopped, spent}
use Rattle.serve.proofs.serve.Goals as goal

pub loop-init : goal.loop-init
loop-init g c = run_none _ _ _

pub loop-preserved : goal.loop-preserved
loop-preserved g c =
    let view = g.D.Deck.view in
    let account = g.S.Source.account in
    let next = c.in-Some.ensures in
    let told = c.make_call.ensures in
    let chosen =
    run_still (shown c.args.floor.now) (view c.args.deck.now) (account c.args.calls.now) (shown c.loop.floor) (view c.loop.deck)
    (account c.loop.calls) c.loop.counter c.loop.invariant (shown c.loop.floor) (view c.next.new.deck) (account c.next.new.self)
    (still_leads _ _ _ next.floor next.still) next.kept in
    run_more (shown c.args.floor.now) (view c.args.deck.now) (account c.args.calls.now) (shown c.loop.floor) (view c.next.new.deck)
    (account c.next.new.self) c.loop.counter chosen (shown c.make_call.new.floor) (view c.make_call.new.deck)
    (account c.make_call.new.calls) told.0 told.1 told.2

pub returns-in_default : goal.returns-in_default
returns-in_default g c =
    let view = g.D.Deck.view in
    let account = g.S.Source.account in
    let next = c.in_default.ensures in
    let run =
    run_still (shown c.args.floor.now) (view c.args.deck.now) (account c.args.calls.now) (shown c.loop.floor) (view c.loop.deck)
    (account c.loop.calls) c.loop.counter c.loop.invariant (shown c.loop.floor) (view c.next.new.deck) (account c.next.new.self)
    (still_leads _ _ _ next.floor next.still) next.kept in
    stopped (shown c.args.floor.now) (view c.args.deck.now) (account c.args.calls.now) (shown c.loop.floor)
    (view c.next.new.deck) (account c.next.new.self) (g.S.Source.over c.next.new.self) c.loop.counter c.args.budget run
    (omega arith) next.chooses

pub returns : goal.returns
returns g c =
    let view = g.D.Deck.view in
    let account = g.S.Source.account in
    spent (shown c.args.floor.now) (view c.args.deck.now) (account c.args.calls.now) (shown c.loop.floor) (view c.loop.deck)
    (account c.loop.calls) (g.S.Source.over c.loop.calls) c.loop.counter c.args.budget c.loop.invariant (omega arith)
