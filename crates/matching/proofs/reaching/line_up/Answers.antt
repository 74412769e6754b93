use Rattle.std.proofs.Common.{◌≡◌, ℕ, ◌+◌, ◌<◌, ◌≤◌, ◌≢◌, List, length, sym, ◌∙◌, subst, ⊎_elim, arith}
use Rattle.std.proofs.lemmas.Bool.{cases_lt}
use Rattle.matchings.specs.Reaching.{Lined}
use Rattle.matchings.proofs.Lines.{line_skip, line_more}
use Rattle.matching.specs.WorkLists.{members_of}
use Rattle.matching.proofs.Rooms.{members_long, rest_at}
use Rattle.matching.proofs.reaching.line_up.Goals as goal
use Rattle.matching.proofs.reaching.line_up.Goals.{then-l-left+then-label-block, else-l-left, else-l-left-via-then-l-left+else-label-block, else-l-left-via-else-l-left}

-- a line has a place for one more
room_left : (n fixed : ℕ) (block : List ℕ) (left l m : ℕ) (members : List ℕ) → left < n → l < n → fixed ≤ l → l ≢ left → Lined n fixed block left l m members → m < n
room_left n fixed block left l m members h k f d L =
    let lo = L.low in
    ⊎_elim (λ s. let q = L.fits s in omega arith) (λ s. omega arith) (cases_lt left l)

pub loop-k-preserved : goal.loop-k-preserved
loop-k-preserved g c =
    let n = length c.args.block.now in
    let fixed = c.args.quest.now.fixed in
    let left = c.args.quest.now.left in
    let l = c.args.quest.now.fixed + c.loop-k.k in
    let at = rest_at c.args.block.now fixed c.loop-k.k 0 (omega arith) in
    let long = members_long c.loop-k.work in
    let a = c.put.ensures.room in
    let b = c.loop-k.invariant.1 in
    let e : l + 1 ≡ fixed + (c.loop-k.k + 1) = omega arith in
    elim c.if-l-left.branch [
      | then-l-left+then-label-block w ↦ let room = room_left _ _ _ _ _ _ _ c.requires.left at.0 (omega arith) w.if-l-left.true c.loop-k.invariant.0 in simp (w.work-is, w.count-is) (
        subst (λ (x : ℕ). Lined n fixed c.args.block.now left x (c.loop-k.count + 1) (members_of w.put-then-label-block.new.self)) e
            (line_more _ _ _ _ _ _ _ at.0 (omega arith) c.loop-k.invariant.0 _ w.put-then-label-block.ensures.members (omega arith) w.if-l-left.true (sym at.1 ∙ w.if-label-block.true)),
        w.put-then-label-block.ensures.room ∙ c.loop-k.invariant.1,
      )
      | else-l-left w ↦ simp (w.work-is, w.count-is) (
        subst (λ (x : ℕ). Lined n fixed c.args.block.now left x c.loop-k.count (members_of c.loop-k.work)) e
            (line_skip _ _ _ _ _ _ _ at.0 (omega arith) c.loop-k.invariant.0
            (elim w.else-l-left.branch [
              | else-l-left-via-then-l-left+else-label-block x ↦ λ q. absurd (x.if-label-block.false (at.1 ∙ q))
              | else-l-left-via-else-l-left x ↦ λ q. x.if-l-left.false
            ])),
        c.loop-k.invariant.1,
      )
    ]
