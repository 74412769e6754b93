use Rattle.std.proofs.Common.{◌≡◌, ℕ, ◌+◌, Bool, [], List, Option, Some, Ok, Err, Result, length, sym, refl, ◌∙◌, subst, arith}
use Rattle.matchings.specs.Matchings.{First}
use Rattle.matchings.specs.Reaching.{loose}
use Rattle.matchings.specs.Placing.{Confined, Placed, Sealed}
use Rattle.matchings.proofs.Phases.{Sorted, sorted_placed, confined_more, never_refused, first_of}
use Rattle.matchings.proofs.Places.{sealed_none}
use Rattle.matchings.proofs.Shortcuts.{stays_least, has_least_loose, split_nothing}
use Rattle.matching.specs.declared.placing.Stuck.{Stuck}
use Rattle.matching.specs.Answers.{Outcome, SealedSome}
use Rattle.matching.specs.WorkLists.{members_of}
use Rattle.matching.proofs.Keeping.{kept_same, kept_two}
use Rattle.matching.proofs.Rooms.{member_at, first_at, split_first}
use Rattle.matching.proofs.search.refine.Goals as goal

-- in the second pass each left member gets one
placed_all : (A : ℕ → ℕ → Bool) (n left : ℕ) (block old new members : List ℕ) (r : Result (Option ℕ) Stuck) → Sorted A n left old
    → Outcome A n left left block old new members r → Placed A n left left old new
placed_all A n left block old new members (Ok sealed) S o = o.0
placed_all A n left block old new members (Err s) S o = absurd (never_refused A n left block old members s.reached S o.0)

-- and the blocks that stay confine the next one
confined_still : (A : ℕ → ℕ → Bool) (n left : ℕ) (old new block : List ℕ) → Sorted A n left old → Confined A n left block old → Placed A n left left old new
    → Confined A n (left + 1) block new
confined_still A n left old new block S con P =
    confined_more A n left old new block block [] 0 0 S.held.inj con P (sealed_none A n left old []) (split_nothing [] 0 block)

sealed_there : (A : ℕ → ℕ → Bool) (n left : ℕ) (mate members : List ℕ) (o : Option ℕ) (sealed : ℕ) → o ≡ Some sealed → SealedSome A n left mate members o
    → Sealed A n left mate members sealed
sealed_there A n left mate members o sealed e s = subst (λ (p : Option ℕ). SealedSome A n left mate members p) e s

pub loop-left-preserved-then-has_least : goal.loop-left-preserved-then-has_least
loop-left-preserved-then-has_least g c =
    let A = loose (g.R.Relation.allowed c.args.rel.now) (length c.args.mate.now) in
    let n = length c.loop-left.mate in
    let left = c.loop-left.left in
    let mate = c.loop-left.mate in
    let block = c.loop-left.tables.block.now in
    let least =
    stays_least A n left block mate (omega arith) c.loop-left.invariant.0 c.loop-left.invariant.1
    (has_least_loose (g.R.Relation.allowed c.args.rel.now) n (length c.args.mate.now) left block mate (omega arith) c.if-has_least.ensures) in (
      sorted_placed A n left mate mate c.loop-left.invariant.0 least,
      confined_still A n left mate mate block c.loop-left.invariant.0 c.loop-left.invariant.1 least,
      kept_two _ _ _ c.loop-left.invariant.2 (kept_same c.loop-left.tables),
    )

pub split-requires : goal.split-requires
split-requires g c k h =
    let A = loose (g.R.Relation.allowed c.args.rel.now) (length c.args.mate.now) in
    let es = c.place.new.tables.work.now.entries.now in
    let S = sealed_there A _ c.loop-left.left _ (members_of c.place.new.tables.work.now) _ _ c.in-Ok-Some.field-0-is c.in-Ok-Some.ensures.placed.1 in
    let at = first_at es c.first.result.now c.in-Ok-Some.sealed k c.first.ensures (omega arith) h in
    let e = member_at c.first.result.now k h in
    let b = S.below k at.0 in
    let l = c.in-Ok-Some.ensures.kept.block in
    let m = c.loop-left.invariant.2.block in
    omega arith

pub loop-left-preserved : goal.loop-left-preserved
loop-left-preserved g c =
    let A = loose (g.R.Relation.allowed c.args.rel.now) (length c.args.mate.now) in
    let left = c.loop-left.left in
    let new = c.place.new.mate in
    let line = members_of c.place.new.tables.work.now in
    let es = c.place.new.tables.work.now.entries.now in
    let e : length c.loop-left.mate ≡ length new = omega (arith, c.place.auto.mate) in
    let P = c.in-Ok-Some.ensures.placed.0 in
    let S = sealed_there A _ left _ line _ _ c.in-Ok-Some.field-0-is c.in-Ok-Some.ensures.placed.1 in
    let T = split_first es c.first.result.now c.in-Ok-Some.sealed (left + 1) _ c.split.new.block c.first.ensures (omega arith) c.split.ensures in
    let k = kept_two _ _ _ c.loop-left.invariant.2 c.in-Ok-Some.ensures.kept in (
      subst (λ (x : ℕ). Sorted A x (left + 1) new) e (sorted_placed A _ left _ new c.loop-left.invariant.0 P),
      subst (λ (x : ℕ). Confined A x (left + 1) c.split.new.block new) e
          (confined_more A _ left _ new _ c.split.new.block line c.in-Ok-Some.sealed (left + 1) c.loop-left.invariant.0.held.inj
          (subst (λ (xs : List ℕ). Confined A (length c.loop-left.mate) left xs c.loop-left.mate) (sym c.in-Ok-Some.ensures.block) c.loop-left.invariant.1) P S T),
      record {
        same_block = k.same_block;
        block = c.split.auto.block ∙ k.block;
        same_marks = k.same_marks;
        marks = k.marks;
        same_work = k.same_work;
        room = k.room;
      },
    )

pub loop-left-preserved-in_default : goal.loop-left-preserved-in_default
loop-left-preserved-in_default g c =
    let A = loose (g.R.Relation.allowed c.args.rel.now) (length c.args.mate.now) in
    let n = length c.loop-left.mate in
    let left = c.loop-left.left in
    let old = c.loop-left.mate in
    let new = c.place.new.mate in
    let block = c.loop-left.tables.block.now in
    let e : n ≡ length new = omega (arith, c.place.auto.mate) in
    let P = placed_all A n left block old new (members_of c.place.new.tables.work.now) _ c.loop-left.invariant.0 c.place.ensures.placed in (
      subst (λ (x : ℕ). Sorted A x (left + 1) new) e (sorted_placed A n left old new c.loop-left.invariant.0 P),
      subst (λ (xs : List ℕ). Confined A (length new) (left + 1) xs new) (sym c.place.ensures.block)
          (subst (λ (x : ℕ). Confined A x (left + 1) block new) e (confined_still A n left old new block c.loop-left.invariant.0 c.loop-left.invariant.1 P)),
      kept_two _ _ _ c.loop-left.invariant.2 c.place.ensures.kept,
    )

pub returns-clause-first : goal.returns-clause-first
returns-clause-first g c =
    let e : length c.loop-left.mate ≡ length c.args.mate.now = omega (arith, c.loop-left.auto.mate) in
    subst (λ (x : ℕ). First (g.R.Relation.allowed c.args.rel.now) x c.loop-left.mate) e
    (first_of _ (length c.loop-left.mate) (length c.args.mate.now) c.loop-left.left _ refl (omega arith) (omega arith) c.loop-left.invariant.0)
