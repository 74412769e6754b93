use Rattle.std.proofs.Common.{◌≡◌, ℕ, Bool, true, false, List, length, refl, ◌∙◌, subst, arith}
use Rattle.std.specs.Bool.{then_some}
use Rattle.std.proofs.lemmas.Bool.{eqb-true}
use Rattle.matchings.specs.Reaching.{Lined}
use Rattle.matchings.specs.Placing.{Sealed}
use Rattle.matchings.proofs.Places.{restored, stuck, placed, refused, sealed_all}
use Rattle.matching.specs.Answers.{SealedSome}
use Rattle.matching.specs.WorkLists.{members_of}
use Rattle.matching.proofs.placing.place.Goals as goal

sealed_told : (A : ℕ → ℕ → Bool) (n fixed : ℕ) (mate members : List ℕ) (count : ℕ) (b : Bool) → (b ≡ true → Sealed A n fixed mate members count)
    → SealedSome A n fixed mate members (then_some b count)
sealed_told A n fixed mate members count true h = h refl
sealed_told A n fixed mate members count false h = tt

pub returns-in_default-clause-placed : goal.returns-in_default-clause-placed
returns-in_default-clause-placed g c =
    let L = subst (λ (x : ℕ). Lined x c.args.quest.now.fixed c.args.tables.now.block.now c.args.quest.now.left x c.line_up-movable.result (members_of c.line_up-movable.new.work)) c.requires.ready.block c.line_up-movable.ensures.lined in
    (stuck _ _ _ _ _ _ _ _ c.requires.seated.inj (omega arith) c.args.quest.now.free c.requires.confined L c.in_default.ensures, refl)

pub returns-in_default-choose-clause-kept : goal.returns-in_default-choose-clause-kept
returns-in_default-choose-clause-kept g c = record {
  same_block = refl;
  block = refl;
  same_marks = refl;
  marks =
      let e : length c.drop-guard.new.self.0 ≡ length c.args.tables.now.marks.now = omega (arith, c.drop-guard.ensures.long, c.reach-count.auto.marks) in
      restored (length c.args.mate.now) c.drop-guard.new.self.0 c.args.tables.now.marks.now e c.drop-guard.ensures.zero c.requires.ready.clear
      (λ k h. c.drop-guard.ensures.rest k h ∙ c.reach-count.ensures.rest k h);
  same_work = refl;
  room = c.reach-count.ensures.room ∙ c.line_up-movable.ensures.room;
}

pub returns-in_default-choose-clause-placed : goal.returns-in_default-choose-clause-placed
returns-in_default-choose-clause-placed g c =
    let L = subst (λ (x : ℕ). Lined x c.args.quest.now.fixed c.args.tables.now.block.now c.args.quest.now.left x c.line_up-movable.result (members_of c.line_up-movable.new.work)) c.requires.ready.block c.line_up-movable.ensures.lined in (
      refused _ _ _ _ _ _ _ _ c.requires.seated.inj (omega arith) c.args.quest.now.free c.requires.confined L _ _ c.in-Some.ensures c.member-goal.ensures _ _ _ _
          c.reach-count.ensures.reached c.reach-count.ensures.ended c.in_default-choose.ensures,
      refl,
    )

pub returns-clause-kept : goal.returns-clause-kept
returns-clause-kept g c = record {
  same_block = refl;
  block = refl;
  same_marks = refl;
  marks =
      let e : length c.drop-guard-2.new.self.0 ≡ length c.args.tables.now.marks.now = omega (arith, c.drop-guard-2.ensures.long, c.reach-count.auto.marks) in
      restored (length c.args.mate.now) c.drop-guard-2.new.self.0 c.args.tables.now.marks.now e c.drop-guard-2.ensures.zero c.requires.ready.clear
      (λ k h. c.drop-guard-2.ensures.rest k h ∙ c.reach-count.ensures.rest k h);
  same_work = refl;
  room = c.reach-count.ensures.room ∙ c.line_up-movable.ensures.room;
}

pub returns-clause-placed : goal.returns-clause-placed
returns-clause-placed g c =
    let L = subst (λ (x : ℕ). Lined x c.args.quest.now.fixed c.args.tables.now.block.now c.args.quest.now.left x c.line_up-movable.result (members_of c.line_up-movable.new.work)) c.requires.ready.block c.line_up-movable.ensures.lined in (
      placed _ _ _ _ _ _ _ _ c.requires.seated.inj (omega arith) c.args.quest.now.free c.requires.confined L _ _ c.in-Some.ensures c.member-goal.ensures _ _ _ _
          c.reach-count.ensures.reached c.reach-count.ensures.ended _ _ c.in-Some-choose.ensures c.requires.others c.rotate.ensures,
      rw c.then_some-sealed.ensures (sealed_told _ _ _ _ _ _ _ (λ z. sealed_all _ _ _ _ _ _ _ _ c.requires.seated.inj (omega arith) c.args.quest.now.free c.requires.confined L _ _ c.in-Some.ensures
          c.member-goal.ensures _ _ _ _ c.reach-count.ensures.reached c.reach-count.ensures.ended (eqb-true _ _ z))),
    )
