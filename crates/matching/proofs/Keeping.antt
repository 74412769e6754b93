-- The lent tables are kept from one step to the next.
use Rattle.std.proofs.Common.{refl, ◌∙◌}
use Rattle.matching.specs.declared.tables.Tables.{Tables}
use Rattle.matching.specs.Tables.{Kept}

pub kept_same : (t : Tables) → Kept t t
kept_same t = record { same_block = refl; block = refl; same_marks = refl; marks = refl; same_work = refl; room = refl }

pub kept_two : (t u v : Tables) → Kept t u → Kept u v → Kept t v
kept_two t u v a b = record {
  same_block = b.same_block ∙ a.same_block;
  block = b.block ∙ a.block;
  same_marks = b.same_marks ∙ a.same_marks;
  marks = b.marks ∙ a.marks;
  same_work = b.same_work ∙ a.same_work;
  room = b.room ∙ a.room;
}
