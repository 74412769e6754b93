-- What the lent tables of a search keep.
use Rattle.std.specs.Prelude.{◌≡◌, ℕ, ◌≤◌, length}
use Rattle.matchings.specs.Reaching.{Clear}
use Rattle.matching.specs.WorkLists.{Room, SameRoom}
use Rattle.matching.specs.declared.tables.Tables.{Tables}

-- they serve a relation of n members, and no mark is set
pub record Ready (n : ℕ) (t : Tables) : Type 0 where
  pub block : length t.block.now ≡ n
  pub marks : n ≤ length t.marks.now
  pub room : Room n t.work.now
  pub clear : Clear t.marks.now n

-- the same tables are lent, with the marks as they were, and as much room as before
pub record Kept (old new : Tables) : Type 0 where
  pub same_block : new.block.ghost_name ≡ old.block.ghost_name
  pub block : length new.block.now ≡ length old.block.now
  pub same_marks : new.marks.ghost_name ≡ old.marks.ghost_name
  pub marks : new.marks.now ≡ old.marks.now
  pub same_work : new.work.ghost_name ≡ old.work.ghost_name
  pub room : SameRoom old.work.now new.work.now
