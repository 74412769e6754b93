-- What a work list holds: left members by their places, each with the place of its parent.
use Rattle.std.specs.Prelude.{◌≡◌, ℕ, ◌≤◌, List, length, map, ◌≢◌}
use Rattle.matchings.specs.Matchings.{◌!◌}
use Rattle.matching.specs.declared.work_list.Entry.{Entry}
use Rattle.matching.specs.declared.work_list.WorkList.{WorkList}

abbrev pub member_of : Entry → ℕ
member_of e = e.member

abbrev pub parent_of : Entry → ℕ
parent_of e = e.parent

abbrev pub members_of : WorkList → List ℕ
members_of w = map member_of w.entries.now

abbrev pub parents_of : WorkList → List ℕ
parents_of w = map parent_of w.entries.now

-- how many places it has
abbrev pub places : WorkList → ℕ
places w = length w.entries.now

-- it has room for n members and their parents
abbrev pub Room : ℕ → WorkList → Type 0
Room n w = n ≤ places w

-- w has as much room as v
abbrev pub SameRoom : (v w : WorkList) → Type 0
SameRoom v w = places w ≡ places v

-- the numbers at the places i and j of a list are exchanged, and no other
pub record Exchanged (i j : ℕ) (old new : List ℕ) : Type 0 where
  pub there : new ! i ≡ old ! j
  pub back : new ! j ≡ old ! i
  pub others : (k : ℕ) → (k ≢ i) → (k ≢ j) → new ! k ≡ old ! k
