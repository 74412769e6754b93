-- What a floor record is to a reader, and when a deck stands as it says.
use Rattle.std.specs.Prelude.{◌≡◌, ℕ, ◌<◌, ◌≤◌}
use Rattle.grid.specs.Sides.{GoodSides, row_count, column_count, slot_count}
use Rattle.deck.specs.Decks.{DeckView}
use Rattle.motion.specs.Plans.{Plan, plan_steps, whole}
use Rattle.motion.specs.Carrying.{Good}

-- The floor's sides, the plan that it carries out, how many of its steps are done, its length, and how many orders
-- were accepted, which stops at 65,535.
pub record FloorView : Type 0 where
  pub height : ℕ
  pub width : ℕ
  pub plan : Plan
  pub done : ℕ
  pub length : ℕ
  pub orders : ℕ

-- as many slots as carriers
abbrev pub slots : FloorView → ℕ
slots f = slot_count f.height f.width

-- the same record with so many steps done
abbrev pub with_done : FloorView → ℕ → FloorView
with_done f n =
    record { height = f.height; width = f.width; plan = f.plan; done = n; length = f.length; orders = f.orders }

-- What every floor record keeps: its plan is for this floor, its four lists of places are each a permutation of the
-- slots, its length is the plan's, and the steps done never exceed it.
pub record Kept (f : FloorView) : Type 0 where
  pub sides : GoodSides f.height f.width
  pub height : f.plan.height ≡ f.height
  pub width : f.plan.width ≡ f.width
  pub carriers : f.plan.carriers ≡ slots f
  pub good : Good f.plan
  pub length : f.length ≡ plan_steps f.plan
  pub within : f.done ≤ f.length

-- the deck has rows, columns and carriers as a floor of these sides
pub record Sized (h w : ℕ) (v : DeckView) : Type 0 where
  pub rows : v.rows ≡ row_count h
  pub columns : v.columns ≡ column_count w
  pub carriers : v.carriers ≡ slot_count h w

-- the deck has the floor's sizes, with each carrier where the record puts it
pub record Stands (f : FloorView) (v : DeckView) : Type 0 where
  pub sized : Sized f.height f.width v
  pub placed : (c : ℕ) → c < slots f → v.square c ≡ (whole f.plan).place f.done c
