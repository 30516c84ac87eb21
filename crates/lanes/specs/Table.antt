-- The code's lane table, read as the last rows of its open lanes, and what one packing step does to it.
use Rattle.std.specs.Prelude.{◌≡◌, cond, List, ℕ, ◌≤◌, ◌<◌, Option, Some, None, ltb, length, get_or, take}
use Rattle.lanes.specs.Lanes.{lane_most, lane_for, with_tenant}
use Rattle.lanes.specs.declared.table.LaneTable.{LaneTable}
use Rattle.lanes.specs.declared.table.Taken.{Taken}

-- the last rows of the open lanes
abbrev pub open_ends : LaneTable → List ℕ
open_ends t = take t.count t.ends

-- lane l, or none where the table has no such entry
abbrev pub seat_of : ℕ → Option ℕ
seat_of l = cond (ltb l lane_most) (Some l) None

-- the last rows once the demand has what it gets
abbrev pub ends_after : ℕ → ℕ → List ℕ → List ℕ
ends_after l last ends = cond (ltb l lane_most) (with_tenant l last ends) ends

-- none of the lanes ends before the row
abbrev pub NoneBefore : ℕ → List ℕ → Type 0
NoneBefore first ends = (j : ℕ) → j < length ends → first ≤ get_or ends j 0

-- a packing step hands the table back, with the demand's lane
pub record TookLane (t : LaneTable) (first last : ℕ) (r : Taken) : Type 0 where
  pub seat : r.seat ≡ seat_of (lane_for first (open_ends t))
  pub ends : open_ends r.table ≡ ends_after (lane_for first (open_ends t)) last (open_ends t)
  pub bounded : r.table.count ≤ lane_most
