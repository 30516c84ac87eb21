-- `lanes::table::lowest_lane` meets its contract: the lanes passed end too late. Assumes nothing.
use Prim.Native.Nat.{◌≤◌, ◌-◌}
use Rattle.lanes.proofs.FindLaws.{Passed}
use Rattle.lanes.proofs.LaneLaws.{ends_before}
use Rattle.lanes.proofs.table.lowest_lane.Given as goal

abbrev pub invariant-loop-passed : goal.invariant-loop-passed
invariant-loop-passed l = (l.passed ≤ l.count) × Passed (ends_before l.first) l.ends l.passed

abbrev pub decreases-loop-passed : goal.decreases-loop-passed
decreases-loop-passed l = l.count - l.passed
