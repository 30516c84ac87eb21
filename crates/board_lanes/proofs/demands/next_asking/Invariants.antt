-- Marks that are not the page's are passed over, many at once and then one by one.
use Prim.Native.Nat.{◌-◌, ◌≤◌}
use lib.ListN.{length}
use Rattle.board_lanes.specs.PagePlan.{NoneAsks}
use Rattle.board_lanes.proofs.demands.next_asking.Given as goal

abbrev pub invariant-loop-j : goal.invariant-loop-j
invariant-loop-j l = (l.k ≤ l.j) × (l.j ≤ length l.marks) × NoneAsks l.marks l.p l.k l.j

abbrev pub decreases-loop-j : goal.decreases-loop-j
decreases-loop-j l = length l.marks - l.j
