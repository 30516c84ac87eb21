use Prim.Native.Nat.{◌-◌, ◌≤◌}
use lib.ListN.{length}
use Rattle.board_lanes.specs.PagePlan.{PageDemands}
use Rattle.board_lanes.proofs.demands.page_demands.Given as goal

abbrev pub invariant-loop-k : goal.invariant-loop-k
invariant-loop-k l = (l.from ≤ length l.asking.taps.now) × (l.n ≤ l.from) × PageDemands l.asking.taps.now l.asking.marks.now l.from l.groups l.p l.demands l.n

abbrev pub decreases-loop-k : goal.decreases-loop-k
decreases-loop-k l = length l.asking.taps.now - l.from
