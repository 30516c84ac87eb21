-- `lanes::table::LaneTable::take_lane` meets its contract. Assumes nothing.
use mathlib.Core.Path.{◌≡◌, ap, ◌∙◌}
use Prim.Native.Nat.{ℕ, ◌≤◌}
use native.Mathlib.Omega.{arith}
use borrow.Author.Rules.{rules}
use lib.ListN.{length, take, set}
use Rattle.lanes.specs.Lanes.{lane_most}
use Rattle.lanes.proofs.LaneLaws.{table_after}
use Rattle.lanes.proofs.StepLaws.{lane_within, took_lane}
use Rattle.lanes.proofs.table.LaneTable.take_lane.Goals as goal

pub returns : goal.returns
returns c =
    let t = c.args.self in
    let l = c.lowest_lane-l.result in
    let k : length t.ends ≡ lane_most = search rules in
    let w : l ≤ t.count = lane_within t c.args.first l c.lowest_lane-l.ensures in
    took_lane t c.args.first c.args.last l c.lowest_lane-l.ensures (record { ends = set t.ends l c.args.last; count = c.max.result }) (omega arith)
    (ap (λ (n : ℕ). take n (set t.ends l c.args.last)) c.max.ensures ∙ table_after t.ends t.count l c.args.last w (omega arith) (omega arith)) (omega (arith, c.max.ensures))
