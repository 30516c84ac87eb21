-- `pz_allocate_lanes` meets its contract, which is that of `allocate_lanes`. Assumes nothing.
use mathlib.Core.Path.{sym, subst}
use lib.ListN.{length}
use Rattle.lanes.specs.LaneCall.{Answered}
use Rattle.lanes.specs.declared.LaneReport.{LaneReport}
use Rattle.panzhyqur.proofs.lane_call.pz_allocate_lanes.Goals as goal

pub returns : goal.returns
returns c = subst (λ (r : LaneReport). Answered c.args.demands.now c.args.lanes.now c.allocate_lanes.new.lanes (length c.args.work.now) (length c.args.spare.now) r)
    (sym c.from.ensures) c.allocate_lanes.ensures
