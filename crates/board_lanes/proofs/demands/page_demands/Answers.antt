use Prim.Native.Nat.{◌<◌}
use native.Mathlib.Omega.{arith}
use mathlib.Core.Path.{subst}
use lib.ListN.{length}
use Rattle.board_lanes.specs.PagePlan.{NoneAsks}
use Rattle.board_lanes.proofs.PageLaws.{demands_more, demands_past}
use Rattle.board_lanes.proofs.demands.page_demands.Goals as goal

pub loop-k-preserved : goal.loop-k-preserved
loop-k-preserved c = let a = c.args in
    let l = c.loop-k in
    let k = c.in-Some.k in
    let e = c.in-Some.ensures in
    let room : l.n < length l.demands = omega (arith, e.0, e.1) in (
      omega (arith, e.1),
      omega (arith, e.0),
      demands_more a.asking.taps.now a.groups.now a.asking.marks.now a.p k l.n l.demands c.demand_row.result (demands_past a.asking.taps.now a.groups.now a.asking.marks.now a.p l.from l.n l.demands l.invariant.2 k e.0 e.2) room e.3 c.demand_row.ensures,
    )

pub returns-clause-page_demands : goal.returns-clause-page_demands
returns-clause-page_demands c = let a = c.args in
    let l = c.loop-k in
    demands_past a.asking.taps.now a.groups.now a.asking.marks.now a.p l.from l.n l.demands l.invariant.2 (length a.asking.taps.now) (omega arith) (subst (NoneAsks a.asking.marks.now a.p l.from) c.args.asking.few.1 c.in_default.ensures)
