use Prim.Native.Nat.{◌+◌, ◌*◌, ◌≤◌}
use native.Mathlib.Omega.{arith}
use lib.ListN.{length}
use Rattle.std.proofs.Math.Nat.{mul-le-mul_left}
use Rattle.sheet.proofs.Writing.{wrote_nothing}
use Rattle.routes.specs.PlanSheet.{numbered}
use Rattle.routes_hits.proofs.Listing.{said_step}
use Rattle.routes_hits.proofs.list.put_hits.Goals as goal

pub loop-i-init : goal.loop-i-init
unfolding numbered
loop-i-init g c = (omega arith, wrote_nothing _ _)

pub loop-i-preserved : goal.loop-i-preserved
loop-i-preserved g c =
    let put = c.put_row-next.ensures in
    let before = c.loop-i.invariant in
    let inside : c.loop-i.i + 1 ≤ length c.args.rows.now = omega arith in
    let room : g.H.HitRows.most * (c.loop-i.i + 1) ≤ g.H.HitRows.most * length c.args.rows.now = mul-le-mul_left g.H.HitRows.most inside in (
      omega (arith, put.1, before.0),
      said_step (g.H.HitRows.said c.args.table.now) _ _ _ _ _ _ c.loop-i.i c.args.rows.now c.index-rows-i.result (omega arith) c.index-rows-i.is (omega (arith, put.1, before.0, room, c.requires.1)) before.1 put.0,
    )
