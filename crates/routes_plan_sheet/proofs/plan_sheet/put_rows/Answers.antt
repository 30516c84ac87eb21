use Rattle.std.proofs.Common.{arith}
use Rattle.routes_plan_sheet.proofs.Lines.{lines_none, lines_step}
use Rattle.routes_plan_sheet.proofs.plan_sheet.put_rows.Goals as goal

pub loop-k-init : goal.loop-k-init
loop-k-init g c = lines_none _ _ _ _

pub loop-k-preserved : goal.loop-k-preserved
loop-k-preserved g c =
    let line = c.put_row-next.ensures in
    lines_step g.L.RowLine.text _ _ _ _ _ _ c.loop-k.k c.args.rows.now c.index-rows-k.result (omega arith) c.index-rows-k.is (omega (arith, c.loop-k.invariant.most)) c.loop-k.auto.out line.upper_bound c.loop-k.invariant line.wrote
