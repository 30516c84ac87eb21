-- `plan_sheet::put_plan` meets its contract: the lines of each table behind those of the one before. Assumes nothing.
use Rattle.std.proofs.Common.{arith}
use Rattle.routes_plan_sheet.proofs.Lines.{wrote_join}
use Rattle.routes_plan_sheet.proofs.plan_sheet.put_plan.Goals as goal

pub returns : goal.returns
returns c =
    let pages = c.put_rows-rerouters_at.ensures in
    let rerouters = c.put_rows-wires_at.ensures in
    let wires = c.put_rows-ports_at.ensures in
    let ports = c.put_rows-total_at.ensures in
    let total = c.put_total_line.ensures in
    wrote_join _ _ _ _ _ _ _ _ (omega arith) pages.wrote
    (wrote_join _ _ _ _ _ _ _ _ (omega arith) (wrote_join _ _ _ _ _ _ _ _ (omega arith) rerouters.wrote wires.wrote) (wrote_join _ _ _ _ _ _ _ _ (omega arith) ports.wrote total.wrote))
