-- `write_plan` meets its contract: what the tables' rows give is the plan sheet. Assumes nothing.
use Rattle.routes_plan_sheet.proofs.PlanWritten.{wrote_plan}
use Rattle.routes_plan_sheet.proofs.write_plan.Goals as goal

pub returns : goal.returns
returns c b ps h =
    wrote_plan b ps _ _ _ _ _ _ h _ _ _ _ _ c.count_deliveries-deliveries.ensures.0 c.totals.ensures c.put_plan.ensures
