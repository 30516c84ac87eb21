-- `plan_sheet::put_refusal` meets its contract. Assumes nothing.
use Rattle.routes.specs.PlanSheet.{refusal_sheet}
use Rattle.routes_plan_sheet.proofs.plan_sheet.put_refusal.Goals as goal

pub returns : goal.returns
unfolding refusal_sheet
returns c = c.put_line.ensures.wrote
