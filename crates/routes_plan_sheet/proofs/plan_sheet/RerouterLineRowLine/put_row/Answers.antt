-- A rerouter's line meets its contract. Assumes nothing.
use Rattle.routes.specs.PlanSheet.{rerouter_line}
use Rattle.routes_plan_sheet.proofs.plan_sheet.RerouterLineRowLine.put_row.Goals as goal

pub returns-clause-wrote : goal.returns-clause-wrote
unfolding rerouter_line
returns-clause-wrote c = rw (c.inward.ensures, c.inward-2.ensures, c.inward-3.ensures) at c.put_line.ensures.wrote
