-- A suppressed port's line meets its contract. Assumes nothing.
use Rattle.routes.specs.PlanSheet.{port_line}
use Rattle.routes_plan_sheet.proofs.plan_sheet.PortLineRowLine.put_row.Goals as goal

pub returns-clause-wrote : goal.returns-clause-wrote
unfolding port_line
returns-clause-wrote c = c.put_line.ensures.wrote
