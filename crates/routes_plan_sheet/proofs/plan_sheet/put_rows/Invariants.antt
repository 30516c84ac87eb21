-- `plan_sheet::put_rows` meets its contract: a line is written with each turn. Assumes nothing.
use Rattle.routes_plan_sheet.specs.Fields.{WroteLines}
use Rattle.routes_plan_sheet.proofs.plan_sheet.put_rows.Given as goal

abbrev pub invariant-loop-k : goal.invariant-loop-k
invariant-loop-k g l = WroteLines g.L.RowLine.text l.initial.out l.at l.rows l.k l.out l.next
