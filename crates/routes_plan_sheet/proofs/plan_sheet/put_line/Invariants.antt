-- `plan_sheet::put_line` meets its contract: a field is written with each turn. Assumes nothing.
use Rattle.std.proofs.Common.{◌+◌, ◌*◌, ◌≤◌, map, take}
use Rattle.sheet.specs.Written.{Wrote}
use Rattle.routes_plan_sheet.specs.Fields.{field_text}
use Rattle.routes_plan_sheet.proofs.Lines.{tabs}
use Rattle.routes_plan_sheet.proofs.plan_sheet.put_line.Given as goal

abbrev pub invariant-loop-field : goal.invariant-loop-field
invariant-loop-field l = (l.next ≤ l.initial.next + 11 * l.field-index) × Wrote l.initial.out l.initial.next (tabs (take l.field-index (map field_text l.fields))) l.out l.next
