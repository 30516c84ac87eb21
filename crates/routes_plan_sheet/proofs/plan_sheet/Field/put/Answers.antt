-- `plan_sheet::Field::put` meets its contract: a tab, then at most ten digits. Assumes nothing.
use Rattle.std.proofs.Common.{[], ◌∷◌, arith}
use Rattle.sheet.proofs.Writing.{wrote_more}
use Rattle.routes_plan_sheet.specs.Fields.{field_text}
use Rattle.routes_plan_sheet.proofs.Lines.{text_length}
use Rattle.routes_plan_sheet.proofs.plan_sheet.Field.put.Goals as goal

pub returns-clause-wrote : goal.returns-clause-wrote
returns-clause-wrote c =
    let few = text_length c.args.self in
    let done = c.put_text.ensures in
    let first = c.put_byte-next.ensures in
    wrote_more _ _ _ _ _ _ (9 ∷ []) (field_text c.args.self) (omega (arith, few, done.place, first.place)) first done

pub returns-clause-upper_bound : goal.returns-clause-upper_bound
returns-clause-upper_bound c = omega (arith, text_length c.args.self, c.put_text.ensures.place, c.put_byte-next.ensures.place)
