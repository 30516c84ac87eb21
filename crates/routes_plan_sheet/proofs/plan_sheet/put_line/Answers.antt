use Rattle.std.proofs.Common.{◌≡◌, length, arith, rules}
use Rattle.std.proofs.lemmas.List.{get_or_default}
use Rattle.sheet.proofs.Writing.{wrote_nothing}
use Rattle.routes_plan_sheet.proofs.Lines.{tabs, line_step, line_whole}
use Rattle.routes_plan_sheet.proofs.plan_sheet.put_line.Goals as goal

pub loop-field-init : goal.loop-field-init
unfolding tabs
loop-field-init c = (omega arith, wrote_nothing _ _)

pub loop-field-preserved : goal.loop-field-preserved
loop-field-preserved c =
    let written = c.put-next.ensures in
    let i = c.loop-field.invariant in (
      omega (arith, written.upper_bound, i.0),
      line_step _ _ _ _ _ _ c.loop-field.field-index c.args.fields.now _ (omega arith) (get_or_default c.args.fields.now c.loop-field.field-index _ _ (omega arith)) (omega (arith, i.0, c.put_byte-next.ensures.place)) c.loop-field.auto.out written.upper_bound i.1 written.wrote,
    )

pub returns-clause-wrote : goal.returns-clause-wrote
returns-clause-wrote c =
    let done = c.loop-field.invariant in
    let all : c.loop-field.field-index ≡ length c.args.fields.now = omega arith in
    line_whole _ _ _ _ _ _ c.loop-field.next _ _ c.args.fields.now (omega (arith, done.0, c.put_byte-next.ensures.place)) c.put_byte-next.ensures (rw all at done.1) c.put_byte.ensures (search rules)
