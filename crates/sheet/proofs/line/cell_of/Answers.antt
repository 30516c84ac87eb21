-- `sheet::line::cell_of` meets its contract, by cases. Assumes nothing.
use Rattle.std.proofs.Common.{◌∙◌, ap, arith}
use Rattle.std.specs.Prelude.{Some}
use Rattle.sheet.specs.declared.number.Scanned.TheVariants.{Missing, Plus, Minus}
use Rattle.sheet.specs.Record.{present}
use Rattle.sheet.proofs.Cells.{within_less, within_under, cell_bad, cell_standing, cell_fallen}
use Rattle.sheet.proofs.line.cell_of.Goals as goal

pub overflow_add-origin : goal.overflow_add-origin
overflow_add-origin c = let m = c.in-Some-Plus in omega (arith, c.from-origin.ensures, c.requires m.v (m.is ∙ ap Some (rw m.is at m.field-0-is)))

pub returns-in-Some-Plus : goal.returns-in-Some-Plus
unfolding present
returns-in-Some-Plus c = let a = c.args.column.now in
    let m = c.in-Some-Plus in
    c.in_range.ensures
    ∙ rw c.from-origin.ensures (cell_standing a c.args.before c.args.n _ (Plus m.v) m.is (rw m.is at m.field-0-is) c.if-allowed.ensures)

pub returns-in-Some : goal.returns-in-Some
unfolding present
returns-in-Some c = let a = c.args.column.now in
    let m = c.in-Some-Minus in
    let s = rw c.from-origin.ensures at c.in-Some.ensures in
    c.in_range-in-Some.ensures
    ∙ (within_less a.low a.high a.origin m.v _ s.0 s.1
    ∙ cell_standing a c.args.before c.args.n _ (Minus m.v) m.is (rw m.is at m.field-0-is) c.if-allowed-2.ensures)

pub returns-in-None : goal.returns-in-None
unfolding present
returns-in-None c = let a = c.args.column.now in
    let m = c.in-Some-Minus in
    within_under a.low a.high a.origin m.v (omega arith)
    ∙ cell_standing a c.args.before c.args.n _ (Minus m.v) m.is (rw m.is at m.field-0-is) c.if-allowed-2.ensures

pub returns-in-Some-Missing : goal.returns-in-Some-Missing
unfolding present
returns-in-Some-Missing c = let m = c.in-Some-Missing in
    cell_standing c.args.column.now c.args.before c.args.n _ Missing m.is (rw m.is at m.field-0-is) c.if-allowed-3.ensures

pub returns-in_default : goal.returns-in_default
returns-in_default c = let m = c.in-Some-Plus in
    cell_fallen c.args.column.now c.args.before c.args.n _ (Plus m.v) m.is (rw m.is at m.field-0-is) c.if-allowed.ensures

pub returns-in_default-2 : goal.returns-in_default-2
returns-in_default-2 c = let m = c.in-Some-Minus in
    cell_fallen c.args.column.now c.args.before c.args.n _ (Minus m.v) m.is (rw m.is at m.field-0-is) c.if-allowed-2.ensures

pub returns-in_default-3 : goal.returns-in_default-3
returns-in_default-3 c = let m = c.in-Some-Missing in
    cell_fallen c.args.column.now c.args.before c.args.n _ Missing m.is (rw m.is at m.field-0-is) c.if-allowed-3.ensures

pub returns-in_default-4 : goal.returns-in_default-4
returns-in_default-4 c = rw c.in_default.is (cell_bad c.args.column.now c.args.before)
