-- `sheet::line::line_at` meets its contract: the part that a tab ends names a section, or the line can't be read. Assumes nothing.
use Rattle.std.proofs.Common.{refl, arith}
use Rattle.sheet.proofs.Lines.{front_none, front_room, front_says}
use Rattle.sheet.proofs.line.line_at.Goals as goal

pub returns-in_err-s : goal.returns-in_err-s
returns-in_err-s c = rw c.from_residual.ensures (front_none _ c.in_err-s.ensures)

pub overflow_add-at : goal.overflow_add-at
overflow_add-at c = omega (arith, front_room c.args.text.now c.args.at refl c.in_ok-s.ensures)

pub fields_at-requires : goal.fields_at-requires
fields_at-requires c = (omega (arith, front_room c.args.text.now c.args.at refl c.in_ok-s.ensures), c.in_ok-s.ensures.0, c.empty_row.ensures)

pub returns : goal.returns
returns c = front_says c.args.text.now c.args.at refl c.in_ok-s.ensures c.fields_at.result c.fields_at.new.row c.fields_at.ensures
