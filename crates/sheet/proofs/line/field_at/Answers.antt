-- `sheet::line::field_at` meets its contract: what the field holds is stored, or the row is left. Assumes nothing.
use Rattle.std.proofs.Common.{◌+◌, length, sym, ap, ◌∙◌, arith}
use Rattle.sheet.specs.Walk.{number_in}
use Rattle.sheet.proofs.Parts.{part_room}
use Rattle.sheet.proofs.Numbers.{number_short}
use Rattle.sheet.proofs.line.field_at.Goals as goal

pub overflow_add-next : goal.overflow_add-next
overflow_add-next c = let a = c.args in rw c.part_from-field.ensures (omega (arith, part_room a.end a.text.now a.at (length a.text.now + 16) c.requires.0 (omega arith)))

pub overflow_add-next-2 : goal.overflow_add-next-2
overflow_add-next-2 c = let a = c.args in rw c.part_from-field.ensures (omega (arith, part_room a.end a.text.now a.at (length a.text.now + 16) c.requires.0 (omega arith)))

pub cell_of-requires : goal.cell_of-requires
cell_of-requires c v e = number_short c.part_from-field.result.now v (sym c.number_of-n.ensures ∙ ap number_in e)
