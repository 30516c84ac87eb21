-- `sheet::line::fields_at` meets its contract. The record is what the fields passed leave of it: the columns from `i` on, over the text from `next` on.
-- Assumes nothing.
use Rattle.sheet.proofs.Turns.{Along}
use Rattle.sheet.proofs.line.fields_at.Given as goal

abbrev pub invariant-loop-i : goal.invariant-loop-i
invariant-loop-i l = Along l.text l.at l.s l.row l.fits l.next l.i
