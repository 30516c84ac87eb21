-- `sheet::fill_rows` meets its contract. Assumes nothing.
use Rattle.std.proofs.Common.{◌≡◌}
use lib.Seq.{paste}
use Rattle.sheet.specs.Reading.{rows_from}
use Rattle.sheet.specs.Answer.{AtLine}
use Rattle.sheet.proofs.fill_rows.Given as goal

abbrev pub invariant-loop-row : goal.invariant-loop-row
invariant-loop-row l = AtLine l.text l.row-index l.at × (l.rows ≡ paste l.initial.rows 0 (rows_from l.text) l.row-index)
