-- `sheet::line::in_range` meets its contract. Assumes nothing.
use Rattle.std.proofs.Common.{arith}
use Rattle.sheet.proofs.Cells.{within_holds, within_low, within_high}
use Rattle.sheet.proofs.line.in_range.Goals as goal
use Rattle.sheet.proofs.line.in_range.Goals.{then-held-from-via-then-held-from, then-held-from-via-else-held-from+then-from-held}

pub returns-then-held-from : goal.returns-then-held-from
returns-then-held-from c = let a = c.args in
    elim c.then-held-from.branch [
      | then-held-from-via-then-held-from w ↦ within_low a.low a.high a.held (omega arith)
      | then-held-from-via-else-held-from+then-from-held w ↦ within_high a.low a.high a.held (omega arith)
    ]

pub returns : goal.returns
returns c = within_holds c.args.low c.args.high c.args.held (omega arith) (omega arith)
