-- `know_rows` meets its contract: row after row is known. Assumes nothing.
use Rattle.routes.specs.Buffers.{Rows}
use Rattle.routes_corners.proofs.turn.know_rows.Given as goal

abbrev pub invariant-loop-row : goal.invariant-loop-row
invariant-loop-row g l = Rows g.row.N l.rows l.row-index
