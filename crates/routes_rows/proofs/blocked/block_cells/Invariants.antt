-- `block_cells` meets its contract: a turn from a count k of cells that are left knows that what is blocked so far, with what the first k block, is what all block. Assumes nothing.
use Rattle.std.proofs.Common.{◌≤◌, length}
use Rattle.routes_rows.proofs.Blocking.{Blocking}
use Rattle.routes_rows.proofs.blocked.block_cells.Given as goal

abbrev pub invariant-loop-k : goal.invariant-loop-k
invariant-loop-k l = (l.k ≤ length l.cells) × Blocking l.span l.cells (length l.cells) l.initial.ends l.k l.ends

abbrev pub decreases-loop-k : goal.decreases-loop-k
decreases-loop-k l = l.k
