-- `is_clear` meets its contract: of the cells that are not left none overlaps. Assumes nothing.
use Rattle.std.proofs.Common.{◌≡◌, ◌≤◌, length}
use Rattle.routes_rows.specs.Booking.{cell_of, clear_of, first_cells}
use Rattle.routes_rows.proofs.book.is_clear.Given as goal

abbrev pub invariant-loop-k : goal.invariant-loop-k
invariant-loop-k l = (l.k ≤ length l.cells) × (clear_of (first_cells l.cells (length l.cells)) (cell_of l.c) ≡ clear_of (first_cells l.cells l.k) (cell_of l.c))

abbrev pub decreases-loop-k : goal.decreases-loop-k
decreases-loop-k l = l.k
