-- `any_overlaps` meets its contract: a turn knows whether one of the cells looked at overlaps. Assumes nothing.
use Rattle.std.proofs.Common.{◌≡◌}
use Rattle.routes_rows.specs.Booking.{cell_of, any_overlaps, first_cells}
use Rattle.routes_rows.proofs.book.any_overlaps.Given as goal

abbrev pub invariant-loop-cell : goal.invariant-loop-cell
invariant-loop-cell l = l.hit ≡ any_overlaps (first_cells l.cells l.cell-index) (cell_of l.c)
