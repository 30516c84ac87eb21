-- `book_rows` meets its contract: a turn knows the cells booked on the row at hand, and the flags so far. Assumes nothing.
use Rattle.routes_rows.proofs.Turns.{Booked}
use Rattle.routes_rows.proofs.book.book_rows.Given as goal

abbrev pub invariant-loop-p : goal.invariant-loop-p
invariant-loop-p l = Booked l.items l.bricks l.initial.flags l.p l.n l.cells l.flags
