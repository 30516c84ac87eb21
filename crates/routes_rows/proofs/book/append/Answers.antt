-- `append` meets its contract: a store behind the first n leaves them. Assumes nothing.
use lib.ListN.{length-set}
use Rattle.routes_rows.proofs.Cells.{appended}
use Rattle.routes_rows.proofs.book.append.Goals as goal

pub returns-then-yes : goal.returns-then-yes
returns-then-yes c = (
  length-set c.args.cells.now c.args.n c.args.c,
  rw c.if-yes.true (appended c.args.cells.now c.args.n c.args.c (c.requires c.if-yes.true)),
  λ e. let y = c.if-yes.true in cc,
)
