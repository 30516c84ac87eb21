-- `boxes::is_under` meets its contract: the row is the rerouter that it stands for. Assumes nothing.
use mir.Val.{Fits}
use mir.Syntax.{w32}
use mathlib.Core.Path.{sym}
use lib.ListN.{get_or}
use Rattle.board.specs.Rows.{cells_overlap}
use Rattle.routes_hits.proofs.Hitting.{under_row}
use borrow.Author.Rules.{rules}
use Rattle.routes_hits.proofs.boxes.is_under.Goals as goal

pub returns : goal.returns
unfolding cells_overlap
returns c = let a = c.args in
    let h0 : Fits w32 (get_or a.row.now 0 0) = search rules in
    let h1 : Fits w32 (get_or a.row.now 1 0) = search rules in
    rw (c.lifted-4.ensures, c.lifted-3.ensures, c.lifted-2.ensures, c.lifted.ensures, c.lifted-y.ensures, c.lifted-x.ensures)
    (sym (under_row a.q a.row.now h0.fits h1.fits))
