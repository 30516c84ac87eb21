-- `boxes::is_run_under` meets its contract: the rows are the rerouters that they stand for. Assumes nothing.
use mir.Val.{Fits}
use mir.Syntax.{w32}
use mathlib.Core.Path.{sym}
use lib.ListN.{get_or}
use Rattle.routes_hits.proofs.Hitting.{run_rows}
use borrow.Author.Rules.{rules}
use Rattle.routes_hits.proofs.boxes.is_run_under.Goals as goal

pub returns : goal.returns
returns c = let a = c.args in
    let h0 : Fits w32 (get_or a.a.now 0 0) = search rules in
    let h1 : Fits w32 (get_or a.a.now 1 0) = search rules in
    let k0 : Fits w32 (get_or a.b.now 0 0) = search rules in
    let k1 : Fits w32 (get_or a.b.now 1 0) = search rules in
    rw (c.meets-along.ensures, c.meets-across.ensures, c.lifted-4.ensures, c.lifted-3.ensures, c.lifted-2.ensures, c.lifted.ensures, c.lifted-by.ensures, c.lifted-bx.ensures, c.lifted-ay.ensures, c.lifted-ax.ensures)
    (sym (run_rows a.q a.a.now a.b.now h0.fits h1.fits k0.fits k1.fits))
