-- `lowest_in` meets its contract: a weight of 0 is a free level, any other is none. Assumes nothing.
use native.Mathlib.Omega.{arith}
use mathlib.Core.Path.{sym, ap, ◌∙◌}
use lib.ListN.{length}
use borrow.Author.Tests.{eq-eqb, ne_eqb}
use Rattle.board.specs.Index.{found_of}
use Rattle.routes_levels.specs.Search.{free_in}
use Rattle.routes_levels.proofs.WindowLaws.{weight_free, along_here, along_next}
use Rattle.routes_levels.proofs.windows.lowest_in.Goals as goal

pub loop-j-preserved : goal.loop-j-preserved
loop-j-preserved c = let l = c.loop-j in
    let a = c.args in
    λ row lane w. l.invariant row lane w ∙ along_next (free_in row lane) a.start (length a.loads.now) l.j (omega arith) (sym (weight_free row lane _ _ (w.weights l.j (omega arith))) ∙ ne_eqb _ _ c.if-loads-j-eq0.false)

pub returns-then-loads-j-eq0 : goal.returns-then-loads-j-eq0
returns-then-loads-j-eq0 c = let l = c.loop-j in
    let a = c.args in
    λ row lane w. sym (ap found_of (l.invariant row lane w ∙ along_here (free_in row lane) a.start (length a.loads.now) l.j (omega arith) (sym (weight_free row lane _ _ (w.weights l.j (omega arith))) ∙ eq-eqb _ _ c.if-loads-j-eq0.true)))
