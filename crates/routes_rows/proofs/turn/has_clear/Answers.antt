use Rattle.std.proofs.Common.{◌<◌, sym, ◌∙◌, arith, below_more}
use Rattle.std.proofs.lemmas.Bool.{lt-leb}
use Rattle.routes_rows.specs.Blocked.{count_in}
use Rattle.routes_rows.proofs.turn.has_clear.Goals as goal

pub loop-k-preserved : goal.loop-k-preserved
loop-k-preserved c = λ clear h.
    let l = c.loop-k in
    let low : l.k < count_in c.args.span = omega (arith, c.loop-k-test.true, c.levels_in-k-end.ensures) in
    below_more _ _ (l.invariant clear h) (sym (h l.k low) ∙ lt-leb _ _ c.if-ends-k.false)

pub returns : goal.returns
returns c = λ clear h e k low. c.loop-k.invariant clear h k (omega (arith, low, c.loop-k-test.false, c.levels_in-k-end.ensures))
