use native.Mathlib.Omega.{arith}
use mathlib.Core.Path.{refl}
use Rattle.board_plan.proofs.PageRows.{pages_more, pages_done}
use Rattle.board_plan.proofs.write_pages.Goals as goal

pub loop-p-init : goal.loop-p-init
loop-p-init c = λ ps size facts. refl

pub band-requires : goal.band-requires
band-requires c = c.requires.by_index c.loop-p.p c.loop-p-test.true

pub loop-p-preserved : goal.loop-p-preserved
loop-p-preserved c =
    pages_more c.args.facts.now c.args.answers.now c.loop-p.p c.loop-p.answers c.band.result c.loop-p-test.true c.band.ensures c.loop-p.invariant

pub returns : goal.returns
returns c = λ ps size known.
    pages_done c.args.facts.now c.args.answers.now c.loop-p.p c.loop-p.answers (omega arith) c.loop-p.invariant ps size known
