-- `count_levels` meets its contract: no level is counted more often than the row is long, and at its end the row is counted whole. Assumes nothing.
use Prim.Native.Nat.{◌*◌, ◌+◌}
use native.Mathlib.Omega.{arith}
use mathlib.Core.Path.{◌≡◌, ap, ◌∙◌}
use lib.ListN.{length, get_or}
use Rattle.base.specs.Runs.{having}
use Rattle.base.proofs.RunLaws.{having_most}
use Rattle.routes.specs.Levels.{STAGGER_STEP}
use Rattle.routes_levels.specs.Search.{load_in}
use Rattle.routes_levels.proofs.windows.count_levels.Goals as goal

pub count_level-requires : goal.count_level-requires
count_level-requires c = λ j h. let l = c.loop-level in omega (arith, l.invariant j (omega (arith, h, l.auto.loads)), having_most (λ k. get_or c.args.row.now k 0) (c.args.start + STAGGER_STEP * j) l.level-index, c.requires.0, c.loop-level-test.true)

pub returns : goal.returns
unfolding load_in
returns c = λ j h. let l = c.loop-level in let a = c.args in let z : l.level-index ≡ length a.row.now = omega (arith, l.auto.level-index-end, c.loop-level-test.false) in l.invariant j h ∙ ap (having (λ k. get_or a.row.now k 0) (a.start + STAGGER_STEP * j)) z
