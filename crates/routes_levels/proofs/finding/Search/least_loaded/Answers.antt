use native.Mathlib.Omega.{arith}
use mathlib.Core.Path.{refl, ◌∙◌}
use Rattle.routes_levels.proofs.Searches.{best_start, best_all}
use Rattle.routes_levels.proofs.finding.Search.least_loaded.Goals as goal

pub loop-k-init : goal.loop-k-init
loop-k-init c = (omega arith, best_start _ _ _ _ _ refl)

pub returns : goal.returns
returns c = c.level_of.ensures ∙ best_all _ _ _ _ _ _ _ c.loop-k.invariant.1 c.loop-k-test.false
