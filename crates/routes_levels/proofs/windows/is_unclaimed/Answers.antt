-- `is_unclaimed` meets its contract: at the lane's end all its claims were asked. Assumes nothing.
use native.Mathlib.Omega.{arith}
use mathlib.Core.Path.{◌≡◌, ap, ◌∙◌}
use mathlib.Core.Bool.{not}
use lib.ListN.{length}
use Rattle.routes_levels.specs.Search.{near_one, open_in}
use Rattle.routes_levels.proofs.windows.is_unclaimed.Goals as goal

pub returns : goal.returns
unfolding open_in
returns c = let l = c.loop-claim in
    let a = c.args in
    let z : l.claim-index ≡ length a.lane.now = omega (arith, l.auto.claim-index-end, c.loop-claim-test.false) in
    ap not (l.invariant ∙ ap (near_one a.lane.now a.level) z)
