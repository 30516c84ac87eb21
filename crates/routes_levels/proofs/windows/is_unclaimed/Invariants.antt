-- The loop over the claims of a lane: whether one of them is near.
use mathlib.Core.Path.{◌≡◌}
use Rattle.routes_levels.specs.Search.{near_one}
use Rattle.routes_levels.proofs.windows.is_unclaimed.Given as goal

abbrev pub invariant-loop-claim : goal.invariant-loop-claim
invariant-loop-claim l = l.hit ≡ near_one l.lane l.level l.claim-index
