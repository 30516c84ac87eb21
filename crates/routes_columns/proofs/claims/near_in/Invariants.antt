-- `near_in` meets its contract: after each turn it is told whether one of the claims looked at is near. Assumes nothing.
use mathlib.Core.Path.{◌≡◌}
use Rattle.base.specs.Lists.{any}
use Rattle.base.specs.Growing.{stretch}
use Rattle.routes.specs.Stops.{near}
use Rattle.routes_columns.proofs.claims.near_in.Given as goal

abbrev pub invariant-loop-claim : goal.invariant-loop-claim
invariant-loop-claim l = l.hit ≡ any (near l.x) (stretch l.claims 0 l.claim-index)
