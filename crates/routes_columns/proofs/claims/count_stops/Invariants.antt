-- `count_stops` meets its contract: after i stops each run is counted as often as they have it. Assumes nothing.
use Prim.Native.Nat.{ℕ}
use mathlib.Core.Path.{◌≡◌}
use lib.ListN.{get_or}
use Rattle.base.specs.Runs.{having}
use Rattle.routes_columns.specs.Columns.{stop_key}
use Rattle.routes_columns.proofs.claims.count_stops.Given as goal

abbrev pub invariant-loop-stop : goal.invariant-loop-stop
invariant-loop-stop l = (j : ℕ) → get_or l.counts j 0 ≡ having (stop_key l.pages l.stops) j l.stop-index
