-- `put_stops` meets its contract: after i stops the runs hold their levels. Assumes nothing.
use Rattle.base.specs.Growing.{Filled}
use Rattle.routes_columns.specs.Columns.{stop_key, level_at, keys_of, SamePlaces}
use Rattle.routes_columns.proofs.claims.ClaimRuns.put_stops.Given as goal

abbrev pub invariant-loop-stop : goal.invariant-loop-stop
invariant-loop-stop l = SamePlaces l.initial.self l.self × Filled (stop_key l.pages l.stops) (level_at l.stops) l.stop-index (keys_of l.pages) l.initial.self.nexts l.self.nexts l.self.xs
