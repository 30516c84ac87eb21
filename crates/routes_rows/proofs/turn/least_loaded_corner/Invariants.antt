-- `least_loaded_corner` meets its contract: of the levels gone through the best, and its load. Assumes nothing.
use Rattle.std.proofs.Common.{ℕ, Bool}
use Rattle.routes_rows.specs.Blocked.{count_in}
use Rattle.routes_rows.specs.Entries.{TellsClear, TellsLoads}
use Rattle.routes_rows.proofs.Searching.{Best}
use Rattle.routes_rows.proofs.turn.least_loaded_corner.Given as goal

abbrev pub invariant-loop-k : goal.invariant-loop-k
invariant-loop-k l = (clear : ℕ → Bool) (load : ℕ → ℕ) → TellsClear l.span clear l.notes → TellsLoads l.span load l.notes → Best clear load l.span.x0 (count_in l.span) l.k l.best l.least
