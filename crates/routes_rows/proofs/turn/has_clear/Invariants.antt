-- `has_clear` meets its contract: no level gone through is clear. Assumes nothing.
use Rattle.std.proofs.Common.{◌≡◌, ℕ, ◌<◌, Bool, false}
use Rattle.routes_rows.specs.Blocked.{level_no}
use Rattle.routes_rows.specs.Entries.{TellsClear}
use Rattle.routes_rows.proofs.turn.has_clear.Given as goal

abbrev pub invariant-loop-k : goal.invariant-loop-k
invariant-loop-k l = (clear : ℕ → Bool) → TellsClear l.span clear l.ends → (j : ℕ) → j < l.k → clear (level_no l.span j) ≡ false
