-- `lowest_corner` meets its contract: no level gone through is unused and clear. Assumes nothing.
use Rattle.std.proofs.Common.{◌≡◌, ℕ, ◌-◌, ◌<◌, Bool, false, ◌&&◌, eqb}
use Rattle.routes_rows.specs.Blocked.{level_no}
use Rattle.routes_rows.specs.Entries.{TellsClear, TellsLoads}
use Rattle.routes_rows.proofs.turn.lowest_corner.Given as goal

abbrev pub invariant-loop-k : goal.invariant-loop-k
invariant-loop-k l = (clear : ℕ → Bool) (load : ℕ → ℕ) → TellsClear l.span clear l.notes → TellsLoads l.span load l.notes
    → (j : ℕ) → j < l.k → (eqb (load (level_no l.span j)) 0 && clear (level_no l.span j)) ≡ false

abbrev pub decreases-loop-k : goal.decreases-loop-k
decreases-loop-k l = l.count - l.k
