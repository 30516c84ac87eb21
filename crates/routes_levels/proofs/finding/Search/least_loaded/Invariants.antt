-- Window after window, from the highest down. The invariant: the best of the levels from the k-th on.
use Prim.Native.Nat.{◌≤◌}
use Rattle.routes_levels.specs.Search.{load_in, open_in, level_of, load_of, Best}
use Rattle.routes_levels.proofs.finding.Search.least_loaded.Given as goal

abbrev pub invariant-loop-k : goal.invariant-loop-k
invariant-loop-k l = let s = l.self in (l.k ≤ s.count) × Best (open_in s.lane.now) (load_in s.row.now) s.base s.count l.k (level_of l.best) (load_of l.best)

abbrev pub decreases-loop-k : goal.decreases-loop-k
decreases-loop-k l = l.k
