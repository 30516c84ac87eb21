-- Window after window. The invariant: from the levels done on the search finds what it finds from base on.
use Prim.Native.Nat.{◌*◌, ◌+◌, ◌-◌, ◌≤◌}
use mathlib.Core.Path.{◌≡◌}
use Rattle.routes.specs.Levels.{STAGGER_STEP, lowest}
use Rattle.routes_levels.specs.Search.{free_in}
use Rattle.routes_levels.proofs.finding.Search.lowest_free.Given as goal

abbrev pub invariant-loop-done : goal.invariant-loop-done
invariant-loop-done l = let s = l.self in (l.done ≤ s.count) × (lowest (free_in s.row.now s.lane.now) s.base s.count ≡ lowest (free_in s.row.now s.lane.now) (s.base + STAGGER_STEP * l.done) (s.count - l.done))

abbrev pub decreases-loop-done : goal.decreases-loop-done
decreases-loop-done l = l.self.count - l.done
