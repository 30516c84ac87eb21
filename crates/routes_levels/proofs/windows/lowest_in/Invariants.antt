-- The lowest free level along a window. The invariant: from the j-th level on the search finds what it finds from the first on.
use Prim.Native.Nat.{ℕ, ◌*◌, ◌+◌, ◌-◌}
use mathlib.Core.Path.{◌≡◌}
use mathlib.Core.List.{List}
use lib.ListN.{length}
use Rattle.routes.specs.Levels.{STAGGER_STEP, lowest}
use Rattle.routes_levels.specs.Search.{free_in, Weighed}
use Rattle.routes_levels.proofs.windows.lowest_in.Given as goal

abbrev pub invariant-loop-j : goal.invariant-loop-j
invariant-loop-j l = (row lane : List ℕ) → Weighed row lane l.start l.loads → lowest (free_in row lane) l.start (length l.loads) ≡ lowest (free_in row lane) (l.start + STAGGER_STEP * l.j) (length l.loads - l.j)

abbrev pub decreases-loop-j : goal.decreases-loop-j
decreases-loop-j l = length l.loads - l.j
