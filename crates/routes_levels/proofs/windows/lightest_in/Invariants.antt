-- The lightest level along a window, from the highest down. The invariant: the best of the levels from the j-th of the window on.
use Prim.Native.Nat.{ℕ, ◌*◌, ◌+◌, ◌<◌, ◌≤◌}
use mathlib.Core.Path.{◌≡◌}
use mathlib.Core.List.{List}
use lib.ListN.{length}
use Rattle.routes.specs.Levels.{STAGGER_STEP}
use Rattle.sheet.specs.Table.{MISSING}
use Rattle.routes_levels.specs.Search.{load_in, open_in, Weighed, level_of, load_of, Best}
use Rattle.routes_levels.proofs.windows.lightest_in.Given as goal

abbrev pub invariant-loop-j : goal.invariant-loop-j
invariant-loop-j l = (row lane : List ℕ) (base count k : ℕ) → length row < MISSING → Weighed row lane l.start l.loads → l.start ≡ base + STAGGER_STEP * k → k + length l.loads ≤ count → Best (open_in lane) (load_in row) base count (k + length l.loads) (level_of l.initial.lightest) (load_of l.initial.lightest) → Best (open_in lane) (load_in row) base count (k + l.j) (level_of l.lightest) (load_of l.lightest)
