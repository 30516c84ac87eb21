-- The loop over the levels of a row: each of the window is counted as often as it was met.
use Prim.Native.Nat.{ℕ, ◌*◌, ◌+◌, ◌<◌}
use mathlib.Core.Path.{◌≡◌}
use lib.ListN.{length, get_or}
use Rattle.base.specs.Runs.{having}
use Rattle.routes.specs.Levels.{STAGGER_STEP}
use Rattle.routes_levels.proofs.windows.count_levels.Given as goal

abbrev pub invariant-loop-level : goal.invariant-loop-level
invariant-loop-level l = (j : ℕ) → j < length l.initial.loads → get_or l.loads j 0 ≡ having (λ k. get_or l.row k 0) (l.start + STAGGER_STEP * j) l.level-index
