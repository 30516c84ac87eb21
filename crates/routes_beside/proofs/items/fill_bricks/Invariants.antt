-- `fill_bricks` meets its contract: the items gone through are bricks. Assumes nothing.
use Rattle.std.proofs.Common.{ℕ, ◌<◌}
use Rattle.routes_beside.specs.Beside.{BrickItem}
use Rattle.routes_beside.proofs.items.fill_bricks.Given as goal

abbrev pub invariant-loop-i : goal.invariant-loop-i
invariant-loop-i l = (j : ℕ) → j < l.i → BrickItem l.nodes l.facts l.items j
