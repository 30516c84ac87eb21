-- `copy_along` meets its contract: the front copied grows by one with each turn. Assumes nothing.
use mathlib.Core.Path.{◌≡◌}
use mathlib.Core.List.{map}
use lib.ListN.{take}
use Rattle.routes_levels.specs.Laying.{row_at}
use Rattle.routes_levels.proofs.stops.copy_along.Given as goal

abbrev pub invariant-loop-i : goal.invariant-loop-i
invariant-loop-i l = take l.i l.to ≡ map (row_at l.from) (take l.i l.keys)
