-- `lanes::table::any_before` meets its contract: where it says no, none of those asked ends before the row. Assumes nothing.
use mathlib.Core.Path.{◌≡◌}
use mathlib.Core.Bool.{false}
use Prim.Native.Nat.{ℕ, ◌≤◌, ◌<◌}
use lib.ListN.{get_or}
use Rattle.lanes.proofs.table.any_before.Given as goal

abbrev pub invariant-loop-end : goal.invariant-loop-end
invariant-loop-end l = l.some ≡ false → (j : ℕ) → j < l.end-index → l.first ≤ get_or l.ends j 0
