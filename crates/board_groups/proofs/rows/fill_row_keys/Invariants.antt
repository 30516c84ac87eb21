-- `fill_row_keys` meets its contract: the keys of the nodes behind are written. Assumes nothing.
use Prim.Native.Nat.{ℕ, ◌<◌}
use mathlib.Core.Path.{◌≡◌}
use mathlib.Core.List.{[]}
use lib.ListN.{get_or}
use Rattle.board.specs.Tables.{nodes_alone}
use Rattle.board_groups.specs.Collecting.{row_key}
use Rattle.board_groups.proofs.rows.fill_row_keys.Given as goal

abbrev pub invariant-loop-i : goal.invariant-loop-i
invariant-loop-i l = ((k : ℕ) → k < l.i → get_or l.keys k [] ≡ row_key (nodes_alone l.nodes) k)
