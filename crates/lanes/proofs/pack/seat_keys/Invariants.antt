-- `lanes::pack::seat_keys` meets its contract: after each turn the definition goes on from the table and the lanes so far. Assumes nothing.
use mathlib.Core.Path.{◌≡◌}
use mathlib.Core.List.{map}
use Prim.Native.Nat.{◌≤◌}
use lib.ListN.{length}
use Rattle.lanes.specs.Keys.{entry_of}
use Rattle.lanes.specs.Lanes.{lane_most}
use Rattle.lanes.specs.Table.{open_ends}
use Rattle.lanes.proofs.PackLaws.{Rest}
use Rattle.lanes.proofs.pack.seat_keys.Given as goal

abbrev pub invariant-loop-key : goal.invariant-loop-key
invariant-loop-key l = (l.table.count ≤ lane_most) × (map entry_of l.keys ≡ map entry_of l.initial.keys) × Rest l.initial.keys l.keys (open_ends l.table) l.key-index × (length l.table.ends ≡ lane_most)
