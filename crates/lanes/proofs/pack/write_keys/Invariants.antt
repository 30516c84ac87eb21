-- `lanes::pack::write_keys` meets its contract: the keys' front is that of the definition's, one more with each turn. Assumes nothing.
use mathlib.Core.Path.{◌≡◌}
use mathlib.Core.List.{map}
use lib.ListN.{take}
use Rattle.lanes.specs.Lanes.{entries}
use Rattle.lanes.specs.Keys.{key_of, demand_of}
use Rattle.lanes.proofs.pack.write_keys.Given as goal

abbrev pub invariant-loop-i : goal.invariant-loop-i
invariant-loop-i g l = take l.i l.keys ≡ take l.i (map key_of (entries 0 (map demand_of l.demands)))
