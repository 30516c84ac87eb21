-- `lanes::pack::put_lanes` meets its contract: a lane is put with each turn. Assumes nothing.
use mathlib.Core.Path.{◌≡◌}
use lib.ListN.{take}
use Rattle.lanes.specs.Keys.{spread}
use Rattle.lanes.proofs.pack.put_lanes.Given as goal

abbrev pub invariant-loop-key : goal.invariant-loop-key
invariant-loop-key g l = (none : _) → l.places ≡ spread g.P.Place.with_lane none (take l.key-index l.keys) l.initial.places
