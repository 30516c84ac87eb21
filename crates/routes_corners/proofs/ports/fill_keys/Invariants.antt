-- `fill_keys` meets its contract: the wires passed have their keys. Assumes nothing.
use Rattle.std.proofs.Common.{◌≡◌, ℕ, ◌+◌, ◌*◌, ◌<◌, get_or}
use Rattle.routes_corners.specs.Ports.{wire_key}
use Rattle.routes_corners.proofs.ports.fill_keys.Given as goal

abbrev pub invariant-loop-w : goal.invariant-loop-w
invariant-loop-w l = (v : ℕ) → v < l.w → get_or l.keys v 0 ≡ wire_key l.wires v * 8192 + v
