-- `flag_ports` meets its contract: each port handed in sets its flag. Assumes nothing.
use Rattle.std.proofs.Common.{◌≤◌, length}
use Rattle.routes_corners.specs.Ports.{FlaggedBy, among_ports}
use Rattle.routes_corners.proofs.ports.flag_ports.Given as goal

abbrev pub invariant-loop-port : goal.invariant-loop-port
invariant-loop-port l = (l.p ≤ length l.t.wires.now) × FlaggedBy (among_ports l.t.wires.now l.ports l.port-index) l.t.wires.now l.t.classes.now l.flags
