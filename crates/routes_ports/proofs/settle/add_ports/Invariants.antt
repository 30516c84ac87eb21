-- The keys of the ports, one by one.
use mathlib.Core.Path.{◌≡◌}
use mathlib.Core.List.{map}
use lib.ListN.{take}
use Rattle.routes.specs.Buffers.{port_in}
use Rattle.routes_ports.specs.Settling.{key_port}
use Rattle.routes_ports.proofs.settle.add_ports.Given as goal

abbrev pub invariant-loop-i : goal.invariant-loop-i
invariant-loop-i l = map key_port (take l.i l.keys) ≡ map port_in (take l.i l.ports)
