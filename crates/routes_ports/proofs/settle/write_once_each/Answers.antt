-- `write_once_each` meets its contract: at the keys' end all ports are written. Assumes nothing.
use mathlib.Core.List.{map}
use Rattle.routes_ports.specs.Settling.{key_port, unique}
use Rattle.routes_ports.proofs.Filling.{filled_ports, once_done}
use Rattle.routes_ports.proofs.settle.write_once_each.Goals as goal

pub returns-clause-ports_after : goal.returns-clause-ports_after
returns-clause-ports_after c = (filled_ports (unique (map key_port c.args.keys.now)) c.loop-i.invariant (once_done c.args.keys.now c.loop-i.i c.loop-i-test.false)).1
