-- The targets of deliveries, newest first: the keys written so far, then those of the bus wires still left, are those of all.
use Rattle.routes_ports.proofs.Filling.{SentLeft}
use Rattle.routes_ports.proofs.settle.gather_targets.Given as goal

abbrev pub invariant-loop-wire : goal.invariant-loop-wire
invariant-loop-wire l = SentLeft l.bus_wires l.initial.keys l.keys l.n l.wire-iterator.iter.rest.now
