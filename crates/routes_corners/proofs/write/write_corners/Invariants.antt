-- `write_corners` meets its contract: the corners of the wires listed: what is written holds the bus with the corners of the wires passed, and there is room for the rest. Assumes nothing.
use Rattle.std.proofs.Common.{length}
use Rattle.routes_corners.proofs.Writing.{Writing}
use Rattle.routes_corners.proofs.write.write_corners.Given as goal

abbrev pub invariant-loop-q : goal.invariant-loop-q
invariant-loop-q l = Writing l.t.s.pages.now l.t.s.nodes.now l.t.s.wires.now l.t.facts.now l.t.list.now l.answers (length l.t.list.now) l.initial.rerouters l.initial.bus_wires l.initial.done l.q l.rerouters l.bus_wires l.done
