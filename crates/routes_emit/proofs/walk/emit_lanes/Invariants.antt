-- `emit_lanes` meets its contract: after k taps the buffers hold their emission. Assumes nothing.
use lib.ListN.{length}
use Rattle.routes_taps.specs.Asking.{told_in}
use Rattle.routes_emit.proofs.Next.{Come}
use Rattle.routes_emit.proofs.walk.emit_lanes.Given as goal

abbrev pub invariant-loop-k : goal.invariant-loop-k
invariant-loop-k l = Come l.s.pages.now l.s.nodes.now l.s.wires.now l.laid.facts.now l.laid.groups.now l.laid.taps.now (length l.laid.taps.now) l.stops (told_in l.asked l.flags (length l.s.nodes.now)) l.initial.rerouters l.initial.bus_wires l.rerouters l.bus_wires l.w l.k
