-- `find_turns` meets its contract: the wires that turn, one after the other. Assumes nothing.
use Rattle.routes_corners.specs.CornerTables.{TurningBelow}
use Rattle.routes_corners.proofs.find.find_turns.Given as goal

abbrev pub invariant-loop-w : goal.invariant-loop-w
invariant-loop-w l = TurningBelow l.t.s.nodes.now l.t.s.wires.now l.t.facts.now l.t.classes.now l.t.muted.now l.list l.n l.w
