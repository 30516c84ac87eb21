-- `class_along` meets its contract: the wires passed have their classes. Assumes nothing.
use Rattle.routes_corners.proofs.PortLaws.{Walked}
use Rattle.routes_corners.proofs.ports.class_along.Given as goal

abbrev pub invariant-loop-p : goal.invariant-loop-p
invariant-loop-p l = Walked l.wires l.keys l.initial.classes l.classes l.class l.p
