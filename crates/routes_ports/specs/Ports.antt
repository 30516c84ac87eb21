-- The suppressed ports of bus wires: those that deliveries go to (R11, R14).
use Rattle.std.specs.Prelude.{◌≡◌, List, [], ◌∷◌, ◌++◌}
use Rattle.board.specs.Board.{Board}
use Rattle.board.specs.Demands.{PageLanes}
use Rattle.routes.specs.Plan.{bus_of, finished}
use Rattle.routes.specs.Bus.{Bus, BusWire, End, port, rerouter, Carries, onward, delivery, Port, insert_port}

-- The port that a delivery goes to, in front of others.
abbrev pub sent_to : Carries → End → List Port → List Port
sent_to onward e l = l
sent_to (delivery k d) (port n p) l = record { node = n; port = p } ∷ l
sent_to (delivery k d) (rerouter n) l = l

-- The ports that deliveries go to, in the order of the bus wires.
abbrev pub targets : List BusWire → List Port
targets [] = []
targets (w ∷ ws) = sent_to w.carries w.target (targets ws)

-- P5, R14: suppressed ports and more of them, in any order and repeated or not, as a set by node and port.
abbrev pub suppress : List Port → List Port → List Port
suppress old [] = old
suppress old (p ∷ l) = insert_port p (suppress old l)

-- The ascending set of ports.
abbrev pub ports_set : List Port → List Port
ports_set l = suppress [] l

-- The suppressed ports after deliveries, the newest first.
abbrev pub ports_with : List Port → List BusWire → List Port
ports_with old ws = suppress old (targets ws)

-- A later bus: the bus wires that it added to an earlier one, with their ports.
pub record Ported (bus later : Bus) : Type 0 where
  pub new : List BusWire
  pub wires : later.wires ≡ new ++ bus.wires
  pub ports : later.ports ≡ ports_with bus.ports new

-- The suppressed ports of a plan are those of its own deliveries, before the corner pass and after it.
pub record OwnPorts (b : Board) (ps : List PageLanes) : Type 0 where
  pub laid : (bus_of b ps).ports ≡ ports_with [] (bus_of b ps).wires
  pub turned : (finished b ps).ports ≡ ports_with [] (finished b ps).wires
