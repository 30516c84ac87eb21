-- What a user may rely on, said of the rows that the buffers hold: of the first n rerouter rows, k bus wire rows and u port rows, with n, k and u the counts answered.
use Rattle.std.specs.Prelude.{ℕ, ◌≤◌, ◌≡◌, List, [], length}
use Rattle.sheet.specs.Table.{library_most}
use Rattle.board.specs.Board.{Board}
use Rattle.board.specs.Refusals.{board, judged}
use Rattle.routes.specs.Buffers.{bus_held}
use Rattle.routes.specs.Demand3.{Demand3, Deepening}
use Rattle.routes_ports.specs.Ports.{ports_with}

pub record Promised (b : Board) (rerouters : List (List ℕ)) (n : ℕ) (bus_wires : List (List ℕ)) (k : ℕ) (ports : List (List ℕ)) (u : ℕ) : Type 0 where
  -- The rows are there.
  pub rerouters_there : n ≤ length rerouters
  pub bus_wires_there : k ≤ length bus_wires
  pub ports_there : u ≤ length ports
  -- They are a bus, and of that bus demand 3 holds.
  pub demand3 : Demand3 b (bus_held rerouters n bus_wires k ports u)
  -- Depths rise by one from feeder to fed.
  pub deepens : Deepening (bus_held rerouters n bus_wires k ports u)
  -- Its suppressed ports are the targets of its deliveries, ascending and each once.
  pub suppressed : (bus_held rerouters n bus_wires k ports u).ports ≡ ports_with [] (bus_held rerouters n bus_wires k ports u).wires

-- Where `route` answers counts: the text is that of a board which no refusal of the sheet turns away, and this holds of that board and the rows.
pub record RoutePromised (text : List ℕ) (rerouters : List (List ℕ)) (n : ℕ) (bus_wires : List (List ℕ)) (k : ℕ) (ports : List (List ℕ)) (u : ℕ) : Type 0 where
  pub drawn : Board
  pub accepted : judged library_most text ≡ board drawn
  pub rows : Promised drawn rerouters n bus_wires k ports u
