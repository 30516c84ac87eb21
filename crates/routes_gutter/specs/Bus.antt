-- A planned board in the tables, and its lanes' bus in the buffers. No rule stands here.
use Rattle.std.specs.Prelude.{ℕ, ◌*◌, ◌≤◌, ◌≡◌, List, length}
use Rattle.board.specs.Board.{Board}
use Rattle.board.specs.Demands.{PageLanes}
use Rattle.board_plan.specs.declared.Lent.{Lent}
use Rattle.routes.specs.Bus.{Bus}
use Rattle.routes.specs.Buffers.{rerouter_row, wire_row}
use Rattle.routes.specs.Tables.{written_over}
use Rattle.routes.specs.declared.bus.BusCounts.{BusCounts}
use Rattle.routes_ports.specs.Settling.{ports_over}
use Rattle.routes_gutter.specs.Lay.{LanesReady, LayingRoom}

-- The marks and the buffers are as long as is said of them.
pub record BusLent (lent : Lent) (marks rerouters bus_wires ports : List (List ℕ)) : Type 0 where
  pub marks_lent : 5 * lent.work ≤ length marks
  pub rerouters_lent : lent.rerouters ≤ length rerouters
  pub wires_lent : lent.bus_wires ≤ length bus_wires
  pub ports_lent : lent.ports ≤ length ports

-- A planned board in tables, with room for its lanes.
pub record RowsReady (b : Board) (ps : List PageLanes) (pages nodes wires facts taps groups laid stops marks rerouters bus_wires : List (List ℕ)) : Type 0 where
  pub ready : LanesReady b ps pages nodes wires facts groups taps rerouters bus_wires
  pub room : LayingRoom nodes wires laid stops marks

-- The rows of a bus stand in the buffers, and so many they are.
pub record BusStands (bus : Bus) (old old_wires oldPorts rerouters bus_wires ports : List (List ℕ)) (held : BusCounts) : Type 0 where
  pub rerouters_are : rerouters ≡ written_over rerouter_row bus.rerouters old
  pub wires_are : bus_wires ≡ written_over wire_row bus.wires old_wires
  pub ports_are : ports ≡ ports_over bus.ports oldPorts
  pub rerouter_count : held.rerouters ≡ length bus.rerouters
  pub wires : held.bus_wires ≡ length bus.wires
  pub suppressed : held.ports ≡ length bus.ports
