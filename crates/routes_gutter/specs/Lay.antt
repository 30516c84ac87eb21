-- What laying the lanes starts from, and what the code says of stops on the way. No rule stands here.
use Rattle.std.specs.Prelude.{ℕ, ◌+◌, ◌*◌, ◌≤◌, ◌≡◌, List, length}
use Rattle.board.specs.Board.{Board}
use Rattle.board.specs.Accepted.{Accepted}
use Rattle.board.specs.Groups.{taps_of}
use Rattle.board.specs.Demands.{PageLanes, planned, plan_lanes}
use Rattle.base.specs.Views.{view}
use Rattle.board.specs.Tables.{NodeFacts, WireFacts, GroupFacts, PageFacts, tap_in}
use Rattle.routes.specs.Stops.{laid_taps}
use Rattle.routes.specs.Levels.{stops_of}
use Rattle.routes.specs.Tables.{stop_in}

-- A planned board of an accepted sheet, as `plan_board` leaves it in tables, and room for its bus.
pub record LanesReady (b : Board) (ps : List PageLanes) (pages nodes wires facts groups taps rerouters bus_wires : List (List ℕ)) : Type 0 where
  pub accepted : Accepted b
  pub pages_are : b.pages ≡ pages
  pub nodes_are : b.nodes ≡ nodes
  pub wires_are : b.wires ≡ wires
  pub nodes_known : NodeFacts b facts
  pub wires_known : WireFacts b facts
  pub count : length taps ≤ length wires
  pub taps_are : view tap_in taps (length taps) ≡ taps_of b
  pub plan : plan_lanes b ≡ planned ps
  pub groups_known : GroupFacts b ps groups
  pub pages_known : PageFacts ps facts
  pub node_room : length nodes ≤ length facts
  pub page_room : length pages ≤ length facts
  pub wire_room : (length wires ≤ length facts) × (length wires ≤ length groups)
  pub bus_room : (5 * length wires ≤ length rerouters) × (6 * length wires ≤ length bus_wires)

-- Room for its taps in the order of laying, for their stops, and for what they ask of rows.
pub record LayingRoom (nodes wires laid stops marks : List (List ℕ)) : Type 0 where
  pub on_laid : length wires ≤ length laid
  pub on_stops : length wires ≤ length stops
  pub on_marks : length nodes + 2 * length wires ≤ length marks

-- The board with its taps in the order of laying and their stops.
pub record LaidReady (b : Board) (ps : List PageLanes) (pages nodes wires facts groups taps laid stops marks rerouters bus_wires : List (List ℕ)) : Type 0 where
  pub ready : LanesReady b ps pages nodes wires facts groups taps rerouters bus_wires
  pub few : length laid ≤ length taps
  pub laid_are : view tap_in laid (length laid) ≡ laid_taps b (taps_of b) ps
  pub fewer : length stops ≤ length laid
  pub stops_are : view stop_in stops (length stops) ≡ stops_of b ps (view tap_in laid (length laid))
  pub on_marks : length nodes + 2 * length wires ≤ length marks
