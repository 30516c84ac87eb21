-- A finished plan as `answer` finds it in the buffers. No rule stands here.
use Rattle.std.specs.Prelude.{ℕ, ◌+◌, ◌*◌, ◌≤◌, List, length, take}
use Rattle.board.specs.Board.{Board}
use Rattle.board.specs.Demands.{PageLanes}
use Rattle.routes_plan_sheet.specs.Held.{PlanHeld}
use Rattle.routes_calls.specs.declared.route.PlanLaid.{PlanLaid}

-- The finished plan of an accepted sheet's board stands in front of the buffers, as many rows of each kind as are counted, and a line of text has room for each.
pub record PlanThere (b : Board) (ps : List PageLanes) (plan : PlanLaid) (answers rerouters bus_wires ports : List (List ℕ)) (room : ℕ) : Type 0 where
  pub page_rows : plan.counts.pages ≤ length answers
  pub rerouter_rows : plan.laid.bus.rerouters ≤ length rerouters
  pub wire_rows : plan.laid.bus.bus_wires ≤ length bus_wires
  pub port_rows : plan.laid.bus.ports ≤ length ports
  pub text_room : 128 * (plan.counts.pages + plan.laid.bus.rerouters + plan.laid.bus.bus_wires + plan.laid.bus.ports + 1) ≤ room
  pub held :
      PlanHeld b ps (take plan.counts.pages answers) (take plan.laid.bus.rerouters rerouters) (take plan.laid.bus.bus_wires bus_wires) (take plan.laid.bus.ports ports)
      plan.counts.wires plan.laid.groups
