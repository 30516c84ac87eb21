-- How the buffers hold a finished plan. No rule stands here.
use Rattle.std.specs.Prelude.{◌≡◌, ℕ, ◌-◌, Bool, List, map, reverse, length, slice_index}
use Rattle.board.specs.Board.{Board, given}
use Rattle.board.specs.Accepted.{Accepted}
use Rattle.board.specs.Demands.{PageLanes, planned, plan_lanes}
use Rattle.board.specs.Planning.{page_row}
use Rattle.routes.specs.Buffers.{rerouter_row, wire_row, port_row}
use Rattle.routes.specs.Plan.{finished, laid_groups}
use Rattle.routes_plan_sheet.specs.declared.plan_sheet.Totals.{Totals}

-- A bus wire's row that names a wire: a delivery.
abbrev pub names_wire : List ℕ → Bool
names_wire row = given (slice_index row 4)

-- The totals of n rerouters and k bus wires, so many of them deliveries, on a board of so many wires.
abbrev pub totals_of : ℕ → ℕ → ℕ → ℕ → ℕ → Totals
totals_of n k deliveries wires groups = record { rerouters = n; bus_wires = k; deliveries = deliveries; direct = wires - deliveries; laid = groups }

-- The finished plan of an accepted sheet's board, a row each: the pages' answers, the rerouters and the bus wires from the oldest to the newest, the suppressed ports.
pub record PlanHeld (b : Board) (ps : List PageLanes) (answers rerouters bus_wires ports : List (List ℕ)) (wires groups : ℕ) : Type 0 where
  pub accepted : Accepted b
  pub lanes : plan_lanes b ≡ planned ps
  pub page_rows : answers ≡ map page_row ps
  pub rerouter_rows : rerouters ≡ map rerouter_row (reverse (finished b ps).rerouters)
  pub wire_rows : bus_wires ≡ map wire_row (reverse (finished b ps).wires)
  pub port_rows : ports ≡ map port_row (finished b ps).ports
  pub wire_count : wires ≡ length b.wires
  pub group_count : groups ≡ laid_groups b ps
