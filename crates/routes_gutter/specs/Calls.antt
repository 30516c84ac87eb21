-- `lay_bus`, `lay_mini_bus`, and the three in order (`route`): what they answer and what they leave in the buffers.
use Rattle.std.specs.Prelude.{ℕ, ◌≡◌, Bool, List, ◌++◌, map, length, drop, Result, Ok, Err}
use Rattle.base.specs.declared.refusal.Refusal.{Refusal}
use Rattle.sheet.specs.Table.{library_most}
use Rattle.board.specs.Board.{Board}
use Rattle.board.specs.Planning.{page_row}
use Rattle.board_plan.specs.TextPlan.{shortest}
use Rattle.routes.specs.Buffers.{rerouter_row, wire_row}
use Rattle.routes.specs.Tables.{written_over}
use Rattle.routes.specs.Route.{Routed, turned_away, plan, fits_bus, laid}
use Rattle.routes_ports.specs.Settling.{ports_over}
use Rattle.routes.specs.Bus.{Bus}
use Rattle.routes_gutter.specs.declared.laying.BusLaid.{BusLaid}

-- How many rerouters, bus wires and suppressed ports a bus has, and how many groups were laid.
abbrev pub bus_laid : Bus → ℕ → BusLaid
bus_laid bus laid = record { bus = record { rerouters = length bus.rerouters; bus_wires = length bus.wires; ports = length bus.ports }; groups = laid }

-- The answer: a refusal with its place, or these counts.
abbrev pub bus_answer : Routed → Result BusLaid Refusal
bus_answer (turned_away e) = Err e
bus_answer (plan b ps bus laid) = Ok (bus_laid bus laid)

-- E11, P8: the buffers: on a refusal as they were, else the plan's rows, then the old rest.
abbrev pub rerouters_after : Routed → List (List ℕ) → List (List ℕ)
rerouters_after (turned_away e) old = old
rerouters_after (plan b ps bus laid) old = written_over rerouter_row bus.rerouters old

abbrev pub bus_wires_after : Routed → List (List ℕ) → List (List ℕ)
bus_wires_after (turned_away e) old = old
bus_wires_after (plan b ps bus laid) old = written_over wire_row bus.wires old

abbrev pub ports_after : Routed → List (List ℕ) → List (List ℕ)
ports_after (turned_away e) old = old
ports_after (plan b ps bus laid) old = ports_over bus.ports old

abbrev pub answers_after : Routed → List (List ℕ) → List (List ℕ)
answers_after (turned_away e) old = old
answers_after (plan b ps bus laid) old = map page_row ps ++ drop (length ps) old

-- A call that leaves a plan's bus in the buffers.
pub record BusCalled (call : Routed) (old old_wires oldPorts rerouters bus_wires ports : List (List ℕ)) (r : Result BusLaid Refusal) : Type 0 where
  pub answer : r ≡ bus_answer call
  pub rerouters_are : rerouters ≡ rerouters_after call old
  pub wires_are : bus_wires ≡ bus_wires_after call old_wires
  pub ports_are : ports ≡ ports_after call oldPorts

-- S15, S16: whether what is lent fits a board: the lengths of the three buffers, and the records for which each slice of work space has room, of which the least
-- counts.
abbrev pub bus_fits : ℕ → ℕ → ℕ → List ℕ → Board → Bool
bus_fits rerouters bus_wires ports work = fits_bus rerouters bus_wires ports (shortest work)

-- `lay_bus`.
unfoldable pub lay_call : List ℕ → (Board → Bool) → Routed
lay_call text fits = laid library_most fits text
