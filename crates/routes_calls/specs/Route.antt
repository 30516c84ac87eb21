-- `route`: the three calls in order, what it answers and what it leaves in the buffers.
use Rattle.std.specs.Prelude.{ℕ, ◌≡◌, Bool, List, Result}
use Rattle.base.specs.declared.refusal.Refusal.{Refusal}
use Rattle.sheet.specs.Table.{library_most}
use Rattle.board.specs.Board.{Board}
use Rattle.board_plan.specs.TextPlan.{shortest}
use Rattle.routes.specs.Route.{Routed, fits_plan, routed}
use Rattle.routes_gutter.specs.declared.laying.BusLaid.{BusLaid}
use Rattle.routes_gutter.specs.Calls.{bus_answer, rerouters_after, bus_wires_after, ports_after, answers_after}

-- S15, S16: whether what is lent fits a board: the lengths of the four buffers, and of the slices of work space, of which the shortest counts.
abbrev pub plan_fits : ℕ → ℕ → ℕ → ℕ → List ℕ → Board → Bool
plan_fits rerouters bus_wires ports answers work = fits_plan rerouters bus_wires ports answers (shortest work)

unfoldable pub route_call : List ℕ → (Board → Bool) → Routed
route_call text fits = routed library_most fits text

-- A call that leaves the finished plan in the buffers, or on a refusal all of them as they were.
pub record PlanCalled (call : Routed) (old old_wires oldPorts oldAnswers rerouters bus_wires ports answers : List (List ℕ)) (r : Result BusLaid Refusal) : Type 0 where
  pub answer : r ≡ bus_answer call
  pub rerouters_are : rerouters ≡ rerouters_after call old
  pub wires_are : bus_wires ≡ bus_wires_after call old_wires
  pub ports_are : ports ≡ ports_after call oldPorts
  pub answers_are : answers ≡ answers_after call oldAnswers
