-- From the bus that `lay_bus` leaves to the finished plan. No rule stands here.
use Rattle.std.specs.Prelude.{ℕ, ◌+◌, ◌*◌, ◌≤◌, ◌≡◌, List, ◌++◌, map, length, drop, Result, Ok, Err}
use Rattle.base.specs.declared.refusal.Refusal.{Refusal}
use Rattle.board.specs.Board.{Board}
use Rattle.board.specs.Accepted.{Accepted}
use Rattle.board.specs.Demands.{PageLanes, planned, plan_lanes}
use Rattle.board.specs.Planning.{Planning, refused, lanes_for, page_row}
use Rattle.board.specs.Walk.{counts_in}
use Rattle.routes.specs.Plan.{bus_of, finished, laid_groups}
use Rattle.routes.specs.declared.bus.BusCounts.{BusCounts}
use Rattle.routes_gutter.specs.Bus.{RowsReady, BusStands}
use Rattle.routes_corners.specs.Turning.{Lent}
use Rattle.routes_calls.specs.Turn.{BoardKnown}
use Rattle.routes_calls.specs.declared.route.PlanLaid.{PlanLaid}

-- The tables hold a planned board whose sections are cut, and what is lent is as long as named: its plan can be laid, turned and answered.
pub record PlanReady (b : Board) (ps : List PageLanes) (pages nodes wires facts taps groups demands keys marks rerouters bus_wires ports answers : List (List ℕ)) : Type 0 where
  pub laying : RowsReady b ps pages nodes wires facts taps groups demands keys marks rerouters bus_wires
  pub mark_room : length b.nodes + 5 * length b.wires ≤ length marks
  pub port_room : length b.wires ≤ length ports
  pub answer_room : length b.pages ≤ length answers

-- The bus of the lanes stands in the buffers, as long as named, and the corner pass can begin.
pub record CornersReady (b : Board) (ps : List PageLanes) (old old_wires oldPorts pages nodes wires facts rerouters bus_wires ports : List (List ℕ)) (held : BusCounts) (marks : List (List ℕ)) : Type 0 where
  pub accepted : Accepted b
  pub plan : plan_lanes b ≡ planned ps
  pub known : BoardKnown b pages nodes wires facts
  pub lent : Lent (length nodes) (length wires) rerouters bus_wires ports marks held
  pub stands : BusStands (bus_of b ps) old old_wires oldPorts rerouters bus_wires ports held
  pub rerouters_lent : 5 * length b.wires ≤ length old
  pub wires_lent : 6 * length b.wires ≤ length old_wires
  pub ports_lent : length b.wires ≤ length oldPorts

-- What the three calls in order answer and leave: on a refusal all buffers as they were, else the finished plan.
abbrev pub PlanTexted : Planning → (old old_wires oldPorts oldAnswers rerouters bus_wires ports answers : List (List ℕ)) → Result PlanLaid Refusal → Type 0
PlanTexted (refused e) old old_wires oldPorts oldAnswers rerouters bus_wires ports answers r =
    (r ≡ Err e) × (rerouters ≡ old) × (bus_wires ≡ old_wires) × (ports ≡ oldPorts) × (answers ≡ oldAnswers)
PlanTexted (lanes_for b ps) old old_wires oldPorts oldAnswers rerouters bus_wires ports answers r =
    (held : BusCounts) × (r ≡ Ok (record { counts = counts_in b; laid = record { bus = held; groups = laid_groups b ps } })) × BusStands (finished b ps) old old_wires oldPorts rerouters bus_wires ports held
    × (answers ≡ map page_row ps ++ drop (length ps) oldAnswers)
