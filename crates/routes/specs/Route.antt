-- The calls over a sheet: `lay_bus`, `lay_mini_bus` and the three in order, each a refusal with its place, or what it leaves in the buffers.
use Rattle.std.specs.Prelude.{ℕ, ◌+◌, ◌*◌, ◌≤◌, Bool, true, ◌&&◌, List, length, nat_le}
use Rattle.base.specs.declared.refusal.Refusal.{Refusal}
use Rattle.base.specs.Refusal.{number_of}
use Rattle.sheet.specs.declared.Counts.{Counts}
use Rattle.board.specs.Board.{Board}
use Rattle.board.specs.Demands.{PageLanes}
use Rattle.board.specs.Planning.{Planning, refused, lanes_for, planning, records}
use Rattle.routes.specs.Bus.{Bus}
use Rattle.routes.specs.Plan.{bus_of, finished, laid_groups}
use Rattle.routes.specs.PlanSheet.{plan_sheet, refusal_sheet}

-- S15: what is lent for a board's wires: so many rerouters and so many bus wires, and a suppressed port each.
abbrev pub rerouters_for : Board → ℕ
rerouters_for b = 5 * length b.wires

abbrev pub bus_wires_for : Board → ℕ
bus_wires_for b = 6 * length b.wires

abbrev pub ports_for : Board → ℕ
ports_for b = length b.wires

-- S15: whether enough is lent for `lay_bus`. Work space is counted in rows, one a record (S16).
unfoldable pub fits_bus : ℕ → ℕ → ℕ → ℕ → Board → Bool
fits_bus rerouters bus_wires ports work b =
    nat_le (rerouters_for b) rerouters && (nat_le (bus_wires_for b) bus_wires && (nat_le (ports_for b) ports && nat_le (records b) work))

-- S15: and for `route`, with the page answers.
unfoldable pub fits_plan : ℕ → ℕ → ℕ → ℕ → ℕ → Board → Bool
fits_plan rerouters bus_wires ports answers work b =
    nat_le (rerouters_for b) rerouters
    && (nat_le (bus_wires_for b) bus_wires && (nat_le (ports_for b) ports && (nat_le (length b.pages) answers && nat_le (records b) work)))

-- A bus, and u more corners, fit into what is lent for a board.
pub record Room (b : Board) (bus : Bus) (u : ℕ) : Type 0 where
  pub rerouters : length bus.rerouters + u ≤ rerouters_for b
  pub wires : length bus.wires + 2 * u ≤ bus_wires_for b
  pub ports : length bus.ports + u ≤ ports_for b

-- A refusal with its place; or a plan: the board, the lanes of its pages, the bus, and how many groups were laid.
pub data Routed : Type 0 where
  turned_away : Refusal → Routed
  plan : Board → List PageLanes → Bus → ℕ → Routed

-- The plan that a call makes of the lanes: `bus_of` for `lay_bus`, `finished` for the three calls.
abbrev pub routed_by : (Board → List PageLanes → Bus) → Planning → Routed
routed_by make (refused e) = turned_away e
routed_by make (lanes_for b ps) = plan b ps (make b ps) (laid_groups b ps)

unfoldable pub laid : Counts → (Board → Bool) → List ℕ → Routed
laid most fits text = routed_by bus_of (planning most fits text)

-- W1: a refusal, or the finished plan.
unfoldable pub routed : Counts → (Board → Bool) → List ℕ → Routed
routed most fits text = routed_by finished (planning most fits text)

-- P1, E12: the text that answers a sheet.
unfoldable pub sheet_of : Routed → List ℕ
sheet_of (turned_away e) = refusal_sheet (number_of e.reason) e.place
sheet_of (plan b ps bus laid) = plan_sheet b ps bus laid

unfoldable pub answer_to : Counts → List ℕ → List ℕ
answer_to most text = sheet_of (routed most (λ b. true) text)
