-- `plan_bus`, `lay_bus` and `lay_mini_bus`, run in that order on one text: the finished plan in the buffers, or one refusal from all three.
use Rattle.std.specs.Prelude.{ℕ, ◌≡◌, Bool, true, List, length, Result, Ok, Err}
use Rattle.base.specs.declared.refusal.Refusal.{Refusal}
use Rattle.sheet.specs.Table.{library_most}
use Rattle.board.specs.Board.{Board}
use Rattle.board.specs.Refusals.{board, judged}
use Rattle.board.specs.Demands.{PageLanes}
use Rattle.board.specs.Planning.{Planning, refused, lanes_for, fits_pages, planning}
use Rattle.board_plan.specs.TextPlan.{shortest}
use Rattle.board_plan.specs.PagesPlan.{plan_call, PagesPlanned}
use Rattle.routes.specs.Plan.{bus_of, finished, laid_groups}
use Rattle.routes.specs.Route.{plan}
use Rattle.routes_gutter.specs.declared.laying.BusLaid.{BusLaid}
use Rattle.routes_gutter.specs.Calls.{bus_answer, bus_fits, lay_call, BusCalled}
use Rattle.routes.specs.declared.bus.BusCounts.{BusCounts}
use Rattle.routes_calls.specs.Mini.{mini_call}
use Rattle.routes_calls.specs.Route.{PlanCalled}
use Rattle.routes_promise.specs.Promise.{Promised}

-- The output buffers.
pub record Buffers : Type 0 where
  pub rerouters : List (List ℕ)
  pub bus_wires : List (List ℕ)
  pub ports : List (List ℕ)
  pub answers : List (List ℕ)

-- The counts after `lay_bus`: those it answered, or still the zeros from before it.
abbrev pub counts_left : Result BusLaid Refusal → BusCounts
counts_left (Err e) = record { rerouters = 0; bus_wires = 0; ports = 0 }
counts_left (Ok done) = done.bus

-- Buffers of these lengths, and slices of work space of these, as a call that lays a bus tests them.
abbrev pub fits_in : Buffers → List ℕ → Board → Bool
fits_in buffers work = bus_fits (length buffers.rerouters) (length buffers.bus_wires) (length buffers.ports) work

module _ (text : List ℕ) (planWork layWork miniWork : List ℕ) where
  -- What the calls are lent is as long as named for the board of the text.
  pub record AsNamed (lent : Buffers) : Type 0 where
    pub for_pages : (b : Board) → judged library_most text ≡ board b → fits_pages (length lent.answers) (shortest planWork) b ≡ true
    pub for_lanes : (b : Board) → judged library_most text ≡ board b → fits_in lent layWork b ≡ true
    pub for_corners : (b : Board) → judged library_most text ≡ board b → fits_in lent miniWork b ≡ true

  -- The three promises, `lay_mini_bus` with the counts and the buffers that `lay_bus` left, and nothing else written between.
  pub record CalledInTurn (before between after : Buffers) (planned : Result ℕ Refusal) (laid turned : Result BusLaid Refusal) : Type 0 where
    pub plan_bus : PagesPlanned (plan_call text (length before.answers) planWork) before.answers after.answers planned
    pub lay_bus : BusCalled (lay_call text (fits_in before layWork)) before.rerouters before.bus_wires before.ports between.rerouters between.bus_wires between.ports laid
    pub lay_mini_bus : BusCalled (mini_call text (fits_in between miniWork) between.rerouters between.bus_wires between.ports (counts_left laid))
        between.rerouters between.bus_wires between.ports after.rerouters after.bus_wires after.ports turned

-- An accepted board: no call refuses, the buffers hold the finished plan and behind it what they held before the first call, and demand 3 holds of their rows.
pub record PlanLeft (b : Board) (ps : List PageLanes) (before after : Buffers) (planned : Result ℕ Refusal) (laid turned : Result BusLaid Refusal) : Type 0 where
  pub pages_planned : planned ≡ Ok (length b.pages)
  pub lanes_laid : laid ≡ bus_answer (plan b ps (bus_of b ps) (laid_groups b ps))
  pub corners_laid : PlanCalled (plan b ps (finished b ps) 0) before.rerouters before.bus_wires before.ports before.answers after.rerouters after.bus_wires after.ports after.answers turned
  pub promised : Promised b after.rerouters (length (finished b ps).rerouters) after.bus_wires (length (finished b ps).wires) after.ports (length (finished b ps).ports)

-- Any other: all three refuse alike, and nothing is altered.
pub record AllRefuse (e : Refusal) (before between after : Buffers) (planned : Result ℕ Refusal) (laid turned : Result BusLaid Refusal) : Type 0 where
  pub no_pages : planned ≡ Err e
  pub without_lanes : laid ≡ Err e
  pub no_corners : turned ≡ Err e
  pub unaltered : (between.rerouters ≡ before.rerouters) × (between.bus_wires ≡ before.bus_wires) × (between.ports ≡ before.ports)
  pub unaltered_still : (after.rerouters ≡ before.rerouters) × (after.bus_wires ≡ before.bus_wires) × (after.ports ≡ before.ports) × (after.answers ≡ before.answers)

abbrev pub Outcome : Planning → (before between after : Buffers) → Result ℕ Refusal → Result BusLaid Refusal → Result BusLaid Refusal → Type 0
Outcome (refused e) before between after planned laid turned = AllRefuse e before between after planned laid turned
Outcome (lanes_for b ps) before between after planned laid turned = PlanLeft b ps before after planned laid turned

-- What decides is the text alone: the refusals of the sheet, and 8.
abbrev pub decided : List ℕ → Planning
decided text = planning library_most (λ b. true) text

-- What `route` answers where `lay_bus` and `lay_mini_bus` answer so: the counts of the one, the groups of the other.
abbrev pub route_answer : Result BusLaid Refusal → Result BusLaid Refusal → Result BusLaid Refusal
route_answer laid (Err e) = Err e
route_answer (Err d) (Ok done) = Ok done
route_answer (Ok lanes) (Ok done) = Ok (record { bus = done.bus; groups = lanes.groups })
