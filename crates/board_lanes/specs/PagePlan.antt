-- How the code plans a page, from the taps, the page that each asks for a lane on, and the groups' rows. No rule stands here.
use Rattle.std.specs.Prelude.{ℕ, ◌≤◌, ◌<◌, ◌≡◌, true, false, List, [], map, reverse, eqb, length, get_or, suc, Result, Ok, Err}
use Rattle.base.specs.declared.refusal.Reason.TheVariants.{NoLane}
use Rattle.base.specs.declared.refusal.Refusal.{Refusal}
use Rattle.base.specs.Refusal.{refusal}
use Rattle.sheet.specs.Table.{library_most}
use Rattle.lanes.specs.Lanes.{Demand, full, laned, packed, lane_most}
use Rattle.lanes.specs.Keys.{demand_of}
use Rattle.lanes.specs.declared.pack.LanesFull.{LanesFull}
use Rattle.base.specs.Lists.{keep, upto}
use Rattle.board.specs.Board.{Board, field, given}
use Rattle.board.specs.Groups.{taps_of}
use Rattle.board.specs.Demands.{lane_in, PageLanes, crowded, planned, plan_lanes}
use Rattle.base.specs.Views.{view}
use Rattle.board.specs.Tables.{held, tap_in, NodeFacts, WireFacts, GroupFacts, PageFacts}
use Rattle.board_groups.specs.Collecting.{relaned, head_page, GroupSums}
use Rattle.board_lanes.specs.declared.demands.BoardPlan.{BoardPlan}

-- What planning leaves: the refusal at the first page that is crowded, or the lanes of all groups and pages.
abbrev pub IsCrowded : Board → Refusal → Type 0
IsCrowded b r = (p : ℕ) × (plan_lanes b ≡ crowded p) × (r ≡ refusal NoLane (suc p))

abbrev pub LanesHeld : Board → List (List ℕ) → List (List ℕ) → Type 0
LanesHeld b groups facts = (ps : List PageLanes) × (plan_lanes b ≡ planned ps) × GroupFacts b ps groups × PageFacts ps facts

abbrev pub PlanHeld : Board → List (List ℕ) → List (List ℕ) → Result (Unit {0}) Refusal → Type 0
PlanHeld b groups facts (Err r) = IsCrowded b r
PlanHeld b groups facts (Ok u) = LanesHeld b groups facts

-- The demand in a group's row.
abbrev pub group_demand : List (List ℕ) → ℕ → Demand
group_demand groups g = record { first = field groups g 0; last = field groups g 1; consumers = field groups g 2; order = g }

-- The group in a demand's row.
abbrev pub order_column : List ℕ → ℕ
order_column row = get_or row 3 0

-- The groups that ask for a lane on the page, newest first.
abbrev pub asking : List (List ℕ) → List ℕ → ℕ → ℕ → List ℕ
asking taps marks p m = map (λ k. field taps k 1) (keep (λ k. eqb (get_or marks k 0) p) (upto m))

-- None of the taps from one up to another asks for a lane on the page.
abbrev pub NoneAsks : List ℕ → ℕ → ℕ → ℕ → Type 0
NoneAsks marks p from to = (j : ℕ) → from ≤ j → j < to → get_or marks j 0 ≡ p → ⊥

-- A page's demands, newest first.
pub record PageDemands (taps : List (List ℕ)) (marks : List ℕ) (m : ℕ) (groups : List (List ℕ)) (p : ℕ) (demands : List (List ℕ)) (n : ℕ) : Type 0 where
  pub rows : view demand_of demands n ≡ map (group_demand groups) (asking taps marks p m)
  pub orders : view order_column demands n ≡ asking taps marks p m

-- The groups' rows before and after a page's demands are packed: each group that asks has its lane, every other row is as it was.
abbrev pub PagePacked : List (List ℕ) → List ℕ → ℕ → ℕ → List (List ℕ) → List (List ℕ) → Result ℕ LanesFull → Type 0
PagePacked taps marks m p before after (Err e) = packed (map (group_demand before) (reverse (asking taps marks p m))) ≡ full e.index
PagePacked taps marks m p before after (Ok count) =
    (ls : List ℕ) × (packed (map (group_demand before) (reverse (asking taps marks p m))) ≡ laned ls count)
    × ((g : ℕ) → g < length before → get_or after g [] ≡ relaned (lane_in (reverse (asking taps marks p m)) ls g) (get_or before g []))

-- The same of a page with or without min_y; the count of lanes is a number of 32 bits.
pub record GutterPacked (min_y : ℕ) (taps : List (List ℕ)) (marks : List ℕ) (m p : ℕ) (before after : List (List ℕ)) (r : Result ℕ LanesFull) : Type 0 where
  pub without : given min_y ≡ false → (r ≡ Ok 0) × (after ≡ before)
  pub within : given min_y ≡ true → PagePacked taps marks m p before after r
  pub few : (count : ℕ) → r ≡ Ok count → count ≤ lane_most

-- Room to pack the demands of so many taps.
abbrev pub PackingRoom : (taps demands keys spare : List (List ℕ)) → Type 0
PackingRoom taps demands keys spare = (length taps ≤ length demands) × (length taps ≤ length keys) × (length taps ≤ length spare)

-- Taps, sums of groups and marks that are a board's.
pub record Surveyed (b : Board) (taps : List (List ℕ)) (m : ℕ) (groups : List (List ℕ)) (marks : List ℕ) : Type 0 where
  pub taps_are : view tap_in taps m ≡ taps_of b
  pub sums : GroupSums b (taps_of b) groups
  pub heads : (k : ℕ) → k < m → get_or marks k 0 ≡ held (head_page b (taps_of b) (tap_in (get_or taps k [])))

-- What `collect_bus_groups` leaves of a board.
pub record Collected (b : Board) (pages nodes wires facts taps : List (List ℕ)) (m : ℕ) : Type 0 where
  pub pages_are : b.pages ≡ pages
  pub nodes_are : b.nodes ≡ nodes
  pub wires_are : b.wires ≡ wires
  pub nodes_known : NodeFacts b facts
  pub wires_known : WireFacts b facts
  pub taps_are : view tap_in taps m ≡ taps_of b

-- Room in the work tables for a board's records, and at most as many records as the sheet may have.
pub record Room (pages nodes execs wires : List (List ℕ)) (facts taps groups demands keys spare : List (List ℕ)) : Type 0 where
  pub few_pages : length pages ≤ library_most.pages
  pub few_nodes : length nodes ≤ library_most.nodes
  pub few_execs : length execs ≤ library_most.execs
  pub few_wires : length wires ≤ library_most.wires
  pub node_room : (length nodes ≤ length facts) × (length nodes ≤ length keys) × (length nodes ≤ length spare)
  pub wire_room : (length wires ≤ length facts) × (length wires ≤ length taps) × (length wires ≤ length groups)
  pub demand_room : (length wires ≤ length demands) × (length wires ≤ length keys) × (length wires ≤ length spare)
  pub page_room : length pages ≤ length facts

-- A planned board: the facts of its nodes and wires, its taps, and its lanes. Where a page is crowded, it has its taps all the same.
pub record BoardPlanned (b : Board) (facts taps groups : List (List ℕ)) (r : BoardPlan) : Type 0 where
  pub nodes_known : NodeFacts b facts
  pub wires_known : WireFacts b facts
  pub count : r.taps ≤ length b.wires
  pub taps_are : view tap_in taps r.taps ≡ taps_of b
  pub plan_held : PlanHeld b groups facts r.plan
