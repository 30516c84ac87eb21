-- The worked examples (a) to (h) and the sheet without records, in one theorem.
use Rattle.std.specs.Prelude.{◌≡◌, ℕ, suc, ◌+◌, ◌*◌, Bool, true, false, List, [], ◌∷◌, map, reverse, replicate, refl}
use Prim.Native.String.{String}
use Prim.Native.Char.{code}
use Rattle.sheet.specs.Number
use Rattle.sheet.specs.Reading
use Rattle.sheet.specs.Record
use Rattle.sheet.specs.Text
use Rattle.sheet.specs.Written
use Rattle.lanes.specs.Lanes
use Rattle.base.specs.Sort
use Rattle.board.specs.Board
use Rattle.board.specs.Demands
use Rattle.board.specs.Groups
use Rattle.board.specs.Planning
use Rattle.board.specs.Refusals
use Rattle.board.specs.Rows
use Rattle.routes.specs.Bus
use Rattle.routes.specs.Corners
use Rattle.routes.specs.Levels
use Rattle.routes.specs.Plan
use Rattle.routes.specs.PlanSheet
use Rattle.routes.specs.Rerouters
use Rattle.routes.specs.Route
use Rattle.routes.specs.Stops
use Rattle.sheet.specs.Table.{ORIGIN, MISSING, PAGES, NODES, WIRES, program_most}
use Rattle.lanes.specs.Lanes.{Demand, Packed, full, laned, packed}
use Rattle.board.specs.Board.{Board}
use Rattle.board.specs.Groups.{taps_of}
use Rattle.board.specs.Demands.{PageLanes, Planned, crowded, planned, plan_lanes}
use Rattle.routes.specs.Stops.{is_laid, laid_taps}
use Rattle.routes.specs.Levels.{stops_of}
use Rattle.routes.specs.Route.{answer_to}

-- The bytes of a text.
unfoldable pub bytes : String → List ℕ
bytes String.[] = []
bytes (String.◌∷◌ c s) = code c ∷ bytes s

abbrev pub demands : ℕ → List (ℕ × ℕ) → List Demand
demands k [] = []
demands k (s ∷ l) = record { first = s.0; last = s.1; consumers = 1; order = k } ∷ demands (suc k) l

-- The lanes of demands from one row to another, each with one consumer and its place in the list as its order.
unfoldable pub lanes_of : List (ℕ × ℕ) → List ℕ
lanes_of spans = elim (packed (demands 0 spans)) [ full i ↦ i ∷ [] | laned ls n ↦ ls ]

-- P, N and W as they are held: coordinates from ORIGIN, half sizes 2, page 0, no line, and zeros up to sixteen numbers.
abbrev pub node : ℕ → ℕ → ℕ → ℕ → ℕ → List ℕ
node id class x y down =
    NODES ∷ id ∷ 0 ∷ class ∷ 0 ∷ 2 ∷ 2 ∷ 0 ∷ (ORIGIN + x) ∷ (ORIGIN + y) ∷ 0 ∷ (ORIGIN + down) ∷ MISSING ∷ replicate 3 0

-- Gates at these x, one a row, from row k on; and a wire to each from port 5 of node 1.
abbrev pub gates : ℕ → List ℕ → List (List ℕ)
gates k [] = []
gates k (x ∷ xs) = node (suc k) 0 x 8 (10 * k) ∷ gates (suc k) xs

abbrev pub wires_to : ℕ → List ℕ → List (List ℕ)
wires_to k [] = []
wires_to k (x ∷ xs) = (WIRES ∷ 1 ∷ 5 ∷ suc k ∷ 1 ∷ replicate 11 0) ∷ wires_to (suc k) xs

-- A page with one group: its source, of class storage, at x on row 0, and its gates on the rows after.
abbrev pub fan : ℕ → List ℕ → Board
fan x xs =
    record {
      pages = (PAGES ∷ ORIGIN ∷ (ORIGIN + 10) ∷ replicate 13 0) ∷ [];
      nodes = node 1 1 x 0 0 ∷ gates 1 xs;
      chips = [];
      inner = [];
      execs = [];
      wires = wires_to 1 xs;
    }

abbrev pub lanes_in : Planned → List PageLanes
lanes_in (crowded p) = []
lanes_in (planned ps) = ps

-- The x of a board's stops, from its first row on.
unfoldable pub stops_on : Board → List ℕ
stops_on b = let ps = lanes_in (plan_lanes b) in reverse (map (λ s. s.base) (stops_of b ps (laid_taps b (taps_of b) ps)))

-- Whether the group is laid, asked of each wire.
unfoldable pub laid_on : Board → List Bool
laid_on b = map (is_laid b (taps_of b) (lanes_in (plan_lanes b))) (taps_of b)

-- A worked example: a question by its rule, and the answer. Stops are asked with the source at 20, as in (a).
pub data Example : Type 0 where
  sheet : String → String → Example
  lanes : List (ℕ × ℕ) → List ℕ → Example
  stops : List ℕ → List ℕ → Example
  laid : ℕ → ℕ → Bool → Example

abbrev pub Right : Example → Type 0
Right (sheet board plan) = answer_to program_most (bytes board) ≡ bytes plan
Right (lanes spans ls) = lanes_of spans ≡ ls
Right (stops xs ss) = stops_on (fan 20 xs) ≡ map (λ x. ORIGIN + x) ss
Right (laid x y answer) = laid_on (fan x (y ∷ [])) ≡ answer ∷ []

abbrev pub AllRight : List Example → Type 0
AllRight [] = Unit {0}
AllRight (e ∷ es) = Right e × AllRight es

-- The sheet of (a), which is read as `fan 20 (10 ∷ 0 ∷ [])` (`board_is`).
abbrev pub sheet_a : String
sheet_a =
    "P\t0\t10\nN\t1\t0\t1\t0\t2\t2\t0\t20\t0\t0\t0\t-\nN\t2\t0\t0\t0\t2\t2\t0\t10\t8\t0\t10\t-\nN\t3\t0\t0\t0\t2\t2\t0\t0\t8\t0\t20\t-\nW\t1\t5\t2\t1\nW\t1\t5\t3\t1\n"

abbrev pub examples : List Example
examples =
    -- (a)
    sheet sheet_a
    "L\t0\t1\t8\nR\t0\t20\t-5\t10\t2\t2\t1\t1\t0\t-\t1\nR\t1\t20\t-8\t10\t1\t0\t2\t1\t0\t0\t2\nR\t2\t12\t-8\t10\t1\t0\t3\t1\t0\t0\t3\nR\t3\t10\t-8\t10\t0\t0\t4\t1\t0\t0\t4\nR\t4\t10\t3\t10\t0\t0\t5\t1\t0\t-\t5\nR\t5\t2\t-8\t10\t1\t0\t3\t1\t0\t0\t4\nR\t6\t0\t-8\t10\t0\t0\t4\t1\t0\t0\t5\nR\t7\t0\t3\t10\t0\t0\t5\t1\t0\t-\t6\nB\tp\t1\t5\tb\t0\t-\t-\t-\nB\tb\t0\t-\tb\t1\t-\t-\t-\nB\tb\t1\t-\tb\t2\t-\t-\t-\nB\tb\t2\t-\tb\t3\t-\t-\t-\nB\tb\t3\t-\tb\t4\t-\t-\t-\nB\tb\t4\t-\tp\t2\t1\t0\t5\nB\tb\t2\t-\tb\t5\t-\t-\t-\nB\tb\t5\t-\tb\t6\t-\t-\t-\nB\tb\t6\t-\tb\t7\t-\t-\t-\nB\tb\t7\t-\tp\t3\t1\t1\t6\nU\t2\t1\nU\t3\t1\nT\t8\t10\t2\t0\t1\n"
    -- (b) no demand, no lane; (c) they share row 2, and get a lane each; (d) they share none, and get one lane
    ∷ lanes [] []
    ∷ lanes ((0, 2) ∷ (2, 4) ∷ []) (0 ∷ 1 ∷ [])
    ∷ lanes ((0, 2) ∷ (3, 5) ∷ []) (0 ∷ 0 ∷ [])
    -- (e) 9 is near 10; (f) 8 is not; (g) nor is it behind a 9, for it is measured against the base, 10
    ∷ stops (10 ∷ 9 ∷ []) (10 ∷ 10 ∷ [])
    ∷ stops (10 ∷ 8 ∷ []) (10 ∷ 8 ∷ [])
    ∷ stops (10 ∷ 9 ∷ 8 ∷ []) (10 ∷ 10 ∷ 8 ∷ [])
    -- (h) 5 apart is too few, 6 is enough
    ∷ laid 10 15 false
    ∷ laid 10 16 true
    -- the empty sheet
    ∷ sheet "" "T\t0\t0\t0\t0\t0\n"
    ∷ []

pub worked : AllRight examples
unfolding bytes lanes_of stops_on laid_on
    Number.all_digits Number.value_from Number.no_leading_zero Number.plain Number.unsigned Number.signed Number.number Reading.lines_read
    Reading.sheet_lines Reading.row_of Reading.rows_from Reading.counted Reading.after Reading.unreadable Reading.over_most Reading.out_of_range
    Reading.first Reading.refusals Reading.read_lines Reading.reading Record.allowed Record.within Record.present Record.cell_of
    Record.fields_read Record.place_of Record.section_of Record.record_read Record.line_read Text.on_first Text.parts Text.first_part Text.line_of
    Text.part_of Written.digits_of Written.decimal Written.coordinate_text Written.number_text Written.written Lanes.entries Lanes.ahead
    Lanes.ranked Lanes.first_that Lanes.lane_for Lanes.with_tenant Lanes.pack_in Lanes.packed Sort.inserted Sort.sorted Sort.joined Sort.merged
    Sort.lex_less Sort.right_next Sort.sorted_rows Board.section Board.board_of Demands.band Demands.first_row Demands.last_row Demands.needs_lane
    Demands.demand_of Demands.groups_on Demands.packed_on Demands.plan_upto Demands.plan_lanes Demands.lane_y Groups.top_chip Groups.anchor_of
    Groups.is_bussable Groups.is_bus_worthy Groups.crosses_at Groups.targets_exec Groups.wire_open Groups.anchors_open Groups.group_for
    Groups.tap_for Groups.add_wire Groups.taps_of Groups.taps_in Groups.source_anchor Groups.target_anchor Groups.crosses Groups.source_row
    Planning.records Planning.planning Planning.fits_pages Planning.pages_after Refusals.body_of Refusals.chip_at Refusals.inner_of
    Refusals.node_twice Refusals.chip_twice Refusals.inner_twice Refusals.page_missing Refusals.parent_missing Refusals.chip_missing
    Refusals.row_unplaced Refusals.id_twice Refusals.not_there Refusals.unplaced Refusals.judged_board Refusals.judged Rows.cells_overlap
    Rows.nodes_on Rows.downs_on Rows.row_of Rows.brick_cell Rows.bricks_in Rows.row_top Bus.muted Bus.clear_of_row Corners.turns_down
    Corners.corner_rerouter Corners.sink_load Corners.corner_clear Corners.corner_level Corners.with_corner Corners.turn_wire Corners.corners
    Corners.turns Corners.turnable Levels.load_at Levels.unclaimed Levels.free_level Levels.find_level Levels.level_of Levels.stop_for
    Levels.stops_of Plan.bus_of Plan.laid_groups Plan.finished Plan.deliveries PlanSheet.fields PlanSheet.numbered PlanSheet.lane_line
    PlanSheet.rerouter_line PlanSheet.wire_line PlanSheet.port_line PlanSheet.total_line PlanSheet.plan_sheet PlanSheet.refusal_sheet
    Rerouters.column_free Rerouters.chain_rotation Rerouters.lane_rerouter Rerouters.row_rerouter Rerouters.with_source Rerouters.start_group
    Rerouters.with_link Rerouters.start_row Rerouters.with_gate_side Rerouters.serve Rerouters.emit_tap Rerouters.emit Route.fits_plan Route.laid
    Route.routed Route.sheet_of Route.answer_to Stops.spread Stops.long_enough Stops.is_laid Stops.laid_taps
worked = (refl, (refl, (refl, (refl, (refl, (refl, (refl, (refl, (refl, (refl, tt))))))))))
