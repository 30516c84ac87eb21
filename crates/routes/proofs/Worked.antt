-- Demand 3 of the board of example (a): the conditions of `demand3` are met there.
use Rattle.std.proofs.Common.{◌≡◌, List, [], ◌∷◌, refl}
use Rattle.sheet.specs.Table.{program_most}
use Rattle.board.specs.Board
use Rattle.board.specs.Groups
use Rattle.board.specs.Demands
use Rattle.board.specs.Rows
use Rattle.board.specs.Refusals
use Rattle.board.specs.Refusals.{judged}
use Rattle.lanes.specs.Lanes
use Rattle.base.specs.Sort
use Rattle.board.specs.Board.{Board}
use Rattle.board.specs.Demands.{PageLanes, planned, plan_lanes}
use Rattle.board.proofs.Accepting.{sheet_accepted, within_program}
use Rattle.routes.specs.Plan.{finished}
use Rattle.routes.specs.Demand3.{Demand3}
use Rattle.routes.specs.Examples.{bytes, sheet_a, fan}
use Rattle.routes.proofs.Demand3.{demand3}

abbrev pub board : Board
board = fan 20 (10 ∷ 0 ∷ [])

-- The sheet of (a) is read as this board.
pub board_is : judged program_most (bytes sheet_a) ≡ Refusals.board board
unfolding bytes judged Board.section Refusals.node_twice Refusals.page_missing Refusals.row_unplaced
board_is = refl

-- One group, in lane 0.
abbrev pub planned_lanes : List PageLanes
planned_lanes = record { groups = 0 ∷ []; lane_list = 0 ∷ []; count = 1 } ∷ []

lanes : plan_lanes board ≡ planned planned_lanes
unfolding plan_lanes Demands.plan_upto Demands.packed_on Demands.groups_on Demands.demand_of Demands.needs_lane Demands.first_row Demands.last_row Groups.taps_of Groups.add_wire Groups.tap_for Groups.group_for Groups.wire_open Groups.anchors_open Groups.anchor_of Groups.is_bussable Groups.is_bus_worthy Groups.crosses_at Groups.targets_exec Groups.taps_in Groups.source_anchor Groups.target_anchor Groups.crosses Groups.top_chip Rows.row_of Rows.nodes_on Rows.downs_on Refusals.body_of Refusals.inner_of Lanes.packed Lanes.pack_in Lanes.ranked Lanes.entries Lanes.lane_for Lanes.first_that Lanes.with_tenant Lanes.ahead Sort.sorted Sort.inserted Sort.lex_less
lanes = refl

pub worked_demand3 : Demand3 board (finished board planned_lanes)
worked_demand3 = demand3 board planned_lanes lanes (sheet_accepted program_most (bytes sheet_a) board within_program board_is)
