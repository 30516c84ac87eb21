-- How the code holds what the rules speak of, in tables of rows of numbers. No rule stands here.
use Rattle.std.specs.Prelude.{ℕ, ◌<◌, ◌≡◌, Bool, true, false, length, get_or}
use mathlib.Core.List.{List, [], ◌∷◌, map, Memᴰ}
use Rattle.sheet.specs.Table.{MISSING}
use Rattle.base.specs.Lists.{Found, none, at, least, greatest}
use Rattle.board.specs.Board.{Board, field, has_row, page_of, source_node, target_node}
use Rattle.board.specs.Rows.{row_of, row_top}
use Rattle.board.specs.Groups.{Tap, anchor_of, wire_open, anchors_open, taps_of, taps_in, crosses}
use Rattle.board.specs.Demands.{PageLanes, no_lanes, lane_of}

-- An index that may not be there, as one number.
abbrev pub held : Found → ℕ
held none = MISSING
held (at i) = i

-- A tap in a row of eight numbers, in the order in which taps are sorted.
abbrev pub tap_in : List ℕ → Tap
tap_in r =
    record {
      page = get_or r 0 0;
      group = get_or r 1 0;
      row = get_or r 2 0;
      y = get_or r 3 0;
      x = get_or r 4 0;
      node = get_or r 5 0;
      port = get_or r 6 0;
      wire = get_or r 7 0;
    }

abbrev pub tap_row : Tap → List ℕ
tap_row t = t.page ∷ t.group ∷ t.row ∷ t.y ∷ t.x ∷ t.node ∷ t.port ∷ t.wire ∷ []

-- A board of nodes alone: what rows and cells are found from.
abbrev pub nodes_alone : List (List ℕ) → Board
nodes_alone nodes = record { pages = []; nodes = nodes; chips = []; inner = []; execs = []; wires = [] }

-- One table holds the facts of nodes, wires and pages: row i has those of node i, of wire i and of page i side by side.

-- Facts of the nodes: column 0 is the row's number, column 1 its top.
pub record NodeFacts (b : Board) (facts : List (List ℕ)) : Type 0 where
  pub rows : (i : ℕ) → i < length b.nodes → has_row b i ≡ true → field facts i 0 ≡ row_of b i
  pub tops : (i : ℕ) → i < length b.nodes → has_row b i ≡ true → field facts i 1 ≡ row_top b (page_of b i) (row_of b i)

-- A test's answer as a number.
abbrev pub flag : Bool → ℕ
flag false = 0
flag true = 1

-- The target anchor of a wire that is not passed over.
unfoldable pub tap_target : Board → ℕ → Found
tap_target b w =
    elim (wire_open b w) [
      | false ↦ none
      | true ↦
          elim (anchor_of b (source_node b w)) [
            | none ↦ none
            | at s ↦ elim (anchor_of b (target_node b w)) [ none ↦ none | at t ↦ elim (anchors_open b w s t) [ true ↦ at t | false ↦ none ] ]
          ]
    ]

-- Facts of the wires: columns 2 and 3 are the anchors of the two ends, column 4 says whether the wire passes the tests before any on its anchors.
pub record WireFacts (b : Board) (facts : List (List ℕ)) : Type 0 where
  pub sources : (w : ℕ) → w < length b.wires → field facts w 2 ≡ held (anchor_of b (source_node b w))
  pub targets : (w : ℕ) → w < length b.wires → field facts w 3 ≡ held (anchor_of b (target_node b w))
  pub opens : (w : ℕ) → w < length b.wires → field facts w 4 ≡ flag (wire_open b w)

-- Column 5 is the target anchor of a wire that is not passed over.
abbrev pub TapTargets : Board → List (List ℕ) → Type 0
TapTargets b facts = (w : ℕ) → w < length b.wires → field facts w 5 ≡ held (tap_target b w)

-- What the taps of a group add up to, in the row of its first wire: its first and last row, its consumers, whether it crosses, its lane, the least and the
-- greatest x. A wire that names no group has no taps.
unfoldable pub group_row : Board → List Tap → ℕ → ℕ → List ℕ
group_row b ts g lane =
    least MISSING (map (λ t. t.row) (taps_in b ts g))
    ∷ greatest 0 (map (λ t. t.row) (taps_in b ts g))
    ∷ length (taps_in b ts g)
    ∷ flag (crosses b ts g)
    ∷ lane
    ∷ least MISSING (map (λ t. t.x) (taps_in b ts g))
    ∷ greatest 0 (map (λ t. t.x) (taps_in b ts g))
    ∷ 0 ∷ []

-- The groups with their lanes, those of the pages planned so far.
abbrev pub GroupFacts : Board → List PageLanes → List (List ℕ) → Type 0
GroupFacts b ps table =
    (t : Tap) → Memᴰ t (taps_of b) → get_or table t.group [] ≡ group_row b (taps_of b) t.group (held (lane_of ps t.page t.group))

-- Facts of the pages: column 6 is the count of lanes.
abbrev pub PageFacts : List PageLanes → List (List ℕ) → Type 0
PageFacts ps table = (p : ℕ) → p < length ps → field table p 6 ≡ (get_or ps p no_lanes).count
