-- How the code of stops and levels holds its taps and stops. No rule stands here.
use Rattle.std.specs.Prelude.{ℕ, suc, ◌%◌, ◌≤◌, ◌<◌, ◌≡◌, true, false, eqb, length, get_or, None, Some}
use mathlib.Core.List.{List, [], Memᴰ}
use Rattle.sheet.specs.Table.{MISSING}
use Rattle.base.specs.Lists.{Found, none, at}
use Rattle.lanes.specs.Lanes.{lane_most}
use Rattle.board.specs.Board.{Board, field}
use Rattle.board.specs.Groups.{Tap}
use Rattle.board.specs.Index.{found_of}
use Rattle.board.specs.Demands.{PageLanes, lane_of}
use Rattle.board.specs.Rows.{row_top}
use Rattle.base.specs.Views.{view}
use Rattle.board.specs.Tables.{WireFacts, tap_in}
use Rattle.routes.specs.Levels.{Level, dropped, shared, own, Stop, previous_stop, level_with_base, lane_for}
use Rattle.routes.specs.Tables.{GroupFacts, stop_in}
use Rattle.routes_levels.specs.declared.laying.GroupEnd.{GroupEnd}
use Rattle.routes.specs.declared.levels.Level.{Level as LevelHeld}
use Rattle.routes.specs.declared.levels.Level.TheVariants.{Dropped, Shared, Own}

-- The most wires (S12).
abbrev pub WIRES_MOST : ℕ
WIRES_MOST = 8192

-- The most rows of a page, one for each node (S12), and the most lanes.
abbrev pub ROWS_MOST : ℕ
ROWS_MOST = 4096

abbrev pub LANES_MOST : ℕ
LANES_MOST = lane_most

-- A group's row is in its table, and so is its source anchor's: no index of a node is MISSING.
pub record GroupFits (nodes facts groups : List (List ℕ)) (g : ℕ) : Type 0 where
  pub nodes_few : length nodes ≤ MISSING
  pub group : g < length groups
  pub wire : g < length facts
  pub source : field facts g 2 < length nodes

-- The taps name groups that fit. Each tap is of a wire of its own, so they are few (S12).
pub record TapsFit (nodes facts groups taps : List (List ℕ)) : Type 0 where
  pub few : length taps ≤ WIRES_MOST
  pub fits : (k : ℕ) → k < length taps → GroupFits nodes facts groups (field taps k 1)

-- The row whose number stands behind a packed key.
abbrev pub row_at : List (List ℕ) → ℕ → List ℕ
row_at rows key = get_or rows (key % WIRES_MOST) []

-- Each of the first n keys has its own number behind it.
abbrev pub Numbered : List ℕ → ℕ → Type 0
Numbered keys n = (i : ℕ) → i < n → get_or keys i 0 % WIRES_MOST ≡ i

-- What the tables hold is the board's: its nodes, the anchors of its wires, and the lanes and x of the groups of its taps.
pub record Tabled (b : Board) (ts : List Tap) (ps : List PageLanes) (nodes facts groups : List (List ℕ)) : Type 0 where
  pub node_rows : b.nodes ≡ nodes
  pub wire_ends : WireFacts b facts
  pub group_rows : GroupFacts b ts ps groups
  pub wired : (t : Tap) → Memᴰ t ts → t.group < length b.wires
  pub lanes_few : (p g l : ℕ) → lane_of ps p g ≡ at l → l < MISSING

-- A stop's level, as the code answers it.
abbrev pub stop_answer : Level → LevelHeld
stop_answer dropped = Dropped
stop_answer (shared l) = Shared l
stop_answer (own l) = Own l

-- The ends of a group without a stop.
abbrev pub no_end : GroupEnd
no_end = record { previous = None; kept = None }

-- Where the group's last kept stop has this base: its level.
abbrev pub kept_end : GroupEnd → ℕ → Found
kept_end end base = elim end.kept [ Some k ↦ elim (eqb k.base base) [ true ↦ at k.level | false ↦ none ] | None ↦ none ]

-- The last stops of each group, in the row of its first wire: the last stop's x, and the last kept one.
pub record Ends (ends : List GroupEnd) (ss : List Stop) : Type 0 where
  pub previous : (g : ℕ) → g < length ends → (get_or ends g no_end).previous ≡ found_of (previous_stop ss g)
  pub kept : (g base : ℕ) → g < length ends → level_with_base ss g base ≡ kept_end (get_or ends g no_end) base

-- The first s stops with their groups' ends, and room for n stops.
pub record StopIndex (n : ℕ) (stops : List (List ℕ)) (ends : List GroupEnd) (s : ℕ) : Type 0 where
  pub room : n ≤ length stops
  pub group_room : WIRES_MOST ≤ length ends
  pub lasts : Ends ends (view stop_in stops s)

-- The first n rows of laid taps stand page by page, on rows and in lanes that there are.
pub record PlacesFit (groups laid : List (List ℕ)) (n : ℕ) : Type 0 where
  pub rows : n ≤ length laid
  pub most : n ≤ WIRES_MOST
  pub group : (k : ℕ) → k < n → field laid k 1 < length groups
  pub row : (k : ℕ) → k < n → field laid k 2 < ROWS_MOST
  pub lane : (k : ℕ) → k < n → field groups (field laid k 1) 4 < LANES_MOST
  pub pages : (k : ℕ) → suc k < n → field laid k 0 ≤ field laid (suc k) 0

-- The first n rows of laid taps name rows of the tables.
pub record LaidFits (facts groups laid : List (List ℕ)) (n : ℕ) : Type 0 where
  pub places : PlacesFit groups laid n
  pub first : (k : ℕ) → k < n → field laid k 1 < WIRES_MOST
  pub wire : (k : ℕ) → k < n → field laid k 7 < length facts
  pub target : (k : ℕ) → k < n → field facts (field laid k 7) 3 < length facts
  pub x : (k : ℕ) → k < n → field laid k 4 < MISSING

-- What the tables say of a laid tap: its group's lane, and its row's top, by its target anchor.
pub record LaidFacts (b : Board) (ps : List PageLanes) (facts groups laid : List (List ℕ)) (n : ℕ) : Type 0 where
  pub lanes : (k : ℕ) → k < n → field groups (field laid k 1) 4 ≡ lane_for ps (tap_in (get_or laid k []))
  pub tops : (k : ℕ) → k < n → field facts (field facts (field laid k 7) 3) 1 ≡ row_top b (field laid k 0) (field laid k 2)
