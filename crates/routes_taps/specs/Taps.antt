-- How the code holds the laid taps, their lanes and their stops on a walk. No rule stands here.
use Rattle.std.specs.Prelude.{ℕ, suc, ◌+◌, ◌*◌, ◌-◌, ◌<◌, ◌≤◌, ◌≡◌, Bool, true, false, not, ◌&&◌, eqb, ltb, length, get_or, Option, None, Some}
use mathlib.Core.List.{List, [], ◌∷◌, Memᴰ}
use Rattle.sheet.specs.Table.{MISSING}
use Rattle.board.specs.Board.{Board, field, id_of, x_of, y_of, z_of, min_y_of, source_node, source_port, target_node, target_port}
use Rattle.board.specs.Index.{found_of}
use Rattle.board.specs.Groups
use Rattle.board.specs.Groups.{source_row}
use Rattle.board.specs.Demands.{PageLanes, no_lanes, lane_y, LANE_PITCH, BUS_BAND_GUTTER}
use Rattle.base.specs.Views.{view}
use Rattle.board.specs.Tables.{tap_in, NodeFacts, WireFacts, PageFacts}
use Rattle.routes.specs.Levels
use Rattle.routes.specs.Levels.{lane_for, dropped, shared, own}
use Rattle.routes.specs.Rerouters.{TAP_RESERVE, source, chain_rotation, level_here}
use Rattle.routes.specs.Stops.{new_row}
use Rattle.routes.specs.Tables.{stop_in, GroupFacts}
use Rattle.routes.specs.Holding.{turns_of, stop_level_of}
use Rattle.routes.specs.declared.bus.Rotation.{Rotation}
use Rattle.routes.specs.declared.bus.Rotation.TheVariants.{Deg90, Deg270}
use Rattle.routes.specs.declared.levels.Level.{Level}
use Rattle.routes_taps.specs.declared.taps.Lane.{Lane}
use Rattle.routes_taps.specs.declared.taps.Tap.{Tap}
use Rattle.routes_taps.specs.declared.taps.Reached.{Reached}

-- What the code's values stand for.
abbrev pub tap_of : Tap → Groups.Tap
tap_of t = record { page = t.page; group = t.group; row = t.row; y = t.y; x = t.x; node = t.node; port = t.port; wire = t.wire }

-- The lane of a tap's group holds what the rules say of it.
pub record LaneOf (b : Board) (ts : List Groups.Tap) (ps : List PageLanes) (t : Groups.Tap) (l : Lane) : Type 0 where
  pub page : l.page ≡ t.page
  pub lane : l.lane ≡ lane_for ps t
  pub y : l.y ≡ lane_y (min_y_of b t.page) (get_or ps t.page no_lanes).count (lane_for ps t)
  pub z : l.z ≡ z_of b t.page
  pub colour : l.colour.0 ≡ id_of b (source b ts ps t)
  pub rotation : turns_of l.rotation ≡ chain_rotation b ts ps t
  pub node : l.node.0 ≡ source_node b t.group
  pub port : l.port ≡ source_port b t.group
  pub source_x : l.source_x ≡ x_of b (source b ts ps t)
  pub source_y : l.source_y ≡ y_of b (source b ts ps t)
  pub row : l.source_row ≡ found_of (source_row b t.group t.page)

-- A lane that is read from the tables holds that too, and a row that is known is below MISSING.
pub record LaneRead (b : Board) (ts : List Groups.Tap) (ps : List PageLanes) (t : Groups.Tap) (l : Lane) : Type 0 where
  pub told : LaneOf b ts ps t l
  pub row_small : (row : ℕ) → l.source_row ≡ Some row → row < MISSING

-- The numbers of a lane are in range: it is on a page, and has a number; a rerouter's place left of its source is no negative number.
pub record LaneRanges (l : Lane) : Type 0 where
  pub page : l.page ≡ MISSING → ⊥
  pub lane : l.lane ≡ MISSING → ⊥
  pub source_y : TAP_RESERVE ≤ l.source_y

-- A rerouter's place left of a tap is no negative number, and a tap has a row.
pub record TapRanges (t : Tap) : Type 0 where
  pub y : TAP_RESERVE ≤ t.y
  pub row : t.row ≡ MISSING → ⊥

-- A level is low enough for a rerouter there, and for a link above it.
abbrev pub LowLevel : Levels.Level → Type 0
LowLevel dropped = Unit {0}
LowLevel (shared x) = x < 4294967290
LowLevel (own x) = x < 4294967290

abbrev pub LevelRange : Level → Type 0
LevelRange l = LowLevel (stop_level_of l)

-- A tap's node and port are its wire's target.
pub record TapTarget (b : Board) (t : Tap) : Type 0 where
  pub node : t.node ≡ target_node b t.wire
  pub port : t.port ≡ target_port b t.wire

-- What the code reads of a lane in the tables: three quarter turns where the source is placed and the least tap is over it; the row where the source is on the page.
abbrev pub rotation_over : ℕ → ℕ → Rotation
rotation_over x low = elim (not (eqb x MISSING) && ltb x low) [ true ↦ Deg270 | false ↦ Deg90 ]

abbrev pub row_on_page : List (List ℕ) → List (List ℕ) → ℕ → ℕ → Option ℕ
row_on_page nodes facts s page = elim (eqb (field nodes s 10) page) [ true ↦ Some (field facts s 0) | false ↦ None ]

abbrev pub lane_read : (pages nodes wires facts groups : List (List ℕ)) → ℕ → ℕ → Lane
lane_read pages nodes wires facts groups page group =
    let s : ℕ = field facts group 2 in
    record {
      page = page;
      lane = field groups group 4;
      y = lane_y (field pages page 1) (field facts page 6) (field groups group 4);
      z = field pages page 2;
      colour = record { 0 = field nodes s 1 };
      rotation = rotation_over (field nodes s 8) (field groups group 5);
      node = record { 0 = field wires group 1 };
      port = field wires group 2;
      source_x = field nodes s 8;
      source_y = field nodes s 9;
      source_row = row_on_page nodes facts s page;
    }

abbrev pub tap_read : List ℕ → Tap
tap_read r =
    record { page = get_or r 0 0; group = get_or r 1 0; row = get_or r 2 0; y = get_or r 3 0; x = get_or r 4 0; node = get_or r 5 0; port = get_or r 6 0; wire = get_or r 7 0 }

-- The numbers in the tables that a lane is read from are in range.
pub record LaneInRange (pages nodes wires facts groups : List (List ℕ)) (page group : ℕ) : Type 0 where
  pub on_pages : page < length pages
  pub on_facts : page < length facts
  pub page_small : page < MISSING
  pub on_wires : group < length wires
  pub on_ends : group < length facts
  pub on_groups : group < length groups
  pub anchor : field facts group 2 < length nodes
  pub facts_long : length nodes ≤ length facts
  pub nodes_few : length nodes < MISSING
  pub lane_small : field groups group 4 < MISSING
  pub lane_open : field groups group 4 ≤ field facts page 6
  pub lane_room : BUS_BAND_GUTTER + LANE_PITCH * (field facts page 6 - field groups group 4) ≤ field pages page 1
  pub source_room : TAP_RESERVE ≤ field nodes (field facts group 2) 9
  pub row_small : field nodes (field facts group 2) 10 ≡ page → field facts (field facts group 2) 0 < MISSING

-- The stops reached: the level is that of the newest.
pub record AtStop (stops : List (List ℕ)) (r : Reached) : Type 0 where
  pub level : stop_level_of r.level ≡ level_here (view stop_in stops r.stops)
  pub range : LevelRange r.level

pub record ReachedNext (stops : List (List ℕ)) (r : Reached) (fresh : Bool) (r' : Reached) : Type 0 where
  pub count : r'.stops ≡ elim fresh [ true ↦ suc r.stops | false ↦ r.stops ]
  pub newest : AtStop stops r → (fresh ≡ true → LowLevel (stop_in (get_or stops r.stops [])).level) → AtStop stops r'

-- The board, its taps and its lanes are those that the tables hold.
pub record Tables (b : Board) (ts : List Groups.Tap) (ps : List PageLanes) (pagesIn nodesIn wires_in factsIn groupsIn : List (List ℕ)) : Type 0 where
  pub pages : b.pages ≡ pagesIn
  pub nodes : b.nodes ≡ nodesIn
  pub wires : b.wires ≡ wires_in
  pub facts : NodeFacts b factsIn
  pub ends : WireFacts b factsIn
  pub groups : GroupFacts b ts ps groupsIn
  pub page_facts : PageFacts ps factsIn

-- Before the k-th tap: its numbers are in range, and so is the stop that it reaches where it begins a row.
pub record NextInRange (laid : List (List ℕ)) (k : ℕ) (stops : List (List ℕ)) (r : Reached) : Type 0 where
  pub on_laid : k < length laid
  pub tap_room : TAP_RESERVE ≤ field laid k 3
  pub tap_row : field laid k 2 < MISSING
  pub at_stop : AtStop stops r
  pub next_stop : new_row (view tap_in laid k) (tap_in (get_or laid k [])) ≡ true → (r.stops < length stops) × LowLevel (stop_in (get_or stops r.stops [])).level

pub record WentOn (laid : List (List ℕ)) (k : ℕ) (stops : List (List ℕ)) (r r' : Reached) : Type 0 where
  pub count : r'.stops ≡ elim (new_row (view tap_in laid k) (tap_in (get_or laid k []))) [ true ↦ suc r.stops | false ↦ r.stops ]
  pub at_stop : AtStop stops r'

-- A laid tap is one of the taps, and its node and port are its wire's target.
pub record TapOn (b : Board) (ts : List Groups.Tap) (row : List ℕ) : Type 0 where
  pub member : Memᴰ (tap_in row) ts
  pub node : get_or row 5 0 ≡ target_node b (get_or row 7 0)
  pub port : get_or row 6 0 ≡ target_port b (get_or row 7 0)

-- How many rows taps in order begin.
abbrev pub rows_begun : List Groups.Tap → ℕ
rows_begun [] = 0
rows_begun (t ∷ l) = elim (new_row l t) [ true ↦ suc (rows_begun l) | false ↦ rows_begun l ]

-- The numbers of the laid taps and of their stops are in range, and there is a stop for each row.
pub record LaidInRange (pages nodes wires facts groups laid : List (List ℕ)) (n : ℕ) (stops : List (List ℕ)) (claims : ℕ) : Type 0 where
  pub on_laid : n ≤ length laid
  pub lanes : (k : ℕ) → k < n → LaneInRange pages nodes wires facts groups (field laid k 0) (field laid k 1)
  pub tap_room : (k : ℕ) → k < n → TAP_RESERVE ≤ field laid k 3
  pub tap_row : (k : ℕ) → k < n → field laid k 2 < MISSING
  pub on_stops : claims ≤ length stops
  pub levels : (i : ℕ) → i < claims → LowLevel (stop_in (get_or stops i [])).level
  pub a_stop_each : rows_begun (view tap_in laid n) ≡ claims
