-- How the code lists what bears on corners: bricks, rerouters of the bus, and a question for each wire that turns. No rule stands here.
use Rattle.std.specs.Prelude.{◌≡◌, ℕ, ◌+◌, ◌<◌, ◌≤◌, List, [], ◌∷◌, length, get_or, slice_index, slice_index_or}
use Rattle.sheet.specs.Table.{MISSING}
use Rattle.board.specs.Board.{Board, field}
use Rattle.board.specs.Rows.{REROUTER_SIZE, rerouter_cell, brick_cell}
use Rattle.board.specs.Tables.{nodes_alone}
use Rattle.routes.specs.Bus
use Rattle.routes.specs.Bus.{Rerouter}
use Rattle.routes.specs.Buffers.{rerouter_in}
use Rattle.routes_beside.specs.Beside.{count_on, key_at, ItemIs, BrickItem}
use Rattle.routes_turns.specs.CornerItems.{EDGE, is_beside}
use Rattle.routes_corners.specs.CornerTables.{BoardOf, Classed, EndsThere}
use Rattle.routes_corners.specs.Handed.{CellRows}
use Rattle.routes_corners.specs.Writing.{EndsOf}

-- A table has the counts of nodes with a row on each of the 64 pages.
pub record CountsOf (nodes : List (List ℕ)) (counts : List ℕ) : Type 0 where
  pub long : length counts ≡ 64
  pub count : (p : ℕ) → p < 64 → slice_index counts p ≡ count_on nodes p

-- A row of numbers is a rerouter's item.
abbrev pub BesideIs : List (List ℕ) → Rerouter → List ℕ → Type 0
BesideIs nodes k r = ItemIs (length nodes) (is_beside (nodes_alone nodes) k) (rerouter_cell k.x k.y) (key_at nodes k.page k.row) r

-- The item of a question: x, end and key are those of its sink's brick.
abbrev pub question_of : List ℕ → ℕ → ℕ → ℕ → List ℕ
question_of brick y sink class = slice_index brick 0 ∷ slice_index brick 1 ∷ y ∷ sink ∷ class ∷ 0 ∷ slice_index brick 6 ∷ 0 ∷ []

abbrev pub question_row : (nodes facts : List (List ℕ)) → List ℕ → List (List ℕ) → ℕ → List ℕ
question_row nodes facts classes items w = question_of (slice_index_or items (field facts w 3) []) (field nodes (field facts w 2) 9) (field facts w 3) (slice_index classes w)

-- A wire's row of facts, its class and its ends are there.
pub record TurnThere (nodes facts : List (List ℕ)) (classes : List ℕ) (w : ℕ) : Type 0 where
  pub on_facts : w < length facts
  pub on_classes : w < length classes
  pub class : get_or classes w 0 < 8192
  pub ends : EndsThere nodes facts w

-- What is asked for can be listed: no more than the wires of a sheet, no corner reaches beyond the edge, and no sink is wider than 1,000 levels.
pub record TurnsListed (nodes facts : List (List ℕ)) (classes list : List ℕ) (n : ℕ) : Type 0 where
  pub few : n ≤ 8192
  pub list_long : n ≤ length list
  pub there : (q : ℕ) → q < n → TurnThere nodes facts classes (slice_index list q)
  pub low : (q : ℕ) → q < n → (brick_cell (nodes_alone nodes) (field facts (slice_index list q) 3)).x1 ≤ EDGE
  pub wide : (q : ℕ) → q < n → (brick_cell (nodes_alone nodes) (field facts (slice_index list q) 3)).x1 ≤ field nodes (field facts (slice_index list q) 3) 8 + 2000
  pub flat : (q : ℕ) → q < n → field nodes (field facts (slice_index list q) 2) 9 + REROUTER_SIZE ≤ EDGE

-- The items are those of n wires in a list and of the first m rerouters in the buffer.
pub record ItemsStored (nodes facts : List (List ℕ)) (classes list : List ℕ) (n : ℕ) (rerouters : List (List ℕ)) (m : ℕ) (items : List (List ℕ)) : Type 0 where
  pub bricks : (i : ℕ) → i < length nodes → BrickItem nodes facts items i
  pub beside : (i : ℕ) → i < m → BesideIs nodes (rerouter_in (slice_index_or rerouters i [])) (slice_index_or items (length nodes + i) [])
  pub questions : (q : ℕ) → q < n → slice_index_or items (length nodes + m + q) [] ≡ question_row nodes facts classes items (slice_index list q)

-- The tables are a board's with its facts and classes, the buffer's rows those of a bus, and the wires listed have the ends that their facts name.
pub record TurnsOf (b : Board) (bus : Bus.Bus) (pages nodes wires facts : List (List ℕ)) (classes list : List ℕ) (n : ℕ) (rerouters : List (List ℕ)) (m : ℕ) : Type 0 where
  pub board : BoardOf b pages nodes wires facts
  pub wires_few : length wires ≤ MISSING
  pub classed : Classed wires classes (length wires)
  pub rows : CellRows bus.rerouters rerouters
  pub count : m ≡ length bus.rerouters
  pub listed : (q : ℕ) → q < n → slice_index list q < length wires
  pub ends : (q : ℕ) → q < n → EndsOf b facts (slice_index list q)
