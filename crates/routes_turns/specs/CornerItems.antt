-- How the code holds what bears on corners: the bricks, then the rerouters of the bus, then the wires that turn, in rows of eight numbers (routes_rows Turning). No
-- rule stands here.
use Rattle.std.specs.Prelude.{ℕ, ◌+◌, ◌<◌, ◌≤◌, ◌≡◌, Bool, true, ◌&&◌, List, [], ◌∷◌, eqb, ltb, length, get_or}
use Rattle.sheet.specs.Table.{MISSING}
use Rattle.board.specs.Board.{Board, x_of, y_of, page_of}
use Rattle.board.specs.Rows.{REROUTER_SIZE, rerouter_cell, brick_cell, row_of}
use Rattle.board.specs.Tables.{held}
use Rattle.routes.specs.Bus.{Rerouter, Bus, port_of, same_port}
use Rattle.routes_beside.specs.Beside.{count_on, key_at, ItemIs, BrickItem}
use Rattle.routes_rows.specs.Booking.{key_of}
use Rattle.routes_rows.specs.Turning.{sink_x, sink_end, corner_y, sink_in, class_in}
use Rattle.routes_turns.specs.Deciding.{source_of, sink_of, level_by, decided}

-- Whether a row is one of the board's.
abbrev pub is_row : Board → ℕ → ℕ → Bool
is_row b page row = ltb page 64 && ltb row (count_on b.nodes page)

-- No corner reaches beyond the edge: so a rerouter there, whose cell may end past 32 bits, meets none.
abbrev pub EDGE : ℕ
EDGE = 4294967290

abbrev pub is_inside : ℕ → ℕ → Bool
is_inside x y = ltb x EDGE && ltb y EDGE

abbrev pub is_beside : Board → Rerouter → Bool
is_beside b k = is_row b k.page k.row && is_inside k.x k.y

-- A rerouter's item, where it stands beside a row of the board and inside the edge.
abbrev pub BesideItem : Board → List (List ℕ) → Rerouter → ℕ → Type 0
BesideItem b items k i = ItemIs (length b.nodes) (is_beside b k) (rerouter_cell k.x k.y) (key_at b.nodes k.page k.row) (get_or items i [])

-- Those of a bus, behind the bricks, the oldest first.
abbrev pub BesideItems : Board → List (List ℕ) → List Rerouter → Type 0
BesideItems b items [] = Unit {0}
BesideItems b items (k ∷ l) = BesideItem b items k (length b.nodes + length l) × BesideItems b items l

-- A question's item: wire w, whose sink stands in a row of the board; wires have one class where they have one target port.
pub record QuestionItem (b : Board) (class : ℕ → ℕ) (items : List (List ℕ)) (w i : ℕ) : Type 0 where
  pub wire : w < length b.wires
  pub x : sink_x items i ≡ x_of b (sink_of b w)
  pub end : sink_end items i ≡ (brick_cell b (sink_of b w)).x1
  pub y : corner_y items i ≡ y_of b (source_of b w)
  pub sink : sink_in items i ≡ sink_of b w
  pub class_is : class_in items i ≡ class w
  pub key : key_of items i ≡ key_at b.nodes (page_of b (sink_of b w)) (row_of b (sink_of b w))
  pub on_row : is_row b (page_of b (sink_of b w)) (row_of b (sink_of b w)) ≡ true
  pub low : (brick_cell b (sink_of b w)).x1 ≤ EDGE
  pub flat : y_of b (source_of b w) + REROUTER_SIZE ≤ EDGE
  pub sink_small : sink_of b w ≡ MISSING → ⊥
  pub class_small : class w ≡ MISSING → ⊥

-- Those of wires in order, behind the bricks and the rerouters, the newest first in the list.
abbrev pub QuestionItems : Board → (ℕ → ℕ) → List (List ℕ) → ℕ → List ℕ → Type 0
QuestionItems b class items first [] = Unit {0}
QuestionItems b class items first (w ∷ l) = QuestionItem b class items w (first + length l) × QuestionItems b class items first l

pub record CornerItems (b : Board) (bus : Bus) (class : ℕ → ℕ) (facts items : List (List ℕ)) (first : ℕ) (ws : List ℕ) : Type 0 where
  pub first_is : first ≡ length b.nodes + length bus.rerouters
  pub bricks : (i : ℕ) → i < length b.nodes → BrickItem b.nodes facts items i
  pub beside : BesideItems b items bus.rerouters
  pub questions : QuestionItems b class items first ws
  pub classed : (v w : ℕ) → v < length b.wires → w < length b.wires → eqb (class v) (class w) ≡ same_port (port_of b v) (port_of b w)

-- The answers are the levels of the wires, each by those decided before it.
abbrev pub LevelsHeld : Board → Bus → List ℕ → List ℕ → Type 0
LevelsHeld b bus answers [] = Unit {0}
LevelsHeld b bus answers (w ∷ l) = (get_or answers (length l) 0 ≡ held (level_by b bus (decided b bus l) w)) × LevelsHeld b bus answers l
