-- An accepted board: what the sheet's limits and ranges and refusals 5 and 6 leave of its numbers, as held. It speaks of the board alone and not of its sheet, so that a
-- board made otherwise can be accepted too; for that y and min_y may pass the sheet's range by Y_SLACK.
use Rattle.std.specs.Prelude.{ℕ, ◌+◌, ◌-◌, ◌≤◌, ◌<◌, ◌≡◌, true, List, length}
use Rattle.sheet.specs.Table.{ORIGIN, COORDINATE_MOST, ID_MOST, PORT_MOST, HALF_MOST, PAGE_MOST, library_most}
use Rattle.board.specs.Board.{Board, min_y_of, z_of, has_gutter, id_of, half_x_of, half_y_of, x_of, y_of, page_of, placed, has_row, source_node, source_port, target_node, target_port}

abbrev pub COORDINATE_HIGH : ℕ
COORDINATE_HIGH = ORIGIN + COORDINATE_MOST

abbrev pub Y_SLACK : ℕ
Y_SLACK = 2000

abbrev pub Y_LOW : ℕ
Y_LOW = ORIGIN - COORDINATE_MOST - Y_SLACK

abbrev pub Y_HIGH : ℕ
Y_HIGH = COORDINATE_HIGH + Y_SLACK

-- A record that is not there reads as zeros, so what bounds a number from above holds of every index; a missing number is held above all, so what bounds one from below holds of it too.
pub record Accepted (b : Board) : Type 0 where
  -- S12: at most so many records.
  pub few_pages : length b.pages ≤ library_most.pages
  pub few_nodes : length b.nodes ≤ library_most.nodes
  pub few_chips : length b.chips ≤ library_most.chips
  pub few_inner : length b.inner ≤ library_most.inner
  pub few_execs : length b.execs ≤ library_most.execs
  pub few_wires : length b.wires ≤ library_most.wires
  -- S11: the numbers of a page, of a node, of a wire.
  pub min_y_low : (p : ℕ) → p < length b.pages → Y_LOW ≤ min_y_of b p
  pub min_y : (p : ℕ) → has_gutter b p ≡ true → min_y_of b p ≤ Y_HIGH
  pub z : (p : ℕ) → z_of b p ≤ COORDINATE_HIGH
  pub id : (i : ℕ) → id_of b i ≤ ID_MOST
  pub half_x : (i : ℕ) → half_x_of b i ≤ HALF_MOST
  pub half_y : (i : ℕ) → half_y_of b i ≤ HALF_MOST
  pub x : (i : ℕ) → placed b i ≡ true → x_of b i ≤ COORDINATE_HIGH
  pub y_low : (i : ℕ) → i < length b.nodes → Y_LOW ≤ y_of b i
  pub y : (i : ℕ) → placed b i ≡ true → y_of b i ≤ Y_HIGH
  pub page : (i : ℕ) → has_row b i ≡ true → page_of b i ≤ PAGE_MOST
  pub source : (w : ℕ) → (source_node b w ≤ ID_MOST) × (source_port b w ≤ PORT_MOST)
  pub target : (w : ℕ) → (target_node b w ≤ ID_MOST) × (target_port b w ≤ PORT_MOST)
  -- E5, E6: a row is on a page of the board, and has a placement.
  pub page_there : (i : ℕ) → i < length b.nodes → has_row b i ≡ true → page_of b i < length b.pages
  pub row_placed : (i : ℕ) → has_row b i ≡ true → placed b i ≡ true

-- The nodes of an accepted board: what a function that takes its nodes alone relies on.
abbrev pub AcceptedNodes : List (List ℕ) → Type 0
AcceptedNodes nodes = (b : Board) × (b.nodes ≡ nodes) × Accepted b
