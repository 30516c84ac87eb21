-- How the code finds which of a sink's levels are blocked, all in one walk: for each level the furthest end of the cells that begin before it is over. The levels are those of a span, a cell:
-- as many corners as stand beside one another from its x0 to its x1, each as high as it is. No rule stands here.
use Rattle.std.specs.Prelude.{ℕ, zero, suc, ◌+◌, ◌*◌, ◌≤◌, ◌<◌, ◌≡◌, Bool, false, ◌||◌, List, ltb, length, get_or}
use Rattle.base.specs.Lists.{any}
use Rattle.board.specs.Rows
use Rattle.board.specs.Rows.{cells_overlap, REROUTER_SIZE}
use Rattle.routes.specs.Levels.{STAGGER_STEP, levels_in}
use Rattle.routes_rows.specs.Booking.{cell_of}
use Rattle.routes_rows.specs.declared.book.Cell.{Cell}

-- The levels of a span: how many there are, the k-th, and a corner's cell there.
abbrev pub count_in : Cell → ℕ
count_in span = levels_in span.x0 span.x1

abbrev pub level_no : Cell → ℕ → ℕ
level_no span k = span.x0 + STAGGER_STEP * k

abbrev pub corner_cell : Cell → ℕ → Rows.Cell
corner_cell span k = record { x0 = level_no span k; x1 = level_no span k + REROUTER_SIZE; y0 = span.y0; y1 = span.y1 }

-- Whether one of the first j ends lies beyond x.
abbrev pub beyond : List ℕ → ℕ → ℕ → Bool
beyond ends x zero = false
beyond ends x (suc j) = beyond ends x j || ltb x (get_or ends j 0)

abbrev pub blocked : Cell → List ℕ → ℕ → Bool
blocked span ends k = beyond ends (level_no span k) (suc k)

-- The ends have come to block, besides what they did, the levels that pass a test; those past the levels are left.
pub record Blocks (span : Cell) (test : ℕ → Bool) (ends ends' : List ℕ) : Type 0 where
  pub long : length ends' ≡ length ends
  pub more : (k : ℕ) → k < count_in span → blocked span ends' k ≡ blocked span ends k || test k
  pub rest : (k : ℕ) → count_in span ≤ k → get_or ends' k 0 ≡ get_or ends k 0

-- Whether a cell, or one of several, overlaps a corner's cell at level k.
abbrev pub cell_meets : Cell → Cell → ℕ → Bool
cell_meets cell span k = cells_overlap (cell_of cell) (corner_cell span k)

abbrev pub cells_meet : List Rows.Cell → Cell → ℕ → Bool
cells_meet cells span k = any (λ d. cells_overlap d (corner_cell span k)) cells

-- Each end is raised to those before it, so that one end tells of a level.
pub record Spread (count : ℕ) (ends ends' : List ℕ) : Type 0 where
  pub long : length ends' ≡ length ends
  pub tells : (k x : ℕ) → k < count → ltb x (get_or ends' k 0) ≡ beyond ends x (suc k)
  pub rest : (k : ℕ) → count ≤ k → get_or ends' k 0 ≡ get_or ends k 0

-- No end lies beyond anything; or none from the first so many on.
abbrev pub NoEnds : List ℕ → Type 0
NoEnds ends = (k : ℕ) → k < 1000 → get_or ends k 0 ≡ 0

abbrev pub NoEndsPast : ℕ → List ℕ → Type 0
NoEndsPast count ends = (k : ℕ) → count ≤ k → k < 1000 → get_or ends k 0 ≡ 0
