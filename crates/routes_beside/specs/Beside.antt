-- How the code answers what is asked of rows. The items are the bricks, by the nodes' numbers, and then two for each tap, its source and its gate-side rerouter. An item's
-- key tells its row of its page from all others. No rule stands here.
use Rattle.std.specs.Prelude.{ℕ, ◌+◌, ◌*◌, ◌<◌, ◌≤◌, ◌≡◌, Bool, true, false, ◌&&◌, List, [], eqb, ltb, length, get_or}
use Rattle.base.specs.Lists.{keep, upto}
use Rattle.board.specs.Board.{field, given}
use Rattle.board.specs.Rows
use Rattle.board.specs.Rows.{nodes_on, brick_cell, rerouter_cell}
use Rattle.board.specs.Tables.{nodes_alone}
use Rattle.routes.specs.Rerouters.{TAP_RESERVE}
use Rattle.routes_taps.specs.Asking.{Candidate, source_in, gate_side_in, source_item, gate_side_item}

-- How many nodes have a row on a page, and how many on the pages before it.
abbrev pub count_on : List (List ℕ) → ℕ → ℕ
count_on nodes p = length (nodes_on (nodes_alone nodes) p)

unfoldable pub rows_before : List (List ℕ) → ℕ → ℕ
rows_before nodes p = length (keep (λ i. given (field nodes i 10) && ltb (field nodes i 10) p) (upto (length nodes)))

-- The key of a row of a page.
abbrev pub key_at : List (List ℕ) → ℕ → ℕ → ℕ
key_at nodes page row = rows_before nodes page + row

-- A table has the first keys of the pages, of which there are 64.
pub record Bases (nodes : List (List ℕ)) (bases : List ℕ) : Type 0 where
  pub long : length bases ≡ 64
  pub first : (p : ℕ) → p < 64 → get_or bases p 0 ≡ rows_before nodes p

-- A row of numbers is an item: its cell and its key, or a key that does not come.
abbrev pub cell_in : List ℕ → Rows.Cell
cell_in r = record { x0 = get_or r 0 0; x1 = get_or r 1 0; y0 = get_or r 2 0; y1 = get_or r 3 0 }

pub record ItemIs (last : ℕ) (there : Bool) (c : Rows.Cell) (key : ℕ) (r : List ℕ) : Type 0 where
  pub cell : there ≡ true → cell_in r ≡ c
  pub keyed : there ≡ true → get_or r 6 0 ≡ key
  pub absent : there ≡ false → get_or r 6 0 ≡ last

-- Item i is node i.
abbrev pub BrickIs : (nodes facts : List (List ℕ)) → ℕ → List ℕ → Type 0
BrickIs nodes facts i r =
    ItemIs (length nodes) (given (field nodes i 10)) (brick_cell (nodes_alone nodes) i) (key_at nodes (field nodes i 10) (field facts i 0)) r

abbrev pub BrickItem : (nodes facts items : List (List ℕ)) → ℕ → Type 0
BrickItem nodes facts items i = BrickIs nodes facts i (get_or items i [])

-- Item j is a candidate, if it is asked for.
abbrev pub AskedIs : List (List ℕ) → Bool → Candidate → List ℕ → Type 0
AskedIs nodes there c r = ItemIs (length nodes) there (rerouter_cell c.x c.y) (key_at nodes c.page c.row) r

abbrev pub AskedItem : (nodes items : List (List ℕ)) → Bool → Candidate → ℕ → Type 0
AskedItem nodes items there c j = AskedIs nodes there c (get_or items j [])

abbrev pub TapItems : (nodes laid asked items : List (List ℕ)) → ℕ → Type 0
TapItems nodes laid asked items k =
    AskedItem nodes items (eqb (field asked k 2) 1) (source_in laid asked k) (source_item (length nodes) k)
    × AskedItem nodes items (eqb (field asked k 3) 1) (gate_side_in laid asked k) (gate_side_item (length nodes) k)

pub record Items (nodes facts laid asked : List (List ℕ)) (n : ℕ) (items : List (List ℕ)) : Type 0 where
  pub bricks : (i : ℕ) → i < length nodes → BrickItem nodes facts items i
  pub taps : (k : ℕ) → k < n → TapItems nodes laid asked items k

-- The numbers of a node with a row are in range: there are 64 pages, and its cell ends where a number of 32 bits can be.
pub record BrickInRange (nodes facts : List (List ℕ)) (i : ℕ) : Type 0 where
  pub page : field nodes i 10 < 64
  pub row : field facts i 0 < count_on nodes (field nodes i 10)
  pub end_x : (brick_cell (nodes_alone nodes) i).x1 < 4294967296
  pub end_y : (brick_cell (nodes_alone nodes) i).y1 < 4294967296

pub record AskedInRange (nodes : List (List ℕ)) (c : Candidate) : Type 0 where
  pub page : c.page < 64
  pub row : c.row < count_on nodes c.page
  pub x : c.x < 4294967290
  pub y : c.y < 4294967290

pub record BricksAskable (nodes facts : List (List ℕ)) : Type 0 where
  pub few : length nodes ≤ 4096
  pub on_facts : length nodes ≤ length facts
  pub in_range : (i : ℕ) → i < length nodes → given (field nodes i 10) ≡ true → BrickInRange nodes facts i

pub record TapAskable (nodes laid asked : List (List ℕ)) (k : ℕ) : Type 0 where
  pub source : field asked k 2 ≡ 1 → AskedInRange nodes (source_in laid asked k)
  pub gate_side : field asked k 3 ≡ 1 → AskedInRange nodes (gate_side_in laid asked k)
  pub room : TAP_RESERVE ≤ field laid k 3

pub record TapsAskable (nodes laid asked : List (List ℕ)) (n : ℕ) : Type 0 where
  pub few : n ≤ 8192
  pub on_laid : n ≤ length laid
  pub on_asked : n ≤ length asked
  pub each : (k : ℕ) → k < n → TapAskable nodes laid asked k

-- What is asked of rows can be answered: the numbers are in range, there is room for the items and their flags, and no flag of theirs is set.
pub record RowsAskable (nodes facts laid asked items : List (List ℕ)) (flags : List ℕ) : Type 0 where
  pub bricks : BricksAskable nodes facts
  pub taps : TapsAskable nodes laid asked (length laid)
  pub on_items : length nodes + 2 * length laid ≤ length items
  pub on_flags : length nodes + 2 * length laid ≤ length flags
  pub no_flag : (i : ℕ) → i < length nodes + 2 * length laid → get_or flags i 0 ≡ 0
