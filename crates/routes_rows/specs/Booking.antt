-- How the code books cells row by row. The items are the bricks of a board and then what is asked for, each in a row of eight numbers: x0, x1, y0, y1 of its cell,
-- page, row, the key of that row; column 7 of row p says which item comes p-th in the order of keys. No rule stands here.
use Rattle.std.specs.Prelude.{ℕ, zero, suc, ◌+◌, Bool, true, false, not, ◌||◌, List, [], ◌∷◌, eqb, ltb, get_or, set}
use Rattle.base.specs.Lists.{any}
use Rattle.board.specs.Board.{field}
use Rattle.board.specs.Rows
use Rattle.board.specs.Rows.{cells_overlap}
use Rattle.board.specs.Tables.{flag}
use Rattle.routes_rows.specs.declared.book.Cell.{Cell}

abbrev pub cell_of : Cell → Rows.Cell
cell_of c = record { x0 = c.x0; x1 = c.x1; y0 = c.y0; y1 = c.y1 }

-- The cell of an item: its first four columns.
abbrev pub row_cell : List ℕ → Rows.Cell
row_cell r = record { x0 = get_or r 0 0; x1 = get_or r 1 0; y0 = get_or r 2 0; y1 = get_or r 3 0 }

abbrev pub item_cell : List (List ℕ) → ℕ → Rows.Cell
item_cell items i = record { x0 = field items i 0; x1 = field items i 1; y0 = field items i 2; y1 = field items i 3 }

abbrev pub key_of : List (List ℕ) → ℕ → ℕ
key_of items i = field items i 6

abbrev pub order_at : List (List ℕ) → ℕ → ℕ
order_at items p = field items p 7

-- Whether one of several cells overlaps a cell; and clear of the cells booked on a row.
abbrev pub any_overlaps : List Rows.Cell → Rows.Cell → Bool
any_overlaps booked c = any (λ d. cells_overlap d c) booked

abbrev pub clear_of : List Rows.Cell → Rows.Cell → Bool
clear_of booked c = not (any_overlaps booked c)

-- Whether the item that comes p-th is the first of its row.
abbrev pub begins : List (List ℕ) → ℕ → Bool
begins items zero = true
begins items (suc p) = not (eqb (key_of items (order_at items p)) (key_of items (order_at items (suc p))))

-- An item is booked where it is one of the bricks, or clear of what is booked on its row.
abbrev pub takes : List (List ℕ) → ℕ → List Rows.Cell → ℕ → Bool
takes items bricks booked p = ltb (order_at items p) bricks || clear_of booked (item_cell items (order_at items p))

-- The cells booked on the row of the item that comes p-th, before it: those of an earlier row are forgotten where a row begins.
abbrev pub on_row : Bool → List Rows.Cell → List Rows.Cell
on_row true booked = []
on_row false booked = booked

abbrev pub book : Bool → Rows.Cell → List Rows.Cell → List Rows.Cell
book true c booked = c ∷ booked
book false c booked = booked

-- The cells booked on the row at hand after so many items, newest first.
unfoldable pub booked_after : List (List ℕ) → ℕ → ℕ → List Rows.Cell
booked_after items bricks zero = []
booked_after items bricks (suc p) =
    let before : List Rows.Cell = on_row (begins items p) (booked_after items bricks p) in
    book (takes items bricks before p) (item_cell items (order_at items p)) before

-- Whether the item that comes p-th is booked.
abbrev pub taken_at : List (List ℕ) → ℕ → ℕ → Bool
taken_at items bricks p = takes items bricks (on_row (begins items p) (booked_after items bricks p)) p

-- The flags of the items, by their numbers, after so many of them.
unfoldable pub flags_after : List (List ℕ) → ℕ → ℕ → List ℕ → List ℕ
flags_after items bricks zero flags = flags
flags_after items bricks (suc p) flags = set (flags_after items bricks p flags) (order_at items p) (flag (taken_at items bricks p))

abbrev pub no_cell : Cell
no_cell = record { x0 = 0; x1 = 0; y0 = 0; y1 = 0 }

-- The first n cells of a slice, newest first.
abbrev pub first_cells : List Cell → ℕ → List Rows.Cell
first_cells cells zero = []
first_cells cells (suc n) = cell_of (get_or cells n no_cell) ∷ first_cells cells n

-- How many cells count: none where a row begins, or where a brick is asked for.
abbrev pub unless : Bool → ℕ → ℕ
unless true n = 0
unless false n = n

abbrev pub count_after : Bool → ℕ → ℕ
count_after true n = n + 1
count_after false n = n
