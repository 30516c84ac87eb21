-- How the code decides corners. What is booked on the row at hand is read off the items and the answers; the cells of it that can overlap something stand in a slice besides, as many as it holds. A question
-- without a corner books a blank, which overlaps nothing and is of no sink and no class. No rule stands here.
use Rattle.std.specs.Prelude.{ℕ, zero, suc, ◌+◌, ◌-◌, ◌≤◌, ◌<◌, ◌≡◌, Bool, true, false, ◌&&◌, List, [], ◌∷◌, Option, min, eqb, ltb, leb, length, get_or}
use Rattle.sheet.specs.Table.{MISSING}
use Rattle.base.specs.Lists.{Found, none, at, any}
use Rattle.board.specs.Rows
use Rattle.board.specs.Rows.{cells_overlap, rerouter_cell, REROUTER_SIZE}
use Rattle.board.specs.Tables.{held}
use Rattle.board.specs.Index.{found_of}
use Rattle.routes.specs.Levels.{levels_in, lowest, lightest}
use Rattle.routes_rows.specs.Blocked.{count_in, level_no, corner_cell, blocked, NoEnds, NoEndsPast}
use Rattle.routes_rows.specs.Booking.{cell_of, item_cell, key_of, order_at, begins, no_cell}
use Rattle.routes_rows.specs.Notes.{NOTES, CLASSES, row_no, load_no, AllPlain, NotesLow, Noted}
use Rattle.routes_rows.specs.Turning.{Entry, sink_x, sink_end, corner_y, sink_in, class_in, clear_at, load_at, of_class, level_at, entries_on, answer_if}
use Rattle.routes_rows.specs.declared.book.Cell.{Cell}

-- As many cells as the slice holds; and of n cells, how many are in it.
abbrev pub SLICE_MOST : ℕ
SLICE_MOST = 12800

abbrev pub in_slice : ℕ → ℕ
in_slice n = min n SLICE_MOST

-- The level that an answer tells: one whose corner ends within the numbers, or none.
abbrev pub LEVELS_END : ℕ
LEVELS_END = 4294967294

abbrev pub level_in : ℕ → Found
level_in a = elim (ltb a LEVELS_END) [ true ↦ at a | false ↦ none ]

-- What item i books, where its level is found or not.
abbrev pub cell_entry : List (List ℕ) → ℕ → Entry
cell_entry items i = record { cell = item_cell items i; sink = MISSING; class = MISSING }

abbrev pub corner_box : ℕ → Found → Rows.Cell
corner_box y none = cell_of no_cell
corner_box y (at l) = rerouter_cell l y

abbrev pub if_found : Found → ℕ → ℕ
if_found none n = MISSING
if_found (at l) n = n

abbrev pub corner_for : (y sink class : ℕ) → Found → Entry
corner_for y sink class f = record { cell = corner_box y f; sink = if_found f sink; class = if_found f class }

abbrev pub corner_entry : List (List ℕ) → ℕ → Found → Entry
corner_entry items i f = corner_for (corner_y items i) (sink_in items i) (class_in items i) f

abbrev pub blank : Entry
blank = record { cell = cell_of no_cell; sink = MISSING; class = MISSING }

abbrev pub entry_for : List (List ℕ) → ℕ → ℕ → Found → Entry
entry_for items first i f = elim (ltb i first) [ true ↦ cell_entry items i | false ↦ corner_entry items i f ]

-- What the item that comes p-th has booked, by the answers.
abbrev pub entry_at : List (List ℕ) → ℕ → List ℕ → ℕ → Entry
entry_at items first answers p = entry_for items first (order_at items p) (level_in (get_or answers (order_at items p - first) 0))

-- What is booked on the row at hand after so many items, newest first; and on the row of the item that comes p-th, before it.
abbrev pub seen : List (List ℕ) → ℕ → List ℕ → ℕ → List Entry
seen items first answers zero = []
seen items first answers (suc p) = entry_at items first answers p ∷ entries_on (begins items p) (seen items first answers p)

abbrev pub row_before : List (List ℕ) → ℕ → List ℕ → ℕ → List Entry
row_before items first answers p = entries_on (begins items p) (seen items first answers p)

-- Whether the item before the one that comes k-th is of the row with a key.
abbrev pub follows_row : List (List ℕ) → ℕ → ℕ → Bool
follows_row items zero key = false
follows_row items (suc k) key = eqb (key_of items (order_at items k)) key

-- The span of a question's levels; a cell has none.
abbrev pub span_of : List (List ℕ) → ℕ → Cell
span_of items i = record { x0 = sink_x items i; x1 = sink_end items i; y0 = corner_y items i; y1 = corner_y items i + REROUTER_SIZE }

abbrev pub span_for : List (List ℕ) → ℕ → ℕ → Cell
span_for items first i = elim (ltb i first) [ true ↦ no_cell | false ↦ span_of items i ]

-- The ends block the levels that entries overlap.
abbrev pub entries_meet : List Entry → Cell → ℕ → Bool
entries_meet booked span k = any (λ e. cells_overlap e.cell (corner_cell span k)) booked

abbrev pub BlockedBy : Cell → List Entry → List ℕ → Type 0
BlockedBy span booked ends = (k : ℕ) → k < count_in span → blocked span ends k ≡ entries_meet booked span k

-- The ends block by n cells of which the slice holds the first: no level that is not overlapped, and all that are where it holds all.
pub record BlockedFor (n : ℕ) (span : Cell) (booked : List Entry) (ends : List ℕ) : Type 0 where
  pub some : (k : ℕ) → k < count_in span → blocked span ends k ≡ true → entries_meet booked span k ≡ true
  pub whole : n ≤ SLICE_MOST → BlockedBy span booked ends

-- The level in a span, by what is booked: `level_at` of a question.
unfoldable pub level_by : List Entry → Cell → ℕ → ℕ → Found
level_by booked span sink class =
    elim (of_class booked class) [
      | true ↦ none
      | false ↦
          elim (lowest (λ l. eqb (load_at booked sink l) 0 && clear_at booked span.y0 l) span.x0 (count_in span))
          [ at l ↦ at l | none ↦ lightest (clear_at booked span.y0) (load_at booked sink) span.x0 (count_in span) ]
    ]

-- A level is clear where its end does not lie beyond it.
abbrev pub TellsClear : Cell → (ℕ → Bool) → List ℕ → Type 0
TellsClear span clear ends = (k : ℕ) → k < count_in span → leb (get_or ends k 0) (level_no span k) ≡ clear (level_no span k)

-- The loads of the levels, as noted.
abbrev pub TellsLoads : Cell → (ℕ → ℕ) → List ℕ → Type 0
TellsLoads span load notes = (k : ℕ) → k < count_in span → (load_no notes k ≡ load (level_no span k)) × (load (level_no span k) ≤ MISSING)

-- A question that can be answered: few levels, all of it within the numbers, a sink and a class.
pub record Askable (items : List (List ℕ)) (i : ℕ) : Type 0 where
  pub few : levels_in (sink_x items i) (sink_end items i) ≤ 1000
  pub low : corner_y items i < 4294967290
  pub has_sink : sink_in items i ≡ MISSING → ⊥
  pub class_few : class_in items i < CLASSES

-- What is asked for to read the row of the item that comes p-th, up to that item. Within a row the order rises: its cells come before its questions, and no answer of it is written over.
pub record RowFits (items : List (List ℕ)) (p first : ℕ) (answers : List ℕ) : Type 0 where
  pub inside : p < length items
  pub countable : p ≤ MISSING
  pub ordered : (q : ℕ) → q ≤ p → order_at items q < length items
  pub asks : (q : ℕ) → q ≤ p → first ≤ order_at items q → Askable items (order_at items q)
  pub there : (q : ℕ) → q ≤ p → first ≤ order_at items q → order_at items q - first < length answers
  pub few : (q : ℕ) → q ≤ p → first ≤ order_at items q → order_at items q - first < CLASSES
  pub rising : (q : ℕ) → suc q ≤ p → begins items (suc q) ≡ false → order_at items q < order_at items (suc q)

-- How many questions of the row can have been answered after so many items: its questions come by their numbers.
abbrev pub asked : List (List ℕ) → ℕ → ℕ → ℕ
asked items first zero = 0
asked items first (suc p) = suc (order_at items p) - first

-- A level sought in a span, and the notes that are then left behind.
pub record Sought (span : Cell) (sink class : ℕ) (notes notes' : List ℕ) (r : Option ℕ) : Type 0 where
  pub long : length notes' ≡ length notes
  pub ends : (k : ℕ) → k < 1000 → get_or notes' k 0 ≡ get_or notes k 0
  pub rows : row_no notes' ≡ row_no notes
  pub noted : (booked : List Entry) (most : ℕ) → Noted booked most notes → Noted booked most notes'
  pub tells : (booked : List Entry) (most : ℕ) → Noted booked most notes → TellsClear span (clear_at booked span.y0) notes → r ≡ found_of (level_by booked span sink class)

-- What is asked for to answer the question that comes p-th, behind n cells of its row.
pub record Turnable (items : List (List ℕ)) (p first n : ℕ) (notes answers : List ℕ) : Type 0 where
  pub row : RowFits items p first answers
  pub question : first ≤ order_at items p
  pub blocks : BlockedFor n (span_of items (order_at items p)) (row_before items first answers p) notes
  pub past : NoEndsPast (count_in (span_of items (order_at items p))) notes
  pub noted : Noted (row_before items first answers p) (order_at items p - first) notes

-- Its level, and the notes that are then left behind.
pub record Weighed (items : List (List ℕ)) (p first : ℕ) (answers notes notes' : List ℕ) (found : Option ℕ) : Type 0 where
  pub told : found ≡ found_of (level_at items (row_before items first answers p) (order_at items p))
  pub within : (l : ℕ) → level_at items (row_before items first answers p) (order_at items p) ≡ at l → l < LEVELS_END
  pub long : length notes' ≡ length notes
  pub no_ends : NoEnds notes'
  pub rows : row_no notes' ≡ row_no notes
  pub noted : Noted (row_before items first answers p) (order_at items p - first) notes'

-- A corner is noted, where the level is one.
pub record Laid (sink class : ℕ) (f : Found) (notes notes' : List ℕ) : Type 0 where
  pub long : length notes' ≡ length notes
  pub ends : (k : ℕ) → k < 1000 → get_or notes' k 0 ≡ get_or notes k 0
  pub rows : row_no notes' ≡ row_no notes
  pub noted : (y : ℕ) (booked : List Entry) (most : ℕ) → Noted booked most notes → Noted (corner_for y sink class f ∷ booked) (suc most) notes'

-- What is asked for to decide the item that comes p-th, behind n cells of its row.
pub record Decidable (items : List (List ℕ)) (p first n : ℕ) (notes answers : List ℕ) : Type 0 where
  pub row : RowFits items p first answers
  pub low : NotesLow notes
  pub rows : row_no notes < MISSING
  pub blocks : first ≤ order_at items p → BlockedFor n (span_of items (order_at items p)) (row_before items first answers p) notes
  pub past : NoEndsPast (count_in (span_for items first (order_at items p))) notes
  pub noted : 0 < n → Noted (row_before items first answers p) (order_at items p - first) notes
  pub plain : n ≡ 0 → AllPlain (row_before items first answers p)

-- What is then left behind, and the cell booked.
pub record Decided (items : List (List ℕ)) (p first : ℕ) (notes answers notes' answers' : List ℕ) (c : Cell) : Type 0 where
  pub cell : cell_of c ≡ (entry_for items first (order_at items p) (level_at items (row_before items first answers p) (order_at items p))).cell
  pub long : length notes' ≡ length notes
  pub no_ends : NoEnds notes'
  pub rows : row_no notes' ≤ row_no notes + 1
  pub noted : Noted (entry_for items first (order_at items p) (level_at items (row_before items first answers p) (order_at items p)) ∷ row_before items first answers p) (suc (order_at items p) - first) notes'
  pub told : answers' ≡ answer_if (ltb (order_at items p) first) answers (order_at items p - first) (held (level_at items (row_before items first answers p) (order_at items p)))
  pub within : first ≤ order_at items p → (l : ℕ) → level_at items (row_before items first answers p) (order_at items p) ≡ at l → l < LEVELS_END

-- What is asked for to answer all questions.
pub record TurnsFit (items : List (List ℕ)) (m first : ℕ) (notes answers : List ℕ) : Type 0 where
  pub inside : m ≤ length items
  pub countable : m ≤ MISSING
  pub ordered : (p : ℕ) → p < m → order_at items p < length items
  pub rising : (p : ℕ) → suc p < m → begins items (suc p) ≡ false → order_at items p < order_at items (suc p)
  pub asks : (p : ℕ) → p < m → first ≤ order_at items p → Askable items (order_at items p)
  pub there : (p : ℕ) → p < m → first ≤ order_at items p → order_at items p - first < length answers
  pub few : (p : ℕ) → p < m → first ≤ order_at items p → order_at items p - first < CLASSES
  pub notes_long : NOTES ≤ length notes
  pub fresh : (k : ℕ) → k < NOTES → get_or notes k 0 ≡ 0
