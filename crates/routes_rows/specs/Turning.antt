-- How the code decides corners row by row. The items are cells (bricks of the board and rerouters beside rows, `first` of them) and then questions, a wire that turns
-- each: x and end of its sink, y of its source, its sink, the class of its target port; column 6 is the key of the row, column 7 the order of keys. No rule stands here.
use Rattle.std.specs.Prelude.{ℕ, zero, suc, ◌-◌, Bool, true, false, not, ◌&&◌, List, [], ◌∷◌, eqb, ltb, length, set}
use Rattle.base.specs.Lists.{Found, none, at, any, keep}
use Rattle.sheet.specs.Table.{MISSING}
use Rattle.board.specs.Board.{field}
use Rattle.board.specs.Rows
use Rattle.board.specs.Rows.{cells_overlap, rerouter_cell}
use Rattle.board.specs.Tables.{held}
use Rattle.routes.specs.Levels.{levels_in, lowest, lightest}
use Rattle.routes_rows.specs.Booking.{item_cell, order_at, begins}

-- What is booked on a row: a cell, and of a corner its sink and its class.
pub record Entry : Type 0 where
  pub cell : Rows.Cell
  pub sink : ℕ
  pub class : ℕ

-- The questions' columns.
abbrev pub sink_x : List (List ℕ) → ℕ → ℕ
sink_x items i = field items i 0

abbrev pub sink_end : List (List ℕ) → ℕ → ℕ
sink_end items i = field items i 1

abbrev pub corner_y : List (List ℕ) → ℕ → ℕ
corner_y items i = field items i 2

abbrev pub sink_in : List (List ℕ) → ℕ → ℕ
sink_in items i = field items i 3

abbrev pub class_in : List (List ℕ) → ℕ → ℕ
class_in items i = field items i 4

-- Of what is booked: whether a corner at a level is clear of it, how many corners of a sink have the level, whether one is of a class.
abbrev pub clear_at : List Entry → ℕ → ℕ → Bool
clear_at booked y level = not (any (λ e. cells_overlap e.cell (rerouter_cell level y)) booked)

abbrev pub load_at : List Entry → ℕ → ℕ → ℕ
load_at booked sink level = length (keep (λ e. eqb e.sink sink && eqb e.cell.x0 level) booked)

abbrev pub of_class : List Entry → ℕ → Bool
of_class booked class = any (λ e. eqb e.class class) booked

-- The level of question i, by what is booked on its row: the lowest that is unused and clear, or of the clear ones the least loaded; none where a corner of its class stands.
unfoldable pub level_at : List (List ℕ) → List Entry → ℕ → Found
level_at items booked i =
    elim (of_class booked (class_in items i)) [
      | true ↦ none
      | false ↦
          let n : ℕ = levels_in (sink_x items i) (sink_end items i) in
          elim (lowest (λ l. eqb (load_at booked (sink_in items i) l) 0 && clear_at booked (corner_y items i) l) (sink_x items i) n)
          [ at l ↦ at l | none ↦ lightest (clear_at booked (corner_y items i)) (load_at booked (sink_in items i)) (sink_x items i) n ]
    ]

-- What item i books: a cell, or a corner where it has a level.
abbrev pub book_corner : List (List ℕ) → ℕ → Found → List Entry → List Entry
book_corner items i none booked = booked
book_corner items i (at l) booked = record { cell = rerouter_cell l (corner_y items i); sink = sink_in items i; class = class_in items i } ∷ booked

abbrev pub book_item : List (List ℕ) → ℕ → ℕ → List Entry → List Entry
book_item items first i booked =
    elim (ltb i first)
    [ true ↦ record { cell = item_cell items i; sink = MISSING; class = MISSING } ∷ booked | false ↦ book_corner items i (level_at items booked i) booked ]

abbrev pub entries_on : Bool → List Entry → List Entry
entries_on true booked = []
entries_on false booked = booked

-- What is booked on the row at hand after so many items, newest first.
unfoldable pub entries_after : List (List ℕ) → ℕ → ℕ → List Entry
entries_after items first zero = []
entries_after items first (suc p) = book_item items first (order_at items p) (entries_on (begins items p) (entries_after items first p))

-- The levels of the questions, by their numbers behind the cells, after so many items: MISSING where there is none.
abbrev pub answer_if : Bool → List ℕ → ℕ → ℕ → List ℕ
answer_if true answers q level = answers
answer_if false answers q level = set answers q level

unfoldable pub answers_after : List (List ℕ) → ℕ → ℕ → List ℕ → List ℕ
answers_after items first zero answers = answers
answers_after items first (suc p) answers =
    answer_if (ltb (order_at items p) first) (answers_after items first p answers) (order_at items p - first)
    (held (level_at items (entries_on (begins items p) (entries_after items first p)) (order_at items p)))
