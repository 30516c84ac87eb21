-- What the calls answer: a refusal, or the values of an accepted sheet.
use Rattle.std.specs.Prelude.{◌≡◌, ℕ, suc, ◌+◌, ◌<◌, ◌≤◌, max, true, false, List, [], ◌∷◌, ◌++◌, length, drop, replicate, nat_lt, slice_index, slice_index_or, Result, Ok, Err}
use Rattle.sheet.specs.declared.Counts.{Counts}
use Rattle.base.specs.declared.refusal.Reason.TheVariants.{NoRoom}
use Rattle.base.specs.declared.refusal.Refusal.{Refusal}
use Rattle.base.specs.Refusal.{refusal}
use Rattle.sheet.specs.declared.RowAt.{RowAt}
use Rattle.sheet.specs.Text.{line_of}
use Rattle.sheet.specs.Table.{SECTIONS}
use Rattle.sheet.specs.Record.{Line, unread, row}
use Rattle.sheet.specs.Reading.{Reading, refused, rows, counted, rows_from, sheet_lines}

-- how many rows of each section, after the rows that `counts` counts
unfoldable pub counted_all : List ℕ → List (List ℕ) → List ℕ
unfolding counted
counted_all counts [] = counts
counted_all counts (r ∷ rs) = counted_all (counted counts r) rs

abbrev pub counts_from : List ℕ → Counts
counts_from l =
    record { pages = slice_index l 0; nodes = slice_index l 1; chips = slice_index l 2; inner = slice_index l 3; execs = slice_index l 4; wires = slice_index l 5 }

-- how many rows of each section
unfoldable pub counts_of : List (List ℕ) → Counts
unfolding counted_all
counts_of l = counts_from (counted_all (replicate SECTIONS 0) l)

-- `check_sheet`
unfoldable pub checked_of : Reading → Result Counts Refusal
unfolding counts_of
checked_of (refused e) = Err e
checked_of (rows l) = Ok (counts_of l)

-- `read_sheet`, where `lent` rows are lent: E7 where they are fewer than the lines
unfoldable pub read_of : ℕ → Reading → Result Counts Refusal
unfolding counts_of
read_of lent (refused e) = Err e
read_of lent (rows l) = elim (nat_lt lent (length l)) [ true ↦ Err (refusal NoRoom 0) | false ↦ Ok (counts_of l) ]

-- the lent rows as `read_sheet` leaves them: a row for each line and then the old rest, or all as they were
unfoldable pub rows_after : List (List ℕ) → Reading → List (List ℕ)
rows_after old (refused e) = old
rows_after old (rows l) = elim (nat_lt (length old) (length l)) [ true ↦ old | false ↦ l ++ drop (length l) old ]

-- the line at the front of a text, read: no line can be read where there is none
unfoldable pub front_line : List Line → Line
front_line [] = unread
front_line (l ∷ ls) = l

-- `row_at`: the row of the line that starts at a place, and where the next line starts. A line that can't be read gives zeros and the text's end
unfoldable pub row_at : List ℕ → ℕ → RowAt
unfolding front_line sheet_lines line_of
row_at text at =
    elim (front_line (sheet_lines (drop at text))) [
      | unread ↦ record { row = replicate 16 0; next = length text }
      | row fits r ↦ record { row = r; next = suc (at + length (line_of (drop at text))) }
    ]

-- `at` is where line k + 1 starts: the invariant of a walk along a sheet, line by line
pub record AtLine (text : List ℕ) (k at : ℕ) : Type 0 where
  pub inside : at ≤ length text
  pub lines : sheet_lines (drop at text) ≡ drop k (sheet_lines text)

-- the rows of a text's lines stand in lent rows, as far as these reach
abbrev pub RowsHeld : List ℕ → List (List ℕ) → Type 0
RowsHeld text lent = (j : ℕ) → j < length (rows_from text) → j < length lent → slice_index_or lent j [] ≡ slice_index_or (rows_from text) j []

-- the invariant of a walk along lent rows, and along the text behind the last of them: k lines are behind, and `at` is where the first of the other lines starts
-- that has no row
pub record AtRow (text : List ℕ) (lent : List (List ℕ)) (k at : ℕ) : Type 0 where
  pub held : RowsHeld text lent
  pub line : AtLine text (max k (length lent)) at

-- where such a walk starts, if the sheet is accepted
abbrev pub HeldIf : Reading → List ℕ → List (List ℕ) → ℕ → Type 0
HeldIf r text lent at = (l : List (List ℕ)) → r ≡ rows l → AtRow text lent 0 at

-- `row_of`: the k-th row, or else the row of the line that starts at a place; and the place where the walk goes on
unfoldable pub row_from : List ℕ → List (List ℕ) → ℕ → ℕ → RowAt
unfolding row_at
row_from text lent k at = elim (nat_lt k (length lent)) [ true ↦ record { row = slice_index_or lent k []; next = at } | false ↦ row_at text at ]
