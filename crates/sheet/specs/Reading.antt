-- E, what turns a board away: refusals 1 to 3 in their order, each with the first line that meets it.
use Rattle.std.specs.Prelude.{ℕ, suc, Bool, true, false, not, List, [], ◌∷◌, map, replicate, ◌==◌, nat_le, nat_lt, slice_index, slice_set}
use Rattle.base.specs.declared.refusal.Reason.TheVariants.{Unread, TooMany, OutOfRange}
use Rattle.base.specs.declared.refusal.Refusal.{Refusal}
use Rattle.base.specs.Refusal.{refusal}
use Rattle.sheet.specs.declared.Counts.{Counts}
use Rattle.sheet.specs.Text.{NEWLINE, parts}
use Rattle.sheet.specs.Table.{SECTIONS}
use Rattle.sheet.specs.Record.{Line, unread, row, line_read}

-- S1, E1: the lines of a sheet, each read. What stands after the last byte 10 is a line that can't be read, unless it is nothing
unfoldable pub lines_read : List (List ℕ) → List Line
unfolding line_read
lines_read [] = []
lines_read ([] ∷ []) = []
lines_read ((b ∷ bs) ∷ []) = unread ∷ []
lines_read (p ∷ q ∷ ps) = line_read p ∷ lines_read (q ∷ ps)

-- S1: the same of a text
unfoldable pub sheet_lines : List ℕ → List Line
unfolding lines_read parts
sheet_lines text = lines_read (parts NEWLINE text)

unfoldable pub row_of : Line → List ℕ
row_of unread = replicate 16 0
row_of (row fits r) = r

-- the rows of a text's lines
unfoldable pub rows_from : List ℕ → List (List ℕ)
unfolding sheet_lines row_of
rows_from text = map row_of (sheet_lines text)

-- the section of a row
abbrev pub section_in : List ℕ → ℕ
section_in r = slice_index r 0

-- one more record of the row's section
unfoldable pub counted : List ℕ → List ℕ → List ℕ
counted counts r = slice_set counts (section_in r) (suc (slice_index counts (section_in r)))

-- what the lines before a line leave: the section of the last of them, and how many records of each section they are
pub record Before : Type 0 where
  pub section : ℕ
  pub counts : List ℕ

unfoldable pub after : Before → Line → Before
unfolding counted
after b unread = b
after b (row fits r) = record { section = section_in r; counts = counted b.counts r }

abbrev pub no_lines : Before
no_lines = record { section = 0; counts = replicate SECTIONS 0 }

-- E1: not read, or of a section that comes before that of the line before
unfoldable pub unreadable : Before → Line → Bool
unreadable b unread = true
unreadable b (row fits r) = nat_lt (section_in r) b.section

-- E2: its section has its most records already
unfoldable pub over_most : List ℕ → Before → Line → Bool
over_most most b unread = false
over_most most b (row fits r) = nat_le (slice_index most (section_in r)) (slice_index b.counts (section_in r))

-- E3: a number outside its range
unfoldable pub out_of_range : Before → Line → Bool
out_of_range b unread = false
out_of_range b (row fits r) = not fits

-- E10: the first line that meets a condition, the lines counted from `n`; NO_LINE where none does
abbrev pub NO_LINE : ℕ
NO_LINE = 0

unfoldable pub first : (Before → Line → Bool) → Before → ℕ → List Line → ℕ
unfolding after
first p b n [] = NO_LINE
first p b n (l ∷ ls) = elim (p b l) [ true ↦ n | false ↦ first p (after b l) (suc n) ls ]

abbrev pub listed : Counts → List ℕ
listed c = c.pages ∷ c.nodes ∷ c.chips ∷ c.inner ∷ c.execs ∷ c.wires ∷ []

-- what reading a sheet gives: a refusal with its line, or a row for each line
pub data Reading : Type 0 where
  refused : Refusal → Reading
  rows : List (List ℕ) → Reading

-- E9: the first of three refusals that there is, by the first line of each
unfoldable pub refusals : ℕ → ℕ → ℕ → Reading → Reading
refusals one two three accepted =
    elim (one == NO_LINE) [
      | false ↦ refused (refusal Unread one)
      | true ↦ elim (two == NO_LINE) [ false ↦ refused (refusal TooMany two) | true ↦ elim (three == NO_LINE) [ false ↦ refused (refusal OutOfRange three) | true ↦ accepted ] ]
    ]

-- E9: a refusal is tried on all lines before the next one
unfoldable pub read_lines : List ℕ → List Line → Reading
unfolding refusals first unreadable over_most out_of_range row_of
read_lines most lines =
    refusals (first unreadable no_lines 1 lines) (first (over_most most) no_lines 1 lines) (first out_of_range no_lines 1 lines)
    (rows (map row_of lines))

unfoldable pub reading : Counts → List ℕ → Reading
unfolding read_lines sheet_lines
reading most text = read_lines (listed most) (sheet_lines text)
