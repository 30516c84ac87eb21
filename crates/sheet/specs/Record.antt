-- S, the board sheet: a line is one record. What its fields hold, by its section's table, makes a row of sixteen numbers: the section's number,
-- the fields in the sheet's order, then zeros.
use Rattle.std.specs.Prelude.{ℕ, suc, ◌+◌, ◌-◌, Bool, true, false, not, ◌&&◌, Result, Ok, Err, List, [], ◌∷◌, replicate, ◌==◌, nat_le, slice_set}
use Rattle.std.specs.Bool.{beq}
use Rattle.sheet.specs.declared.line.CellFault.{CellFault}
use Rattle.sheet.specs.declared.line.CellFault.TheVariants.{OutOfRange, Malformed}
use Rattle.sheet.specs.declared.table.Column.{Column}
use Rattle.sheet.specs.declared.table.Gap.{Gap}
use Rattle.sheet.specs.declared.table.Gap.TheVariants.{Never, May, AsBefore}
use Rattle.sheet.specs.Text.{TAB, parts}
use Rattle.sheet.specs.Number.{Number, bad, missing, plus, minus, number}
use Rattle.sheet.specs.Table.{MISSING, SECTIONS, letters, columns_of}

-- S3: whether a field that is missing (`gone`) or not may stand in a column, after a field that is missing (`before`) or not
unfoldable pub allowed : Gap → Bool → Bool → Bool
allowed Never before gone = not gone
allowed May before gone = true
allowed AsBefore before gone = beq before gone

-- S11: a number that is held as `v`, if it `fits` and lies in the range
unfoldable pub within : (low high : ℕ) → Bool → ℕ → Result ℕ CellFault
within low high fits v = elim (fits && nat_le low v && nat_le v high) [ true ↦ Ok v | false ↦ Err OutOfRange ]

unfoldable pub present : Column → Number → Result ℕ CellFault
unfolding within
present c bad = Err Malformed
present c missing = Ok MISSING
present c (plus v) = within c.low c.high true (c.origin + v)
present c (minus v) = within c.low c.high (nat_le v c.origin) (c.origin - v)

abbrev pub is_missing : Number → Bool
is_missing bad = false
is_missing missing = true
is_missing (plus v) = false
is_missing (minus v) = false

-- S3, S11: what a field holds
unfoldable pub cell_of : Column → Bool → Number → Result ℕ CellFault
unfolding allowed present
cell_of c before n = elim (allowed c.gap before (is_missing n)) [ true ↦ present c n | false ↦ Err Malformed ]

-- a line that can't be read, or a record: whether its numbers are in range, and its row
pub data Line : Type 0 where
  unread : Line
  row : Bool → List ℕ → Line

-- E1: the fields of a record by its columns, the first of them the row's k-th number. As many fields as columns, none malformed
unfoldable pub fields_read : List Column → List (List ℕ) → (before fits : Bool) (k : ℕ) → List ℕ → Line
unfolding cell_of number
fields_read [] [] before fits k r = row fits r
fields_read [] (f ∷ fs) before fits k r = unread
fields_read (c ∷ cs) [] before fits k r = unread
fields_read (c ∷ cs) (f ∷ fs) before fits k r =
    elim (cell_of c before (number f)) [
      | Ok v ↦ fields_read cs fs (is_missing (number f)) fits (suc k) (slice_set r k v)
      | Err OutOfRange ↦ fields_read cs fs (is_missing (number f)) false (suc k) r
      | Err Malformed ↦ unread
    ]

-- the place of a letter among the sections' letters, counted from `s`; SECTIONS where it is none of them
unfoldable pub place_of : ℕ → List ℕ → ℕ → ℕ
place_of b [] s = SECTIONS
place_of b (l ∷ ls) s = elim (b == l) [ true ↦ s | false ↦ place_of b ls (suc s) ]

-- S4: the section that a line's first field names: its one byte is a section's letter
unfoldable pub section_of : List ℕ → ℕ
unfolding place_of
section_of [] = SECTIONS
section_of (b ∷ []) = place_of b letters 0
section_of (b ∷ c ∷ bs) = SECTIONS

-- the row before its fields are read
abbrev pub empty_row : ℕ → List ℕ
empty_row s = s ∷ replicate 15 0

-- E1: the fields of a line: a section's letter, then that section's fields
unfoldable pub record_read : List (List ℕ) → Line
unfolding section_of fields_read
record_read [] = unread
record_read (l ∷ fs) =
    let s = section_of l in
    elim (s == SECTIONS) [ true ↦ unread | false ↦ fields_read (columns_of s) fs false true 1 (empty_row s) ]

-- S1: a line, without its byte 10
unfoldable pub line_read : List ℕ → Line
unfolding record_read parts
line_read bytes = record_read (parts TAB bytes)
