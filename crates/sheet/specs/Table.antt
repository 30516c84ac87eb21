-- S, the board sheet: the sections' letters, and one table of fields for each section with their ranges.
-- A coordinate c (x, y, z, down, min_y) is held as c + ORIGIN, so that no number held is negative; a missing field is held as MISSING.
use Rattle.std.specs.Prelude.{ℕ, ◌+◌, ◌-◌, List, [], ◌∷◌, slice_index_or}
use Rattle.sheet.specs.declared.Counts.{Counts}
use Rattle.sheet.specs.declared.table.Column.{Column}
use Rattle.sheet.specs.declared.table.Gap.{Gap}
use Rattle.sheet.specs.declared.table.Gap.TheVariants.{Never, May, AsBefore}

abbrev pub ORIGIN : ℕ
ORIGIN = 2000000

abbrev pub MISSING : ℕ
MISSING = 4294967295

-- S11: how far x, y, z, down and min_y may lie from 0
abbrev pub COORDINATE_MOST : ℕ
COORDINATE_MOST = 1000000

-- S11: the greatest id and line, port, half size and page
abbrev pub ID_MOST : ℕ
ID_MOST = 1000000

abbrev pub PORT_MOST : ℕ
PORT_MOST = 65535

abbrev pub HALF_MOST : ℕ
HALF_MOST = 1000

abbrev pub PAGE_MOST : ℕ
PAGE_MOST = 63

-- S3: a field may be missing never, or it may, or exactly when the field before it is (y after x, down after page): `Never`, `May`, `AsBefore` of `Gap`.
-- S11: one field of a section's table, a `Column`: what is added to its number before it is held, the least and the greatest number held, whether it may be
-- missing.

-- S11: a field whose number is held as it is
abbrev pub between : ℕ → ℕ → Gap → Column
between low high gap = record { origin = 0; low = low; high = high; gap = gap }

-- S11: a coordinate
abbrev pub coordinate : Gap → Column
coordinate gap =
    record { origin = ORIGIN; low = ORIGIN - COORDINATE_MOST; high = ORIGIN + COORDINATE_MOST; gap = gap }

-- S11: an id, a port, a half size, a class
abbrev pub id : Column
id = between 0 ID_MOST Never

abbrev pub port : Column
port = between 0 PORT_MOST Never

abbrev pub half : Column
half = between 1 HALF_MOST Never

abbrev pub class : Column
class = between 0 2 Never

-- S4: the sections' numbers: the order in which they stand in a sheet
abbrev pub PAGES : ℕ
PAGES = 0

abbrev pub NODES : ℕ
NODES = 1

abbrev pub CHIPS : ℕ
CHIPS = 2

abbrev pub INNER : ℕ
INNER = 3

abbrev pub EXECS : ℕ
EXECS = 4

abbrev pub WIRES : ℕ
WIRES = 5

-- how many sections there are; no section has this number
abbrev pub SECTIONS : ℕ
SECTIONS = 6

-- S4: the letters P, N, C, F, X, W
abbrev pub letters : List ℕ
letters = 80 ∷ 78 ∷ 67 ∷ 70 ∷ 88 ∷ 87 ∷ []

-- S5: the fields of P: min_y, z
abbrev pub page_columns : List Column
page_columns = coordinate May ∷ coordinate Never ∷ []

-- S6: the fields of N: id, kind, class, pin, half_x, half_y, rotation, x, y, page, down, line
abbrev pub node_columns : List Column
node_columns =
    id ∷ between 0 5 Never ∷ class ∷ between 0 1 Never ∷ half ∷ half ∷ between 0 3 Never
    ∷ coordinate May ∷ coordinate AsBefore ∷ between 0 PAGE_MOST May ∷ coordinate AsBefore ∷ between 0 ID_MOST May ∷ []

-- S7: the fields of C: id, parent
abbrev pub chip_columns : List Column
chip_columns = id ∷ between 0 ID_MOST May ∷ []

-- S8: the fields of F: id, chip, class
abbrev pub inner_columns : List Column
inner_columns = id ∷ id ∷ class ∷ []

-- S9: the fields of X: node, port
abbrev pub exec_columns : List Column
exec_columns = id ∷ port ∷ []

-- S10: the fields of W: source_node, source_port, target_node, target_port
abbrev pub wire_columns : List Column
wire_columns = id ∷ port ∷ id ∷ port ∷ []

abbrev pub tables : List (List Column)
tables = page_columns ∷ node_columns ∷ chip_columns ∷ inner_columns ∷ exec_columns ∷ wire_columns ∷ []

-- the fields of a section, by its number
abbrev pub columns_of : ℕ → List Column
columns_of s = slice_index_or tables s []

-- S12: how many records of each section the library takes, and the program
abbrev pub library_most : Counts
library_most = record { pages = 64; nodes = 4096; chips = 256; inner = 4096; execs = 4096; wires = 8192 }

abbrev pub program_most : Counts
program_most = record { pages = 8; nodes = 48; chips = 8; inner = 24; execs = 24; wires = 56 }
