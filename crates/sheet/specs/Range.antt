-- What the rows of an accepted sheet hold: each number in its column's range, or missing where it may be.
use Rattle.std.specs.Prelude.{◌≡◌, ℕ, suc, ◌<◌, ◌≤◌, ◌⊎◌, List, length, ◌≢◌, slice_index, slice_index_or}
use Rattle.sheet.specs.Table.{MISSING, SECTIONS, columns_of, id}
use Rattle.sheet.specs.declared.table.Column.{Column}
use Rattle.sheet.specs.declared.table.Gap.TheVariants.{Never}
use Rattle.sheet.specs.Reading.{section_in}

-- S3, S11: a number that a column may hold
abbrev pub Held : Column → ℕ → Type 0
Held c v = ((v ≡ MISSING) × (c.gap ≢ Never)) ⊎ ((c.low ≤ v) × (v ≤ c.high))

-- a row of an accepted sheet: its section, and what each of its fields holds
pub record InRange (r : List ℕ) : Type 0 where
  pub section : section_in r < SECTIONS
  pub fields : (j : ℕ) → j < length (columns_of (section_in r)) → Held (slice_index_or (columns_of (section_in r)) j id) (slice_index r (suc j))
  pub long : length r ≡ 16
