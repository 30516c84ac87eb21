-- What the code notes while it decides corners, in one lent slice: the ends of 1,000 levels; for each class the number of the row on which a corner of it was laid last; the number of the row at hand; how many
-- corners are laid on it; a sink and an x, and how many of that sink's corners stand at each of 1,000 levels from there on; the corners laid, sink and level of each. Rows are numbered as they come, so that what an
-- earlier row left is told from what stands on this one. No rule stands here.
use Rattle.std.specs.Prelude.{ℕ, zero, suc, ◌+◌, ◌*◌, ◌≤◌, ◌<◌, ◌≡◌, ◌&&◌, List, [], ◌∷◌, eqb, length, get_or}
use Rattle.sheet.specs.Table.{MISSING}
use Rattle.routes_rows.specs.Booking.{count_after}
use Rattle.routes_rows.specs.Turning.{Entry, load_at, of_class}

-- How many places there are; how many classes, and as many corners.
abbrev pub NOTES : ℕ
NOTES = 26580

abbrev pub CLASSES : ℕ
CLASSES = 8192

abbrev pub stamp_of : List ℕ → ℕ → ℕ
stamp_of notes class = get_or notes (1000 + class) 0

abbrev pub row_no : List ℕ → ℕ
row_no notes = get_or notes 9192 0

abbrev pub listed : List ℕ → ℕ
listed notes = get_or notes 9193 0

abbrev pub owner_of : List ℕ → ℕ
owner_of notes = get_or notes 9194 0

abbrev pub owner_x : List ℕ → ℕ
owner_x notes = get_or notes 9195 0

abbrev pub load_no : List ℕ → ℕ → ℕ
load_no notes k = get_or notes (9196 + k) 0

abbrev pub pair_sink : List ℕ → ℕ → ℕ
pair_sink notes q = get_or notes (10196 + 2 * q) 0

abbrev pub pair_level : List ℕ → ℕ → ℕ
pair_level notes q = get_or notes (10196 + 2 * q + 1) 0

-- Of the first q corners listed, how many of a sink stand at a level.
abbrev pub pair_load : List ℕ → ℕ → ℕ → ℕ → ℕ
pair_load notes zero sink level = 0
pair_load notes (suc q) sink level = count_after (eqb (pair_sink notes q) sink && eqb (pair_level notes q) level) (pair_load notes q sink level)

-- The loads are those of the owner, where there is one.
abbrev pub Owned : List ℕ → Type 0
Owned notes = (owner_of notes ≡ MISSING → ⊥) → (k : ℕ) → k < 1000 → load_no notes k ≡ pair_load notes (listed notes) (owner_of notes) (owner_x notes + 2 * k)

-- Entries that are no corners.
abbrev pub Plain : Entry → Type 0
Plain e = (e.sink ≡ MISSING) × (e.class ≡ MISSING)

abbrev pub AllPlain : List Entry → Type 0
AllPlain [] = Unit {0}
AllPlain (e ∷ l) = Plain e × AllPlain l

-- No class was stamped on a row to come.
pub record NotesLow (notes : List ℕ) : Type 0 where
  pub long : NOTES ≤ length notes
  pub stamped : (c : ℕ) → c < CLASSES → stamp_of notes c ≤ row_no notes

-- The notes tell of what is booked on the row at hand, so many corners at most.
pub record Noted (booked : List Entry) (most : ℕ) (notes : List ℕ) : Type 0 where
  pub low : NotesLow notes
  pub classes : (c : ℕ) → c < CLASSES → eqb (stamp_of notes c) (row_no notes) ≡ of_class booked c
  pub few : listed notes ≤ most
  pub loads : (sink level : ℕ) → (sink ≡ MISSING → ⊥) → pair_load notes (listed notes) sink level ≡ load_at booked sink level
  pub owned : Owned notes

-- What is asked for to count loads.
pub record NotesFit (notes : List ℕ) : Type 0 where
  pub long : NOTES ≤ length notes
  pub few : listed notes ≤ CLASSES
  pub owned : Owned notes

-- What stands behind the ends is left.
abbrev pub SamePast : List ℕ → List ℕ → Type 0
SamePast notes notes' = (k : ℕ) → 1000 ≤ k → get_or notes' k 0 ≡ get_or notes k 0

-- The row at hand, n cells behind it, has begun where none counts: then no corner stands on it.
pub record Begun (n : ℕ) (notes notes' : List ℕ) : Type 0 where
  pub long : length notes' ≡ length notes
  pub ends : (k : ℕ) → k < 1000 → get_or notes' k 0 ≡ get_or notes k 0
  pub rows : row_no notes' ≤ row_no notes + 1
  pub noted : (booked : List Entry) (most : ℕ) → (0 < n → Noted booked most notes) → (n ≡ 0 → AllPlain booked) → Noted booked most notes'

-- Loads are written and nothing else.
pub record LoadsOnly (notes notes' : List ℕ) : Type 0 where
  pub long : length notes' ≡ length notes
  pub before : (k : ℕ) → k < 9196 → get_or notes' k 0 ≡ get_or notes k 0
  pub behind : (k : ℕ) → 10196 ≤ k → get_or notes' k 0 ≡ get_or notes k 0

-- A corner at a level is counted, if it is one of those from x0 on.
pub record Added (level x0 : ℕ) (notes notes' : List ℕ) : Type 0 where
  pub only : LoadsOnly notes notes'
  pub adds : (k : ℕ) → k < 1000 → load_no notes' k ≡ count_after (eqb level (x0 + 2 * k)) (load_no notes k)

-- The loads are those of a sink from x0 on.
pub record Owns (sink x0 : ℕ) (notes notes' : List ℕ) : Type 0 where
  pub long : length notes' ≡ length notes
  pub before : (k : ℕ) → k < 9194 → get_or notes' k 0 ≡ get_or notes k 0
  pub behind : (k : ℕ) → 10196 ≤ k → get_or notes' k 0 ≡ get_or notes k 0
  pub owner : owner_of notes' ≡ sink
  pub from : owner_x notes' ≡ x0
  pub loads : (k : ℕ) → k < 1000 → load_no notes' k ≡ pair_load notes (listed notes) sink (x0 + 2 * k)

-- A corner of a sink at a level: its load is raised if the sink is the owner, and it is listed.
pub record Raised (sink level : ℕ) (notes notes' : List ℕ) : Type 0 where
  pub only : LoadsOnly notes notes'
  pub adds : (k : ℕ) → k < 1000 → load_no notes' k ≡ count_after (eqb sink (owner_of notes) && eqb level (owner_x notes + 2 * k)) (load_no notes k)

pub record Listed (sink level : ℕ) (notes notes' : List ℕ) : Type 0 where
  pub long : length notes' ≡ length notes
  pub others : (k : ℕ) → k < 10196 → (k ≡ 9193 → ⊥) → get_or notes' k 0 ≡ get_or notes k 0
  pub pairs : (k : ℕ) → 10196 ≤ k → k < 10196 + 2 * listed notes → get_or notes' k 0 ≡ get_or notes k 0
  pub sink_is : pair_sink notes' (listed notes) ≡ sink
  pub level_is : pair_level notes' (listed notes) ≡ level
  pub more : listed notes' ≡ listed notes + 1
