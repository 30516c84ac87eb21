-- How the calls inside go along a text: what each says of the text from its place on. They cite the rules; none is a rule.
use Rattle.std.specs.Prelude.{◌≡◌, ℕ, suc, ◌+◌, ◌-◌, ◌*◌, ◌<◌, Bool, true, false, cond, ◌||◌, Option, None, Some, Result, Ok, Err, List, [], ◌∷◌, length, ◌==◌, nat_lt, slice_set}
use Rattle.sheet.specs.declared.number.Scanned.{Scanned}
use Rattle.sheet.specs.declared.number.Scanned.TheVariants.{Missing, Plus, Minus}
use Rattle.sheet.specs.declared.line.CellFault.{CellFault}
use Rattle.sheet.specs.declared.line.CellFault.TheVariants.{OutOfRange, Malformed}
use Rattle.sheet.specs.declared.table.Column.{Column}
use Rattle.sheet.specs.declared.line.FieldAt.{FieldAt}
use Rattle.sheet.specs.declared.line.LineAt.{LineAt}
use Rattle.base.specs.declared.refusal.Reason.TheVariants.{TooMany, OutOfRange as NotInRange}
use Rattle.base.specs.declared.refusal.Refusal.{Refusal}
use Rattle.base.specs.Refusal.{refusal}
use Rattle.sheet.specs.declared.Survey.{Survey}
use Rattle.sheet.specs.Text.{TAB, NEWLINE, parts, line_of}
use Rattle.sheet.specs.Number.{Number, bad, missing, plus, minus, digit, ZERO}
use Rattle.sheet.specs.Table.{MISSING, SECTIONS}
use Rattle.sheet.specs.Record.{Line, unread, row, fields_read}
use Rattle.sheet.specs.Reading.{Reading, refused, rows, section_in}
use Rattle.sheet.specs.Answer.{counts_of, HeldIf}

-- what a field says, as the code has it: nothing that can be read is no number
abbrev pub number_in : Option Scanned → Number
number_in None = bad
number_in (Some Missing) = missing
number_in (Some (Plus v)) = plus v
number_in (Some (Minus v)) = minus v

-- the same of a field without a sign
abbrev pub plus_in : Option ℕ → Number
plus_in None = bad
plus_in (Some v) = plus v

-- the number that digits write, after those that wrote `v`; none where a byte is no digit
unfoldable pub digits_read : ℕ → List ℕ → Option ℕ
digits_read v [] = Some v
digits_read v (b ∷ bs) = elim (digit b) [ true ↦ digits_read (v * 10 + (b - ZERO)) bs | false ↦ None ]

-- what is said of a byte: the number of a digit
abbrev pub DigitSays : ℕ → Option ℕ → Type 0
DigitSays b None = digit b ≡ false
DigitSays b (Some d) = (digit b ≡ true) × (d < 10) × (b ≡ ZERO + d)

-- the byte that ends the field of the i-th column: a tab, or byte 10 after the last
abbrev pub separator_at : ℕ → ℕ → ℕ
separator_at i last = cond (nat_lt i last) TAB NEWLINE

-- whether a number held stands for a field that is missing
abbrev pub is_gone : ℕ → Bool
is_gone v = v == MISSING

-- what a field leaves of a record's numbers: whether it can be one, whether all so far are in range, and the row
abbrev pub is_malformed : Result ℕ CellFault → Bool
is_malformed (Ok v) = false
is_malformed (Err OutOfRange) = false
is_malformed (Err Malformed) = true

abbrev pub fits_after : Result ℕ CellFault → Bool → Bool
fits_after (Ok v) fits = fits
fits_after (Err OutOfRange) fits = false
fits_after (Err Malformed) fits = fits

abbrev pub row_after : Result ℕ CellFault → List ℕ → ℕ → List ℕ
row_after (Ok v) r k = slice_set r k v
row_after (Err OutOfRange) r k = r
row_after (Err Malformed) r k = r

-- what is said of a field that goes into a row as its k-th number, where the next field starts at `next`: it may not stand there, or it leaves what it holds
abbrev pub FieldSays : Result ℕ CellFault → ℕ → ℕ → List ℕ → List ℕ → Option FieldAt → Type 0
FieldSays held next k before after None = is_malformed held ≡ true
FieldSays held next k before after (Some x) = (is_malformed held ≡ false) × (x.fits ≡ fits_after held true) × (x.next ≡ next) × (after ≡ row_after held before k)

-- what is said of the place of a section's letter: there is none, or that section
abbrev pub Names : ℕ → Option ℕ → Type 0
Names n None = n ≡ SECTIONS
Names n (Some s) = (s < SECTIONS) × (n ≡ s)

-- whether the byte `s` is there
unfoldable pub has : ℕ → List ℕ → Bool
has s [] = false
has s (b ∷ t) = b == s || has s t

-- whether byte 10 ends the line at the front of a text
abbrev pub ended : List ℕ → Bool
ended t = has NEWLINE t

-- the fields of the line at the front of a text
unfoldable pub fields_of : List ℕ → List (List ℕ)
unfolding parts line_of
fields_of t = parts TAB (line_of t)

-- the rest of a line, from the field at the front of a text on; byte 10 ends it
unfoldable pub fields_from : List Column → List ℕ → (before fits : Bool) (k : ℕ) → List ℕ → Line
unfolding fields_read fields_of has
fields_from cs t before fits k r = elim (ended t) [ true ↦ fields_read cs (fields_of t) before fits k r | false ↦ unread ]

-- what is said of a line that was read and ends before `next`, and the row that it leaves
pub record LineRead (line : Line) (next : ℕ) (x : LineAt) (stored : List ℕ) : Type 0 where
  pub says : line ≡ row x.fits stored
  pub section : section_in stored ≡ x.section
  pub known : x.section < SECTIONS
  pub ends : x.next ≡ next

abbrev pub LineSays : Line → ℕ → Option LineAt → List ℕ → Type 0
LineSays line next None stored = line ≡ unread
LineSays line next (Some x) stored = LineRead line next x stored

-- the same, where the row is kept as the k-th of lent rows, if there is one
pub record LineKept (line : Line) (next : ℕ) (r : Option LineAt) (k : ℕ) (before after : List (List ℕ)) : Type 0 where
  pub stored : List ℕ
  pub says : LineSays line next r stored
  pub kept : after ≡ slice_set before k stored

-- the place after the line at the front of a text that starts at `at`
abbrev pub line_end : ℕ → List ℕ → ℕ
line_end at t = suc (at + length (line_of t))

-- the first of two lines, the later of which counts only where it is meant
abbrev pub first_of : Option ℕ → Bool → ℕ → Option ℕ
first_of None here line = cond here (Some line) None
first_of (Some found) here line = Some found

-- what the pass finds, where `rest` is the place of the first line without a row
unfoldable pub survey_of : ℕ → Reading → Result Survey Refusal
unfolding counts_of
survey_of rest (refused e) = Err e
survey_of rest (rows l) = Ok (record { counts = counts_of l; lines = length l; rest = rest })

-- what a call that keeps rows says of them and of what it finds
abbrev pub SurveyedAs : Reading → List ℕ → List (List ℕ) → Result Survey Refusal → Type 0
SurveyedAs r text lent found = (rest : ℕ) × (found ≡ survey_of rest r) × HeldIf r text lent rest

-- what the pass answers where every line is read, by the first lines of a 2 and a 3
abbrev pub survey_by : Option ℕ → Option ℕ → Survey → Result Survey Refusal
survey_by (Some over) wide found = Err (refusal TooMany over)
survey_by None (Some wide) found = Err (refusal NotInRange wide)
survey_by None None found = Ok found

-- whether each line can be read
unfoldable pub all_read : List Line → Bool
all_read [] = true
all_read (unread ∷ ls) = false
all_read (row fits r ∷ ls) = all_read ls
