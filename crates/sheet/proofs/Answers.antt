-- What the public calls answer, from what the pass over the sheet found.
use Rattle.std.proofs.Common.{◌≡◌, ℕ, ◌<◌, ◌≤◌, true, false, ltb, List, ◌++◌, length, drop, sym, refl, ap, ◌∙◌, ap₂, arith, le-ltb, lt-ltb, Result, Ok, Err}
use lib.ListN.{length-map}
use Rattle.base.specs.declared.refusal.Reason.TheVariants.{NoRoom}
use Rattle.base.specs.declared.refusal.Refusal.{Refusal}
use Rattle.base.specs.Refusal.{refusal}
use Rattle.sheet.specs.declared.Counts.{Counts}
use Rattle.sheet.specs.declared.Survey.{Survey}
use Rattle.sheet.specs.Reading.{Reading, refused, rows, reading, read_lines, rows_from, row_of, sheet_lines, listed}
use Rattle.sheet.specs.Answer.{counts_of, checked_of, read_of, rows_after}
use Rattle.sheet.specs.Walk.{survey_of, SurveyedAs, all_read}
use Rattle.base.proofs.Bools.{never}
use Rattle.sheet.proofs.Walks.{accepted_rows, accepted_read}

-- the pass over a sheet, and its reading
pub survey_is : (most : Counts) (text limits : List ℕ) (rest : ℕ) (s : Result Survey Refusal) → limits ≡ listed most
    → s ≡ survey_of rest (read_lines limits (sheet_lines text)) → s ≡ survey_of rest (reading most text)
unfolding reading
survey_is most text limits rest s e p = p ∙ ap (λ (l : List ℕ). survey_of rest (read_lines l (sheet_lines text))) e

pub surveyed_is : (most : Counts) (text limits : List ℕ) {lent : List (List ℕ)} {s : Result Survey Refusal} → limits ≡ listed most
    → SurveyedAs (read_lines limits (sheet_lines text)) text lent s → SurveyedAs (reading most text) text lent s
unfolding reading
surveyed_is most text limits e h = rw e at h

-- a refused sheet is not read
refused_is : (r : Reading) (rest : ℕ) (e : Refusal) → Err e ≡ survey_of rest r → r ≡ refused e
unfolding survey_of
refused_is (refused d) rest e p = cc
refused_is (rows l) rest e p = never cc

pub checked_refused : (r : Reading) (rest : ℕ) (e : Refusal) → Err e ≡ survey_of rest r → Err e ≡ checked_of r
unfolding checked_of
checked_refused r rest e p = rw (refused_is r rest e p)

pub read_refused : (r : Reading) (rest : ℕ) (e : Refusal) (old : List (List ℕ)) → Err e ≡ survey_of rest r → (Err e ≡ read_of (length old) r) × (old ≡ rows_after old r)
unfolding read_of rows_after
read_refused r rest e old p = let q = refused_is r rest e p in (rw q, rw q)

-- an accepted one, where rows are lent for it or not
fine_rows : (r : Reading) (rest : ℕ) (s : Survey) → Ok s ≡ survey_of rest r → (l : List (List ℕ)) × (r ≡ rows l) × (s.lines ≡ length l) × (s.counts ≡ counts_of l)
unfolding survey_of
fine_rows (refused e) rest s p = never cc
fine_rows (rows l) rest s p =
    let q : s ≡ record { counts = counts_of l; lines = length l; rest = rest } = cc in
    (l, refl, ap (λ (x : Survey). x.lines) q, ap (λ (x : Survey). x.counts) q)

pub checked_fine : (r : Reading) (rest : ℕ) (s : Survey) → Ok s ≡ survey_of rest r → Ok s.counts ≡ checked_of r
unfolding checked_of
checked_fine r rest s e = let x = fine_rows r rest s e in rw x.1 (ap Ok x.3)

pub read_short : (r : Reading) (rest : ℕ) (s : Survey) (old : List (List ℕ)) → Ok s ≡ survey_of rest r → length old < s.lines
    → (Err (refusal NoRoom 0) ≡ read_of (length old) r) × (old ≡ rows_after old r)
unfolding read_of rows_after
read_short r rest s old e h =
    let x = fine_rows r rest s e in
    let t : ltb (length old) (length x.0) ≡ true = lt-ltb (length old) (length x.0) (omega (arith, x.2)) in
    (rw x.1 (rw (t, read_of)), rw x.1 (rw (t, rows_after)))

pub read_fine : (most : Counts) (text : List ℕ) (rest : ℕ) (s : Survey) (old new : List (List ℕ)) → Ok s ≡ survey_of rest (reading most text) → s.lines ≤ length old
    → new ≡ rows_from text ++ drop s.lines old → (Ok s.counts ≡ read_of (length old) (reading most text)) × (new ≡ rows_after old (reading most text))
unfolding read_of rows_after
read_fine most text rest s old new e h p =
    let x = fine_rows (reading most text) rest s e in
    let t : ltb (length old) (length x.0) ≡ false = le-ltb (length old) (length x.0) (omega (arith, x.2)) in
    (rw x.1 (rw (t, read_of) (ap Ok x.3)), rw x.1 (rw (t, rows_after) (p ∙ ap₂ (λ (a b : List (List ℕ)). a ++ b) (sym (accepted_rows most text x.0 x.1)) (ap (λ (m : ℕ). drop m old) x.2))))

-- what `fill_rows` asks
pub fill_asks : (most : Counts) (text : List ℕ) (rest : ℕ) (s : Survey) → Ok s ≡ survey_of rest (reading most text)
    → (s.lines ≡ length (sheet_lines text)) × (all_read (sheet_lines text) ≡ true)
unfolding rows_from
fill_asks most text rest s e =
    let x = fine_rows (reading most text) rest s e in
    (x.2 ∙ (ap length (accepted_rows most text x.0 x.1) ∙ length-map (sheet_lines text) row_of), accepted_read most text x.0 x.1)
