-- What an accepted reading says of its rows: each is a record of its section's table with every number in its column's range, the sections rise
-- along the rows, and no section has more records than its most.
use Rattle.std.proofs.Common.{◌≡◌, ℕ, zero, suc, ◌+◌, ◌-◌, ◌<◌, ◌≤◌, Bool, true, false, ◌&&◌, eqb, ltb, leb, List, [], ◌∷◌, map, length, get_or, set, replicate, sym, refl, ap, ◌∙◌, subst, ap₂, zero-le, arith, length-set, get_or-set_other, get_or-set_same, ltb-false, ltb-true, eq-eqb, ne_eqb, eqb-true, leb-false, leb-true}
use mathlib.Core.Bool.{beq}
use lib.Seq.{set_out}
use borrow.Author.Tests.{eqb-false, not-true, not-false}
use Rattle.sheet.specs.declared.Counts.{Counts}
use Rattle.sheet.specs.declared.line.CellFault.{CellFault}
use Rattle.sheet.specs.declared.line.CellFault.TheVariants.{OutOfRange, Malformed}
use Rattle.sheet.specs.declared.table.Column.{Column}
use Rattle.sheet.specs.declared.table.Gap.TheVariants.{Never, AsBefore}
use Rattle.std.specs.Prelude.{Result, Ok, Err}
use Rattle.sheet.specs.Text.{TAB, NEWLINE, parts}
use Rattle.sheet.specs.Number.{Number, bad, missing, plus, minus, number}
use Rattle.sheet.specs.Table.{MISSING, ORIGIN, COORDINATE_MOST, ID_MOST, PORT_MOST, HALF_MOST, PAGE_MOST, PAGES, NODES, CHIPS, INNER, EXECS, WIRES, SECTIONS, letters, columns_of}
use Rattle.sheet.specs.Record.{allowed, within, present, is_missing, cell_of, Line, unread, row, fields_read, place_of, section_of, empty_row, record_read, line_read}
use Rattle.sheet.specs.Reading.{lines_read, sheet_lines, row_of, rows_from, section_in, counted, Before, after, no_lines, unreadable, over_most, out_of_range, first, listed, rows, reading}
use Rattle.sheet.specs.Answer.{counted_all}
use Rattle.base.proofs.Bools.{never, clash, and_left, and_right}
use Rattle.sheet.proofs.Lines.{place_most}
use Rattle.sheet.proofs.Walks.{accepted as unrefused}

-- One field -------------------------------------------------------------------------------------------------------------------------------

-- A number that stands in a column after a field that is missing or not: whether it may be missing, and its range if it is not.
pub record HeldAt (c : Column) (before : Bool) (v : ℕ) : Type 0 where
  pub fitting : allowed c.gap before (eqb v MISSING) ≡ true
  pub range : eqb v MISSING ≡ false → (c.low ≤ v) × (v ≤ c.high)

-- The numbers of a row from its k-th on, by their columns.
abbrev pub Held : List Column → Bool → ℕ → List ℕ → Type 0
Held [] before k r = Unit {0}
Held (c ∷ cs) before k r = HeldAt c before (get_or r k 0) × Held cs (eqb (get_or r k 0) MISSING) (suc k) r

-- Columns that hold no number in range as MISSING.
abbrev Small : List Column → Type 0
Small [] = Unit {0}
Small (c ∷ cs) = (c.high < MISSING) × Small cs

-- What a cell holds is a number that may stand there.
within_held : (low high : ℕ) (fits : Bool) (x v : ℕ) → within low high fits x ≡ Ok v → (low ≤ v) × (v ≤ high)
unfolding within
within_held low high fits x v e = go (fits && leb low x && leb x high) refl e
  where
    go : (t : Bool) → (fits && leb low x && leb x high) ≡ t → elim t as (λ _. Result ℕ CellFault) [ true ↦ Ok x | false ↦ Err OutOfRange ] ≡ Ok v → (low ≤ v) × (v ≤ high)
    go true h q =
        let same : x ≡ v = cc in
        let least = leb-true low x (and_right fits (leb low x) (and_left (fits && leb low x) (leb x high) h)) in
        let most = leb-true x high (and_right (fits && leb low x) (leb x high) h) in
        (omega arith, omega arith)
    go false h q = never cc

module _ (c : Column) (before : Bool) (v : ℕ) (small : c.high < MISSING) where
  -- a number in range
  number_held : allowed c.gap before false ≡ true → (c.low ≤ v) × (v ≤ c.high) → (eqb v MISSING ≡ false) × HeldAt c before v
  number_held a (l, h) =
      let other : eqb v MISSING ≡ false = ne_eqb v MISSING (λ z. omega arith) in
      (other, record { fitting = rw other a; range = λ z. (l, h) })

  present_held : (n : Number) → allowed c.gap before (is_missing n) ≡ true → present c n ≡ Ok v → (eqb v MISSING ≡ is_missing n) × HeldAt c before v
  unfolding present
  present_held bad a e = never cc
  present_held missing a e =
      let same : v ≡ MISSING = cc in
      let yes' : eqb v MISSING ≡ true = eq-eqb v MISSING same in
      (yes', record { fitting = rw yes' a; range = λ z. clash yes' z })
  present_held (plus w) a e = number_held a (within_held c.low c.high true (c.origin + w) v e)
  present_held (minus w) a e = number_held a (within_held c.low c.high (leb w c.origin) (c.origin - w) v e)

  cell_held : (n : Number) → cell_of c before n ≡ Ok v → (eqb v MISSING ≡ is_missing n) × HeldAt c before v
  unfolding cell_of
  cell_held n e = go (allowed c.gap before (is_missing n)) refl e
    where
      go : (t : Bool) → allowed c.gap before (is_missing n) ≡ t → elim t as (λ _. Result ℕ CellFault) [ true ↦ present c n | false ↦ Err Malformed ] ≡ Ok v
          → (eqb v MISSING ≡ is_missing n) × HeldAt c before v
      go true a q = present_held n a q
      go false a q = never cc

-- One row ---------------------------------------------------------------------------------------------------------------------------------

record FieldsHeld (cs : List Column) (before fits : Bool) (k : ℕ) (r₀ r : List ℕ) : Type 0 where
  fitting : fits ≡ true
  held : Held cs before k r
  long : length r ≡ length r₀
  kept : (j : ℕ) → j < k → get_or r j 0 ≡ get_or r₀ j 0

fields_held : (cs : List Column) (fs : List (List ℕ)) (before fits : Bool) (k : ℕ) (r₀ r : List ℕ)
    → Small cs → k + length cs ≤ length r₀ → fields_read cs fs before fits k r₀ ≡ row true r → FieldsHeld cs before fits k r₀ r
unfolding fields_read
fields_held [] [] before fits k r₀ r small room e =
    let same : r₀ ≡ r = cc in
    record { fitting = cc; held = tt; long = ap length (sym same); kept = λ j h. ap (λ (l : List ℕ). get_or l j 0) (sym same) }
fields_held [] (f ∷ fs) before fits k r₀ r small room e = never cc
fields_held (c ∷ cs) [] before fits k r₀ r small room e = never cc
fields_held (c ∷ cs) (f ∷ fs) before fits k r₀ r small room e =
    go (cell_of c before (number f)) refl e (λ fits' r'. fields_held cs fs (is_missing (number f)) fits' (suc k) r' r small.1)
  where
    go : (cell : Result ℕ CellFault) → cell_of c before (number f) ≡ cell
        → elim cell [
          | Ok v ↦ fields_read cs fs (is_missing (number f)) fits (suc k) (set r₀ k v)
          | Err OutOfRange ↦ fields_read cs fs (is_missing (number f)) false (suc k) r₀
          | Err Malformed ↦ unread
        ] ≡ row true r
        → ((fits' : Bool) (r' : List ℕ) → suc k + length cs ≤ length r' → fields_read cs fs (is_missing (number f)) fits' (suc k) r' ≡ row true r
        → FieldsHeld cs (is_missing (number f)) fits' (suc k) r' r)
        → FieldsHeld (c ∷ cs) before fits k r₀ r
    go (Ok v) is q rec =
        let more : suc k + length cs ≤ length (set r₀ k v) = simp length-set (omega arith) in
        let rest = rec fits (set r₀ k v) more q in
        let here : get_or r k 0 ≡ v = rest.kept k (omega arith) ∙ get_or-set_same r₀ k v 0 (omega arith) in
        let cell = cell_held c before v small.0 (number f) is in
        record {
          fitting = rest.fitting;
          held = (rw here cell.1, subst (λ (t : Bool). Held cs t (suc k) r) (sym (ap (λ (x : ℕ). eqb x MISSING) here ∙ cell.0)) rest.held);
          long = rest.long ∙ length-set r₀ k v;
          kept = λ j h. rest.kept j (omega arith) ∙ get_or-set_other r₀ k j v 0 (λ z. omega arith);
        }
    go (Err OutOfRange) is q rec = clash (rec false r₀ (omega arith) q).fitting refl
    go (Err Malformed) is q rec = never cc

-- A row of an accepted sheet: sixteen numbers, its section, and the numbers of its columns.
pub record RowHeld (r : List ℕ) : Type 0 where
  pub known : section_in r < SECTIONS
  pub long : length r ≡ 16
  pub held : Held (columns_of (section_in r)) false 1 r

-- The tables' own bounds.
tables_small : (s : ℕ) → Small (columns_of s) × (length (columns_of s) ≤ 15)
tables_small zero = omega arith
tables_small (suc zero) = omega arith
tables_small (suc (suc zero)) = omega arith
tables_small (suc (suc (suc zero))) = omega arith
tables_small (suc (suc (suc (suc zero)))) = omega arith
tables_small (suc (suc (suc (suc (suc zero))))) = omega arith
tables_small (suc (suc (suc (suc (suc (suc s)))))) = (tt, omega arith)

section_known : (l : List ℕ) → eqb (section_of l) SECTIONS ≡ false → section_of l < SECTIONS
unfolding section_of
section_known [] e = clash refl e
section_known (b ∷ []) e = let other = eqb-false (place_of b letters 0) SECTIONS e in omega (arith, place_most b letters 0 (omega arith), other)
section_known (b ∷ c ∷ bs) e = clash refl e

record_held : (fs : List (List ℕ)) (r : List ℕ) → record_read fs ≡ row true r → RowHeld r
unfolding record_read
record_held [] r e = never cc
record_held (l ∷ fs) r e = go (eqb (section_of l) SECTIONS) refl e
  where
    s : ℕ
    s = section_of l

    go : (t : Bool) → eqb s SECTIONS ≡ t → elim t [ true ↦ unread | false ↦ fields_read (columns_of s) fs false true 1 (empty_row s) ] ≡ row true r → RowHeld r
    go true is q = never cc
    go false is q =
        let t = tables_small s in
        let f = fields_held (columns_of s) fs false true 1 (empty_row s) r t.0 (omega arith) q in
        let here : section_in r ≡ s = f.kept 0 (omega arith) in
        record { known = rw here (section_known l is); long = f.long; held = rw here f.held }

-- All rows --------------------------------------------------------------------------------------------------------------------------------

-- Every row of a list.
abbrev pub Each : (List ℕ → Type 0) → List (List ℕ) → Type 0
Each P [] = Unit {0}
Each P (r ∷ rs) = P r × Each P rs

pub each_at : (P : List ℕ → Type 0) (l : List (List ℕ)) (k : ℕ) (d : List ℕ) → Each P l → k < length l → P (get_or l k d)
each_at P [] k d e h = absurd (omega arith)
each_at P (r ∷ rs) zero d e h = e.0
each_at P (r ∷ rs) (suc k) d e h = each_at P rs k d e.1 (omega arith)

-- The sections rise along the rows, from section s on.
abbrev pub Rising : ℕ → List (List ℕ) → Type 0
Rising s [] = Unit {0}
Rising s (r ∷ rs) = (s ≤ section_in r) × Rising (section_in r) rs

-- No line meets a condition.
abbrev NoLine : (Before → Line → Bool) → Before → List Line → Type 0
NoLine p b [] = Unit {0}
NoLine p b (l ∷ ls) = (p b l ≡ false) × NoLine p (after b l) ls

first_none : (p : Before → Line → Bool) (b : Before) (n : ℕ) (ls : List Line) → first p b (suc n) ls ≡ 0 → NoLine p b ls
unfolding first
first_none p b n [] e = tt
first_none p b n (l ∷ ls) e = go (p b l) refl e (first_none p (after b l) (suc n) ls)
  where
    go : (t : Bool) → p b l ≡ t → ◌≡◌ {A = ℕ} (elim t [ true ↦ suc n | false ↦ first p (after b l) (suc (suc n)) ls ]) 0
        → (first p (after b l) (suc (suc n)) ls ≡ 0 → NoLine p (after b l) ls) → (p b l ≡ false) × NoLine p (after b l) ls
    go true is q rec = absurd (omega arith)
    go false is q rec = (is, rec q)

-- The lines of a sheet without refusals 1 and 3 are rows, each of its section's table.
line_row : (b b' : Before) (l : Line) → unreadable b l ≡ false → out_of_range b' l ≡ false → l ≡ row true (row_of l)
unfolding unreadable out_of_range row_of
line_row b b' unread e f = clash refl e
line_row b b' (row fits r) e f = ap (λ (t : Bool). row t r) (not-false fits f)

lines_rows : (b b' : Before) (ls : List Line) → NoLine unreadable b ls → NoLine out_of_range b' ls → ls ≡ map (row true) (map row_of ls)
lines_rows b b' [] e f = refl
lines_rows b b' (l ∷ ls) e f =
    ap₂ ◌∷◌ (line_row b b' l e.0 f.0) (lines_rows (after b l) (after b' l) ls e.1 f.1)

lines_held : (b b' : Before) (ps : List (List ℕ)) → NoLine unreadable b (lines_read ps) → NoLine out_of_range b' (lines_read ps)
    → Each RowHeld (map row_of (lines_read ps))
unfolding lines_read
lines_held b b' [] e f = tt
lines_held b b' ([] ∷ []) e f = tt
lines_held b b' ((x ∷ xs) ∷ []) e f = clash refl (unfold unreadable in e.0)
lines_held b b' (p ∷ q ∷ ps) e f = (
  record_held (parts TAB p) (row_of (line_read p)) (unfold line_read in line_row b b' (line_read p) e.0 f.0),
  lines_held (after b (line_read p)) (after b' (line_read p)) (q ∷ ps) e.1 f.1,
)

-- Refusal 1: the sections rise.
lines_rise : (b : Before) (ls : List Line) → NoLine unreadable b ls → Rising b.section (map row_of ls)
unfolding unreadable row_of after
lines_rise b [] e = tt
lines_rise b (unread ∷ ls) e = clash refl e.0
lines_rise b (row fits r ∷ ls) e = (ltb-false (section_in r) b.section e.0, lines_rise (after b (row fits r)) ls e.1)

-- Refusal 2: no section has more records than its most.
abbrev AtMost : List ℕ → List ℕ → Type 0
AtMost counts most = (s : ℕ) → get_or counts s 0 ≤ get_or most s 0

counted_most : (counts most r : List ℕ) → AtMost counts most → leb (get_or most (section_in r) 0) (get_or counts (section_in r) 0) ≡ false → AtMost (counted counts r) most
unfolding counted
counted_most counts most r low e s =
    go (eqb s (section_in r)) (ltb (section_in r) (length counts)) refl refl
  where
    more : ℕ
    more = suc (get_or counts (section_in r) 0)

    go : (t u : Bool) → eqb s (section_in r) ≡ t → ltb (section_in r) (length counts) ≡ u → get_or (set counts (section_in r) more) s 0 ≤ get_or most s 0
    go false u is inside = rw (get_or-set_other counts (section_in r) s more 0 (eqb-false s (section_in r) is)) (low s)
    go true false is inside = rw (set_out counts (section_in r) more (ltb-false (section_in r) (length counts) inside)) (low s)
    go true true is inside =
        let same : s ≡ section_in r = eqb-true s (section_in r) is in
        let h = leb-false (get_or most (section_in r) 0) (get_or counts (section_in r) 0) e in
        rw (same, get_or-set_same counts (section_in r) more 0 (ltb-true (section_in r) (length counts) inside)) h

lines_most : (most : List ℕ) (b b' : Before) (ls : List Line) → NoLine unreadable b' ls → NoLine (over_most most) b ls → AtMost b.counts most
    → AtMost (counted_all b.counts (map row_of ls)) most
unfolding unreadable over_most row_of after counted_all
lines_most most b b' [] e f low = low
lines_most most b b' (unread ∷ ls) e f low = clash refl e.0
lines_most most b b' (row fits r ∷ ls) e f low =
    lines_most most (after b (row fits r)) (after b' (row fits r)) ls e.1 f.1 (counted_most b.counts most r low f.0)

-- What an accepted reading says ------------------------------------------------------------------------------------------------------------

-- An accepted sheet: its lines are its rows, each row is a record of its section's table, sections rise, and each has at most its most records.
pub record Accepted (most : Counts) (text : List ℕ) (l : List (List ℕ)) : Type 0 where
  pub whole : rows_from text ≡ l
  pub lines : sheet_lines text ≡ map (row true) l
  pub held : Each RowHeld l
  pub rising : Rising 0 l
  pub fewest : (s : ℕ) → get_or (counted_all (replicate SECTIONS 0) l) s 0 ≤ get_or (listed most) s 0

pub zeros_at : (n s : ℕ) → ◌≡◌ {A = ℕ} (get_or (replicate n 0) s 0) 0
zeros_at zero s = refl
zeros_at (suc n) zero = refl
zeros_at (suc n) (suc s) = zeros_at n s

zeros_most : (n : ℕ) (most : List ℕ) → AtMost (replicate n 0) most
zeros_most n most s = rw (zeros_at n s) (zero-le {n = get_or most s 0})

pub accepted : (most : Counts) (text : List ℕ) (l : List (List ℕ)) → reading most text ≡ rows l → Accepted most text l
unfolding sheet_lines rows_from
accepted most text l e =
    let ls : List Line = sheet_lines text in
    let none = unrefused most text l e in
    let same : map row_of ls ≡ l = none.3 in
    let one = first_none unreadable no_lines 0 ls none.0 in
    let two = first_none (over_most (listed most)) no_lines 0 ls none.1 in
    let three = first_none out_of_range no_lines 0 ls none.2 in
    rw (← same)
    (record {
      whole = refl;
      lines = lines_rows no_lines no_lines ls one three;
      held = lines_held no_lines no_lines (parts NEWLINE text) one three;
      rising = lines_rise no_lines ls one;
      fewest = lines_most (listed most) no_lines no_lines ls one two (zeros_most SECTIONS (listed most));
    })

-- What is accepted at some most is accepted at a greater one.
pub accepted_more : (most more : Counts) (text : List ℕ) (l : List (List ℕ)) → ((s : ℕ) → get_or (listed most) s 0 ≤ get_or (listed more) s 0)
    → Accepted most text l → Accepted more text l
accepted_more most more text l low a =
    record {
      whole = a.whole;
      lines = a.lines;
      held = a.held;
      rising = a.rising;
      fewest = λ s. let f = a.fewest s in let g = low s in omega arith;
    }

-- The fields by name -------------------------------------------------------------------------------------------------------------------------

-- A number within a range; one that may be missing.
abbrev pub Within : ℕ → ℕ → ℕ → Type 0
Within low high v = (low ≤ v) × (v ≤ high)

abbrev pub MayBe : ℕ → ℕ → ℕ → Type 0
MayBe low high v = eqb v MISSING ≡ false → Within low high v

-- a coordinate, as it is held
abbrev pub COORDINATE_LOW : ℕ
COORDINATE_LOW = ORIGIN - COORDINATE_MOST

abbrev pub COORDINATE_HIGH : ℕ
COORDINATE_HIGH = ORIGIN + COORDINATE_MOST

module _ {origin low high : ℕ} {before : Bool} {v : ℕ} where
  never_missing : HeldAt (record { origin = origin; low = low; high = high; gap = Never }) before v → Within low high v
  unfolding allowed
  never_missing h = h.range (not-true (eqb v MISSING) h.fitting)

  as_before : HeldAt (record { origin = origin; low = low; high = high; gap = AsBefore }) before v → eqb v MISSING ≡ before
  unfolding allowed
  as_before h = go before (eqb v MISSING) h.fitting
    where
      go : (s t : Bool) → beq s t ≡ true → t ≡ s
      go true true e = refl
      go true false e = clash e refl
      go false true e = clash e refl
      go false false e = refl

pub record PageRow (r : List ℕ) : Type 0 where
  pub min_y : MayBe COORDINATE_LOW COORDINATE_HIGH (get_or r 1 0)
  pub z : Within COORDINATE_LOW COORDINATE_HIGH (get_or r 2 0)

pub record NodeRow (r : List ℕ) : Type 0 where
  pub id : Within 0 ID_MOST (get_or r 1 0)
  pub kind : Within 0 5 (get_or r 2 0)
  pub class : Within 0 2 (get_or r 3 0)
  pub pin : Within 0 1 (get_or r 4 0)
  pub half_x : Within 1 HALF_MOST (get_or r 5 0)
  pub half_y : Within 1 HALF_MOST (get_or r 6 0)
  pub rotation : Within 0 3 (get_or r 7 0)
  pub x : MayBe COORDINATE_LOW COORDINATE_HIGH (get_or r 8 0)
  pub y : MayBe COORDINATE_LOW COORDINATE_HIGH (get_or r 9 0)
  pub xy : eqb (get_or r 9 0) MISSING ≡ eqb (get_or r 8 0) MISSING
  pub page : MayBe 0 PAGE_MOST (get_or r 10 0)
  pub down : MayBe COORDINATE_LOW COORDINATE_HIGH (get_or r 11 0)
  pub page_down : eqb (get_or r 11 0) MISSING ≡ eqb (get_or r 10 0) MISSING
  pub line : MayBe 0 ID_MOST (get_or r 12 0)

pub record ChipRow (r : List ℕ) : Type 0 where
  pub id : Within 0 ID_MOST (get_or r 1 0)
  pub parent : MayBe 0 ID_MOST (get_or r 2 0)

pub record InnerRow (r : List ℕ) : Type 0 where
  pub id : Within 0 ID_MOST (get_or r 1 0)
  pub chip : Within 0 ID_MOST (get_or r 2 0)
  pub class : Within 0 2 (get_or r 3 0)

pub record ExecRow (r : List ℕ) : Type 0 where
  pub node : Within 0 ID_MOST (get_or r 1 0)
  pub port : Within 0 PORT_MOST (get_or r 2 0)

pub record WireRow (r : List ℕ) : Type 0 where
  pub source_node : Within 0 ID_MOST (get_or r 1 0)
  pub source_port : Within 0 PORT_MOST (get_or r 2 0)
  pub target_node : Within 0 ID_MOST (get_or r 3 0)
  pub target_port : Within 0 PORT_MOST (get_or r 4 0)

module _ (r : List ℕ) (h : RowHeld r) where
  section_held : (s : ℕ) → section_in r ≡ s → Held (columns_of s) false 1 r
  section_held s e = subst (λ (n : ℕ). Held (columns_of n) false 1 r) e h.held

  pub page_row_lem : section_in r ≡ PAGES → PageRow r
  page_row_lem e = let f = section_held PAGES e in record { min_y = f.0.range; z = never_missing f.1.0 }

  pub node_row : section_in r ≡ NODES → NodeRow r
  node_row e =
      let f = section_held NODES e in
      let g = f.1.1.1.1.1.1.1 in
      record {
        id = never_missing f.0;
        kind = never_missing f.1.0;
        class = never_missing f.1.1.0;
        pin = never_missing f.1.1.1.0;
        half_x = never_missing f.1.1.1.1.0;
        half_y = never_missing f.1.1.1.1.1.0;
        rotation = never_missing f.1.1.1.1.1.1.0;
        x = g.0.range;
        y = g.1.0.range;
        xy = as_before g.1.0;
        page = g.1.1.0.range;
        down = g.1.1.1.0.range;
        page_down = as_before g.1.1.1.0;
        line = g.1.1.1.1.0.range;
      }

  pub chip_row : section_in r ≡ CHIPS → ChipRow r
  chip_row e = let f = section_held CHIPS e in record { id = never_missing f.0; parent = f.1.0.range }

  pub inner_row : section_in r ≡ INNER → InnerRow r
  inner_row e = let f = section_held INNER e in record { id = never_missing f.0; chip = never_missing f.1.0; class = never_missing f.1.1.0 }

  pub exec_row : section_in r ≡ EXECS → ExecRow r
  exec_row e = let f = section_held EXECS e in record { node = never_missing f.0; port = never_missing f.1.0 }

  pub wire_row_lem : section_in r ≡ WIRES → WireRow r
  wire_row_lem e =
      let f = section_held WIRES e in
      record { source_node = never_missing f.0; source_port = never_missing f.1.0; target_node = never_missing f.1.1.0; target_port = never_missing f.1.1.1.0 }
