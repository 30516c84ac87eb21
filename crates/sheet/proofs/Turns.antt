-- The loop along the fields of a record: what holds whenever its test is reached, and one turn.
use Rattle.std.proofs.Common.{◌≡◌, ℕ, zero, suc, ◌+◌, ◌-◌, ◌<◌, ◌≤◌, Bool, true, false, ◌&&◌, cond, leb, List, [], ◌∷◌, ◌++◌, length, get_or, drop, sym, refl, ap, subst, ◌∙◌, add-one, arith, length-drop, drop_of_length-le, drop-cons, ne_eqb, le-leb}
use borrow.Author.Tests.{lt-leb}
use Rattle.sheet.specs.declared.line.CellFault.{CellFault}
use Rattle.sheet.specs.declared.line.CellFault.TheVariants.{OutOfRange, Malformed}
use Rattle.sheet.specs.declared.line.FieldAt.{FieldAt}
use Rattle.sheet.specs.declared.table.Column.{Column}
use Rattle.std.specs.Prelude.{Option, None, Some, Result, Ok, Err}
use Rattle.sheet.specs.declared.line.LineAt.{LineAt}
use lib.ListN.{length-append, get_or-append}
use lib.Seq.{get_or-append-add}
use borrow.Author.Tests.{le-ltb, lt-ltb}
use Rattle.std.proofs.lemmas.List.{get_or_default}
use Rattle.sheet.specs.Text.{TAB, NEWLINE, part_of}
use Rattle.sheet.specs.Number.{number}
use Rattle.sheet.specs.Table.{MISSING, SECTIONS, columns_of, id}
use Rattle.sheet.specs.Record.{Line, unread, row, empty_row, cell_of}
use Rattle.sheet.specs.Walk.{separator_at, ended, fields_from, line_end, is_gone, is_malformed, fits_after, row_after, FieldSays, LineRead, LineSays}
use Rattle.base.proofs.RunLaws.{zeros_at}
use Rattle.sheet.proofs.Parts.{part_short}
use Rattle.sheet.proofs.Cells.{gone_after}
use Rattle.sheet.proofs.Fields.{rest_read, end_read, Open, sep_before, field_in, turn_malformed, turn_goes, turn_open, keep_others, keep-length}
use Rattle.sheet.proofs.Columns.{spread, separator_is, sound_column}

-- the record of section `s` at `at` is what the fields passed leave of it: the columns from the i-th on, over the text from `next` on. The row's i-th number tells
-- whether the field before is missing, and behind it the row is blank. `next` goes past the text's end by a byte a field at most
pub record Along (text : List ℕ) (at s : ℕ) (r : List ℕ) (fits : Bool) (next i : ℕ) : Type 0 where
  pub high : i ≤ length (columns_of s)
  pub inside : next ≤ length text + suc i
  pub size : length r ≡ 16
  pub section : get_or r 0 0 ≡ s
  pub known : s < SECTIONS
  pub blank : (j : ℕ) → i < j → get_or r j 0 ≡ 0
  pub line : fields_from (columns_of s) (drop at text) false true 1 (empty_row s) ≡ rest_read (drop i (columns_of s)) (leb next (length text)) (drop next text) (is_gone (get_or r i 0)) fits (suc i) r
  pub ends : Open (drop i (columns_of s)) text next → line_end at (drop at text) ≡ end_read (drop i (columns_of s)) next (drop next text)

blank_row : (s j : ℕ) → 0 < j → get_or (empty_row s) j 0 ≡ 0
blank_row s zero h = absurd (omega arith)
blank_row s (suc j) h = zeros_at 15 j

pub along_start : (text : List ℕ) (at s : ℕ) (r : List ℕ) → s < SECTIONS → at ≤ suc (length text) → r ≡ empty_row s → Along text at s r true at 0
along_start text at s r h l p =
    let some : columns_of s ≡ get_or (columns_of s) 0 id ∷ drop 1 (columns_of s) = drop-cons (columns_of s) 0 id (spread s h).some in
    let there : is_gone s ≡ false = ne_eqb s MISSING (λ (e : s ≡ MISSING). omega arith) in
    record {
      high = omega arith;
      inside = omega arith;
      size = ap length p;
      section = ap (λ (q : List ℕ). get_or q 0 0) p;
      known = h;
      blank = λ j q. ap (λ (x : List ℕ). get_or x j 0) p ∙ blank_row s j q;
      line = rw p (rw (there, some));
      ends = λ o. rw some;
    }

-- a record is in range where what it had was and the field is
fits_both : (held : Result ℕ CellFault) (fits : Bool) → (fits && fits_after held true) ≡ fits_after held fits
fits_both (Ok v) true = refl
fits_both (Ok v) false = refl
fits_both (Err OutOfRange) true = refl
fits_both (Err OutOfRange) false = refl
fits_both (Err Malformed) true = refl
fits_both (Err Malformed) false = refl

-- one turn: the field at `next` in the i-th column
module _ {text : List ℕ} {at s : ℕ} {r : List ℕ} {fits : Bool} {next i : ℕ} (a : Along text at s r fits next i) (more : i < length (columns_of s)) {end : ℕ}
    (ends_in : end ≡ separator_at i (length (columns_of s) - 1)) where
  abbrev left : List Column
  left = drop (suc i) (columns_of s)

  abbrev column : Column
  column = get_or (columns_of s) i id

  abbrev before : Bool
  before = is_gone (get_or r i 0)

  abbrev field : List ℕ
  field = part_of end (drop next text)

  few : length (columns_of s) ≤ 15
  few = (spread s a.known).few

  next_column : drop i (columns_of s) ≡ column ∷ left
  next_column = drop-cons (columns_of s) i id more

  line_now : fields_from (columns_of s) (drop at text) false true 1 (empty_row s) ≡ fields_from (column ∷ left) (drop next text) before fits (suc i) r
  line_now = a.line ∙ ap (λ (cs : List Column). rest_read cs (leb next (length text)) (drop next text) before fits (suc i) r) next_column

  ends_now : ended (drop next text) ≡ true → line_end at (drop at text) ≡ line_end next (drop next text)
  ends_now = rw next_column at a.ends

  field_now : field ≡ field_in left (drop next text)
  field_now = ap (λ (b : ℕ). part_of b (drop next text)) (ends_in ∙ separator_is (columns_of s) i)

  pub turn_inside : next + length field ≤ length text + suc i
  turn_inside = omega (arith, a.inside, ap length field_now, part_short (sep_before left) (drop next text), length-drop next text)

  -- what it holds, as the code found it, and where the next field starts
  module _ {held : Result ℕ CellFault} (cell : held ≡ cell_of column before (number field)) where
    cell_now : held ≡ cell_of column before (number (field_in left (drop next text)))
    cell_now = cell ∙ ap (λ (f : List ℕ). cell_of column before (number f)) field_now

    behind_now : next + length field + 1 ≡ next + length (field_in left (drop next text)) + 1
    behind_now = ap (λ (l : List ℕ). next + length l + 1) field_now

    along_malformed : is_malformed held ≡ true → fields_from (columns_of s) (drop at text) false true 1 (empty_row s) ≡ unread
    along_malformed m = line_now ∙ turn_malformed column left before fits (suc i) r text next held (next + length field + 1) cell_now behind_now m

    along_turn : is_malformed held ≡ false → (r' : List ℕ) (fits' : Bool) → r' ≡ row_after held r (i + 1) → fits' ≡ fits_after held fits
        → Along text at s r' fits' (next + length field + 1) (i + 1)
    along_turn m r' fits' pr pf =
        let o = turn_open column left before fits (suc i) r text next held (next + length field + 1) cell_now behind_now m in
        let r'' : r' ≡ row_after held r (suc i) = rw (sym (add-one i)) pr in
        let gone = gone_after column before (sound_column s i a.known more) r (suc i) (omega (arith, a.size, more, few)) (a.blank (suc i) (omega arith))
        (number (field_in left (drop next text))) held cell_now m in
        record {
          high = omega (arith, more);
          inside = omega (arith, turn_inside);
          size = ap length pr ∙ (keep-length held r (i + 1) ∙ a.size);
          section = ap (λ (q : List ℕ). get_or q 0 0) pr ∙ (keep_others held r (i + 1) 0 (λ (e : 0 ≡ i + 1). omega arith) ∙ a.section);
          known = a.known;
          blank = λ j h. ap (λ (q : List ℕ). get_or q j 0) pr ∙ (keep_others held r (i + 1) j (λ (e : j ≡ i + 1). omega arith) ∙ a.blank j (omega arith));
          line = line_now
              ∙ (turn_goes column left before fits (suc i) r text next held (next + length field + 1) cell_now behind_now m
              ∙ rw (add-one i, r'', pf, gone));
          ends = rw (add-one i) (λ (h : Open left text (next + length field + 1)). ends_now (o h).0 ∙ (o h).1);
        }

  -- the same by what `field_at` says of it, whose column and places are read otherwise
  module _ {col : Column} {j k : ℕ} (is : col ≡ column) (here : j ≡ i) (there : k ≡ i + 1) (r' : List ℕ) where
    abbrev Says : Column → ℕ → ℕ → Option FieldAt → Type 0
    Says col j k = FieldSays (cell_of col (is_gone (get_or r j 0)) (number field)) (next + length field + 1) k r r'

    said : (x : Option FieldAt) → Says col j k x → Says column i (i + 1) x
    said x = subst (λ (d : Column). Says col j k x → Says d i (i + 1) x) is
        (subst (λ (m : ℕ). Says col j k x → Says col m (i + 1) x) here (subst (λ (m : ℕ). Says col j k x → Says col j m x) there (λ h. h)))

    pub turn_unread : Says col j k None → fields_from (columns_of s) (drop at text) false true 1 (empty_row s) ≡ unread
    turn_unread m = along_malformed refl (said None m)

    pub turn_read : (x : FieldAt) → Says col j k (Some x) → (fits' : Bool) → fits' ≡ (fits && x.fits) → Along text at s r' fits' x.next (i + 1)
    turn_read x m fits' f =
        let h = said (Some x) m in
        rw h.2 (along_turn refl h.0 r' fits' h.3 (f ∙ (ap (λ (b : Bool). fits && b) h.1 ∙ fits_both (cell_of column before (number field)) fits)))

-- The columns of a section but the last, and the last.
module _ (s : ℕ) (columns front : List Column) (last : Column) (is : columns ≡ columns_of s) (cut : columns ≡ front ++ last ∷ []) where
  pub front_long : suc (length front) ≡ length (columns_of s)
  front_long = omega (arith, ap length (sym is ∙ cut), length-append front (last ∷ []))

  pub front_column : (none : Column) (i : ℕ) → i < length front → get_or front i none ≡ get_or (columns_of s) i id
  front_column none i h = get_or_default front i none id h ∙ (sym (get_or-append front (last ∷ []) id i h) ∙ ap (λ (l : List Column). get_or l i id) (sym cut ∙ is))

  pub last_column : (i : ℕ) → i ≡ length front → last ≡ get_or (columns_of s) i id
  last_column i h = sym (get_or-append-add front (last ∷ []) 0 id) ∙ (ap (λ (m : ℕ). get_or (front ++ last ∷ []) m id) (omega arith) ∙ ap (λ (l : List Column). get_or l i id) (sym cut ∙ is))

  pub front_ends : (i : ℕ) → i < length front → TAB ≡ separator_at i (length (columns_of s) - 1)
  front_ends i h = sym (rw (lt-ltb i (length (columns_of s) - 1) (omega (arith, front_long))) refl)

  pub last_ends : (i : ℕ) → i ≡ length front → NEWLINE ≡ separator_at i (length (columns_of s) - 1)
  last_ends i h = sym (rw (le-ltb i (length (columns_of s) - 1) (omega (arith, front_long))) refl)

-- no column is left: the record is whole where the text has the byte behind its last field
module _ {text : List ℕ} {at s : ℕ} {r : List ℕ} {fits : Bool} {next i : ℕ} (a : Along text at s r fits next i) (over : length (columns_of s) ≤ i) where
  none_left : drop i (columns_of s) ≡ []
  none_left = drop_of_length-le (columns_of s) {i = i} over

  line_over : fields_from (columns_of s) (drop at text) false true 1 (empty_row s) ≡ cond (leb next (length text)) (row fits r) unread
  line_over = a.line ∙ ap (λ (cs : List Column). rest_read cs (leb next (length text)) (drop next text) (is_gone (get_or r i 0)) fits (suc i) r) none_left

  pub along_unended : length text < next → fields_from (columns_of s) (drop at text) false true 1 (empty_row s) ≡ unread
  along_unended h = line_over ∙ rw (lt-leb next (length text) h)

  pub along_done : next ≤ length text
      → LineRead (fields_from (columns_of s) (drop at text) false true 1 (empty_row s)) (line_end at (drop at text)) (record { fits = fits; section = s; next = next }) r
  along_done h = record { says = line_over ∙ rw (le-leb next (length text) h); section = a.section; known = a.known; ends = sym ((rw none_left at a.ends) h) }

-- what is said of a line is said of an equal one, which ends where it does if it was read
pub says_as : {line line' : Line} {next next' : ℕ} (x : Option LineAt) (stored : List ℕ) → LineSays line next x stored → line' ≡ line
    → ((fits : Bool) (l : List ℕ) → line ≡ row fits l → next' ≡ next) → LineSays line' next' x stored
says_as None stored s e n = e ∙ s
says_as (Some x) stored s e n = record { says = e ∙ s.says; section = s.section; known = s.known; ends = s.ends ∙ sym (n x.fits stored s.says) }
