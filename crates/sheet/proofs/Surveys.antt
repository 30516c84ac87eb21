-- One pass over the lines of a sheet, and the refusals that it finds.
use Rattle.std.proofs.Common.{◌≡◌, ℕ, zero, suc, ◌+◌, ◌-◌, ◌<◌, ◌≤◌, Bool, true, false, not, eqb, leb, List, [], ◌∷◌, map, length, get_or, drop, set, replicate, sym, refl, ap, ◌∙◌, add-one, arith, length-append, length-drop, length-set, drop_of_length-le, get_or-set_other, get_or-set_same, drop-drop, le-ltb, lt-ltb, ne_eqb, eqb-true, Ok}
use Rattle.std.specs.Prelude.{Option, None, Some}
use lib.ListN.{length-map}
use borrow.Author.Tests.{eqb-false}
use Rattle.sheet.specs.declared.line.LineAt.{LineAt}
use Rattle.base.specs.declared.refusal.Reason.TheVariants.{Unread}
use Rattle.base.specs.Refusal.{refusal}
use Rattle.sheet.specs.declared.Survey.{Survey}
use Rattle.sheet.specs.Text.{NEWLINE, part_of, line_of}
use Rattle.sheet.specs.Table.{SECTIONS}
use Rattle.sheet.specs.Record.{Line, unread, row}
use Rattle.sheet.specs.Reading.{sheet_lines, row_of, section_in, counted, Before, after, no_lines, unreadable, over_most, out_of_range, NO_LINE, first, refused, rows, refusals, read_lines}
use Rattle.sheet.specs.Answer.{counted_all, counts_of, counts_from, front_line}
use Rattle.sheet.specs.Walk.{ended, line_end, LineRead, first_of, survey_of, survey_by}
use Rattle.base.proofs.Bools.{never, clash}
use Rattle.sheet.proofs.Parts.{Cut, whole, cut, cut_at, part_cut}
use Rattle.sheet.proofs.Lines.{past_line, lines_none, lines_unended, lines_ended}

-- The line at the front of a text and the lines after it, by what was said of it.

ended_inside : (t : List ℕ) → ended t ≡ true → length (line_of t) < length t
unfolding line_of
ended_inside t e = go (cut_at NEWLINE t) e
  where
    go : {t : List ℕ} → Cut NEWLINE t → ended t ≡ true → length (part_of NEWLINE t) < length t
    go (whole t n) e = clash e n
    go (cut l u n) e = omega (arith, ap length (part_cut NEWLINE l u n), length-append l (NEWLINE ∷ u))

-- a line that was read, with the lines after it
pub front_read : (t : List ℕ) (fits : Bool) (r : List ℕ) → front_line (sheet_lines t) ≡ row fits r
    → (sheet_lines t ≡ row fits r ∷ sheet_lines (past_line t)) × (length (line_of t) < length t)
unfolding front_line
front_read [] fits r e = never (cc lines_none)
front_read (b ∷ t) fits r e = go (ended (b ∷ t)) refl
  where
    go : (x : Bool) → ended (b ∷ t) ≡ x → (sheet_lines (b ∷ t) ≡ row fits r ∷ sheet_lines (past_line (b ∷ t))) × (length (line_of (b ∷ t)) < length (b ∷ t))
    go true n = (lines_ended (b ∷ t) n ∙ ap (λ (l : Line). l ∷ sheet_lines (past_line (b ∷ t))) (sym (ap front_line (lines_ended (b ∷ t) n)) ∙ e), ended_inside (b ∷ t) n)
    go false n =
        let q : unread ≡ row fits r = sym (ap front_line (lines_unended b t n)) ∙ e in
        never cc

-- a line that can't be read
front_unread : (b : ℕ) (t : List ℕ) → front_line (sheet_lines (b ∷ t)) ≡ unread → sheet_lines (b ∷ t) ≡ unread ∷ drop 1 (sheet_lines (b ∷ t))
unfolding front_line
front_unread b t e = go (ended (b ∷ t)) refl
  where
    go : (x : Bool) → ended (b ∷ t) ≡ x → sheet_lines (b ∷ t) ≡ unread ∷ drop 1 (sheet_lines (b ∷ t))
    go true n =
        let q = lines_ended (b ∷ t) n in
        rw q (ap (λ (l : Line). l ∷ sheet_lines (past_line (b ∷ t))) (sym (ap front_line q) ∙ e))
    go false n = rw (lines_unended b t n)

-- What `line_at` says, at a place of a text.
pub line_unread : (text : List ℕ) (at : ℕ) → front_line (sheet_lines (drop at text)) ≡ unread → at < length text → sheet_lines (drop at text) ≡ unread ∷ drop 1 (sheet_lines (drop at text))
line_unread text at e h = go (drop at text) (length-drop at text) e
  where
    go : (t : List ℕ) → length t ≡ length text - at → front_line (sheet_lines t) ≡ unread → sheet_lines t ≡ unread ∷ drop 1 (sheet_lines t)
    go [] l p = absurd (omega arith)
    go (b ∷ t) l p = front_unread b t p

pub line_read_lem : (text : List ℕ) (at : ℕ) {x : LineAt} {stored : List ℕ} → LineRead (front_line (sheet_lines (drop at text))) (line_end at (drop at text)) x stored
    → (sheet_lines (drop at text) ≡ row x.fits stored ∷ sheet_lines (drop x.next text)) × (at < x.next) × (x.next ≤ length text)
line_read_lem text at {x} {stored} said =
    let f = front_read (drop at text) x.fits stored said.says in
    let n : x.next ≡ at + suc (length (line_of (drop at text))) = omega (arith, said.ends) in
    let d = length-drop at text in (
      f.0 ∙ ap (λ (t : List ℕ). row x.fits stored ∷ sheet_lines t) (drop-drop (suc (length (line_of (drop at text)))) at text ∙ ap (λ (m : ℕ). drop m text) (sym n)),
      omega arith,
      omega (arith, f.1),
    )

-- The first lines of the refusals, as the pass keeps them.

-- an earlier line, or else another
abbrev pub or_else : Option ℕ → ℕ → ℕ
or_else None other = other
or_else (Some found) other = found

-- one line more
pub kept_step : (p : Before → Line → Bool) (b : Before) (n : ℕ) (l : Line) (ls : List Line) (found : Option ℕ)
    → or_else found (first p b n (l ∷ ls)) ≡ or_else (first_of found (p b l) n) (first p (after b l) (suc n) ls)
unfolding first
kept_step p b n l ls (Some found) = refl
kept_step p b n l ls None = go (p b l) refl
  where
    go : (y : Bool) → p b l ≡ y → first p b n (l ∷ ls) ≡ or_else (first_of None (p b l) n) (first p (after b l) (suc n) ls)
    go true f = rw (f, first)
    go false f = rw (f, first)

-- a line that is kept is one: lines are counted from 1
abbrev pub IsLine : Option ℕ → Type 0
IsLine None = Unit {0}
IsLine (Some line) = line ≡ NO_LINE → ⊥

is_line_step : (found : Option ℕ) (here : Bool) (n : ℕ) → IsLine found → 0 < n → IsLine (first_of found here n)
is_line_step (Some found) here n k h = k
is_line_step None true n k h = λ (q : n ≡ 0). omega arith
is_line_step None false n k h = tt

-- the state of the pass at a line: `line` is its number, `at` its place
pub record Tallied (text most : List ℕ) (section : ℕ) (counts : List ℕ) (over wide : Option ℕ) (at line : ℕ) : Type 0 where
  pub inside : at ≤ length text
  pub positive : 0 < line
  pub few : line ≤ at + 1
  pub long : length counts ≡ SECTIONS
  pub each : (i : ℕ) → get_or counts i 0 ≤ at
  pub ones : first unreadable no_lines 1 (sheet_lines text) ≡ first unreadable (record { section = section; counts = counts }) line (sheet_lines (drop at text))
  pub twos : first (over_most most) no_lines 1 (sheet_lines text) ≡ or_else over (first (over_most most) (record { section = section; counts = counts }) line (sheet_lines (drop at text)))
  pub threes : first out_of_range no_lines 1 (sheet_lines text) ≡ or_else wide (first out_of_range (record { section = section; counts = counts }) line (sheet_lines (drop at text)))
  pub tally : counted_all (replicate SECTIONS 0) (map row_of (sheet_lines text)) ≡ counted_all counts (map row_of (sheet_lines (drop at text)))
  pub total : suc (length (sheet_lines text)) ≡ line + length (sheet_lines (drop at text))
  pub lines : IsLine over × IsLine wide

zeros_each : (n i k : ℕ) → get_or (replicate n 0) i 0 ≤ k
zeros_each zero i k = omega arith
zeros_each (suc n) zero k = omega arith
zeros_each (suc n) (suc i) k = zeros_each n i k

pub tally_start : (text most : List ℕ) → Tallied text most 0 (replicate SECTIONS 0) None None 0 1
tally_start text most =
    record {
      inside = omega arith;
      positive = omega arith;
      few = omega arith;
      long = refl;
      each = λ i. zeros_each SECTIONS i 0;
      ones = refl;
      twos = refl;
      threes = refl;
      tally = refl;
      total = omega arith;
      lines = (tt, tt);
    }

-- a line was found that can't be read, or stands out of order
found_one : (most : List ℕ) (lines : List Line) (line : ℕ) → 0 < line → first unreadable no_lines 1 lines ≡ line → read_lines most lines ≡ refused (refusal Unread line)
unfolding read_lines refusals
found_one most lines line h e = rw e (rw (ne_eqb line NO_LINE (λ (q : line ≡ 0). omega arith), refusals))

module _ {text most : List ℕ} {section : ℕ} {counts : List ℕ} {over wide : Option ℕ} {at line : ℕ} (t : Tallied text most section counts over wide at line) where
  abbrev state : Before
  state = record { section = section; counts = counts }

  pub tally_unread : at < length text → front_line (sheet_lines (drop at text)) ≡ unread → read_lines most (sheet_lines text) ≡ refused (refusal Unread line)
  unfolding first unreadable
  tally_unread more e = found_one most (sheet_lines text) line t.positive (t.ones ∙ rw (line_unread text at e more))

  module _ {x : LineAt} {stored : List ℕ} (said : LineRead (front_line (sheet_lines (drop at text))) (line_end at (drop at text)) x stored) where
    abbrev here : Line
    here = row x.fits stored

    abbrev rest : List Line
    rest = sheet_lines (drop x.next text)

    lines_here : sheet_lines (drop at text) ≡ here ∷ rest
    lines_here = (line_read_lem text at said).0

    section_here : section_in stored ≡ x.section
    section_here = said.section

    pub tally_unordered : x.section < section → read_lines most (sheet_lines text) ≡ refused (refusal Unread line)
    unfolding first unreadable
    tally_unordered h =
        found_one most (sheet_lines text) line t.positive
        (t.ones ∙ rw lines_here (rw (lt-ltb (section_in stored) section (omega (arith, section_here)), first)))

    -- the counts after this line
    module _ (counts' : List ℕ) (grown : counts' ≡ set counts x.section (get_or counts x.section 0 + 1)) where
      counts_here : counted counts stored ≡ counts'
      unfolding counted
      counts_here = rw section_here (sym (grown ∙ ap (set counts x.section) (add-one (get_or counts x.section 0))))

      state_here : after state here ≡ record { section = x.section; counts = counts' }
      unfolding after
      state_here = λ i. record { section = section_here i; counts = counts_here i }

      each_here : (i : ℕ) → get_or counts' i 0 ≤ x.next
      each_here i = go (eqb i x.section) refl
        where
          small : at < x.next
          small = (line_read_lem text at said).1

          inside : x.section < length counts
          inside = omega (arith, t.long, said.known)

          go : (b : Bool) → eqb i x.section ≡ b → get_or counts' i 0 ≤ x.next
          go true q =
              omega (
                arith,
                small,
                t.each x.section,
                ap (λ (l : List ℕ). get_or l i 0) grown ∙ (ap (λ (j : ℕ). get_or (set counts x.section (get_or counts x.section 0 + 1)) j 0) (eqb-true i x.section q) ∙ get_or-set_same counts x.section (get_or counts x.section 0 + 1) 0 inside),
              )
          go false q =
              omega (
                arith,
                small,
                t.each i,
                ap (λ (l : List ℕ). get_or l i 0) grown ∙ get_or-set_other counts x.section i (get_or counts x.section 0 + 1) 0 (eqb-false i x.section q),
              )

      ordered : section ≤ x.section → first unreadable state line (here ∷ rest) ≡ first unreadable (record { section = x.section; counts = counts' }) (line + 1) rest
      unfolding first unreadable
      ordered h =
          rw (le-ltb (section_in stored) section (omega (arith, section_here)), first)
          (rw (add-one line) (ap (λ (b : Before). first unreadable b (suc line) rest) state_here))

      over_here : over_most most state here ≡ leb (get_or most x.section 0) (get_or counts x.section 0)
      unfolding over_most
      over_here = rw section_here

      wide_here : out_of_range state here ≡ not x.fits
      unfolding out_of_range
      wide_here = refl

      tallied : counted_all counts (map row_of (here ∷ rest)) ≡ counted_all counts' (map row_of rest)
      unfolding counted_all row_of
      tallied = ap (λ (l : List ℕ). counted_all l (map row_of rest)) counts_here

      pub tally_step : section ≤ x.section → (over' wide' : Option ℕ)
          → over' ≡ first_of over (leb (get_or most x.section 0) (get_or counts x.section 0)) line → wide' ≡ first_of wide (not x.fits) line
          → Tallied text most x.section counts' over' wide' x.next (line + 1)
      tally_step h over' wide' po pw =
          let read = line_read_lem text at said in
          record {
            inside = read.2;
            positive = omega arith;
            few = omega (arith, read.1, t.few);
            long = ap length grown ∙ (length-set counts x.section (get_or counts x.section 0 + 1) ∙ t.long);
            each = each_here;
            ones = t.ones ∙ (ap (first unreadable state line) lines_here ∙ ordered h);
            twos = t.twos ∙ (ap (λ (l : List Line). or_else over (first (over_most most) state line l)) lines_here
                ∙ (kept_step (over_most most) state line here rest over ∙ rw (over_here, sym po, state_here, add-one line)));
            threes = t.threes ∙ (ap (λ (l : List Line). or_else wide (first out_of_range state line l)) lines_here
                ∙ (kept_step out_of_range state line here rest wide ∙ rw (wide_here, sym pw, state_here, add-one line)));
            tally = t.tally ∙ (ap (λ (l : List Line). counted_all counts (map row_of l)) lines_here ∙ tallied);
            total = omega (arith, t.total, ap length lines_here);
            lines = (rw po (is_line_step over _ line t.lines.0 t.positive), rw pw (is_line_step wide _ line t.lines.1 t.positive));
          }

  -- the sheet's end
  module _ (over-now : length text ≤ at) where
    none_left : sheet_lines (drop at text) ≡ []
    none_left = ap sheet_lines (drop_of_length-le text {i = at} over-now) ∙ lines_none

    no_one : first unreadable no_lines 1 (sheet_lines text) ≡ NO_LINE
    unfolding first
    no_one = t.ones ∙ rw none_left

    two_is : first (over_most most) no_lines 1 (sheet_lines text) ≡ or_else over NO_LINE
    unfolding first
    two_is = t.twos ∙ rw none_left

    three_is : first out_of_range no_lines 1 (sheet_lines text) ≡ or_else wide NO_LINE
    unfolding first
    three_is = t.threes ∙ rw none_left

    -- 2 before 3, by the lines kept
    pub tally_ends : (found : Survey) → found.counts ≡ counts_from counts → found.lines ≡ line - 1
        → survey_of found.rest (read_lines most (sheet_lines text)) ≡ survey_by over wide found
    unfolding read_lines refusals survey_of counts_of counted_all
    tally_ends found c p = rw (no_one, two_is, three_is) (go over wide t.lines.0 t.lines.1)
      where
        same_counts : counts_of (map row_of (sheet_lines text)) ≡ found.counts
        same_counts = rw (t.tally, none_left) (sym c)

        same_lines : length (map row_of (sheet_lines text)) ≡ found.lines
        same_lines = length-map (sheet_lines text) row_of ∙ omega (arith, t.total, ap length none_left, p)

        fine : survey_of found.rest (rows (map row_of (sheet_lines text))) ≡ Ok found
        fine = λ i. Ok (record { counts = same_counts i; lines = same_lines i; rest = found.rest })

        go : (o w : Option ℕ) → IsLine o → IsLine w
            → survey_of found.rest (refusals NO_LINE (or_else o NO_LINE) (or_else w NO_LINE) (rows (map row_of (sheet_lines text)))) ≡ survey_by o w found
        go (Some line) w i j = rw (ne_eqb line NO_LINE i, refusals)
        go None (Some line) i j = rw (ne_eqb line NO_LINE j, refusals)
        go None None i j = fine
