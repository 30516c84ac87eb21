-- The line at the front of a text, and the lines after it.
use Rattle.std.proofs.Common.{◌≡◌, ℕ, suc, ◌+◌, ◌<◌, ◌≤◌, Bool, true, false, eqb, List, [], ◌∷◌, ◌++◌, length, get_or, drop, sym, refl, ap, ◌∙◌, arith, length-drop, drop_of_length-le, drop-cons, drop-drop, eq-eqb, ne_eqb, eqb-true}
use lib.Arith.{lt_of_le-ne}
use borrow.Author.Tests.{eqb-false}
use Rattle.sheet.specs.declared.line.LineAt.{LineAt}
use Rattle.std.specs.Prelude.{Option, Some}
use Rattle.sheet.specs.Text.{TAB, NEWLINE, parts, part_of, line_of}
use Rattle.sheet.specs.Table.{SECTIONS, letters, columns_of, id}
use Rattle.sheet.specs.Record.{unread, place_of, section_of, fields_read, record_read, line_read, empty_row}
use Rattle.sheet.specs.Reading.{lines_read, sheet_lines}
use Rattle.sheet.specs.Answer.{front_line}
use Rattle.sheet.specs.Walk.{has, ended, fields_of, fields_from, line_end, LineSays, Names}
use Rattle.base.proofs.Bools.{never, clash}
use Rattle.sheet.proofs.Parts.{Cut, whole, cut, cut_at, drop_past, parts_free, parts_cut, parts_some, part_free, part_cut, part_ends, part_goes, part_short}
use Rattle.sheet.proofs.Fields.{Front, none, only, tabbed, front_of, fields_only, only_field, fields_tabbed, ended_tabbed, end_tabbed, read_ended}
use Rattle.sheet.proofs.Columns.{spread}
use Rattle.sheet.proofs.Turns.{says_as}

-- the text after the line at its front
abbrev pub past_line : List ℕ → List ℕ
past_line t = drop (suc (length (line_of t))) t

-- the lines of a text, from its front on
pub lines_none : sheet_lines [] ≡ []
unfolding sheet_lines lines_read parts
lines_none = refl

pub lines_unended : (b : ℕ) (t : List ℕ) → ended (b ∷ t) ≡ false → sheet_lines (b ∷ t) ≡ unread ∷ []
unfolding sheet_lines lines_read
lines_unended b t e = rw (parts_free NEWLINE (b ∷ t) e)

pub lines_ended : (t : List ℕ) → ended t ≡ true → sheet_lines t ≡ line_read (line_of t) ∷ sheet_lines (past_line t)
unfolding sheet_lines lines_read line_of
lines_ended t e = go (cut_at NEWLINE t) e
  where
    go : {t : List ℕ} → Cut NEWLINE t → ended t ≡ true → sheet_lines t ≡ line_read (part_of NEWLINE t) ∷ sheet_lines (drop (suc (length (part_of NEWLINE t))) t)
    go (whole t n) e = clash e n
    go (cut l u n) e = rw (part_cut NEWLINE l u n, drop_past l NEWLINE u, parts_cut NEWLINE l u n) (rw (parts_some NEWLINE u))

front_unended : (t : List ℕ) → ended t ≡ false → front_line (sheet_lines t) ≡ unread
unfolding front_line
front_unended [] e = rw lines_none
front_unended (b ∷ t) e = rw (lines_unended b t e)

front_ended : (t : List ℕ) → ended t ≡ true → front_line (sheet_lines t) ≡ record_read (fields_of t)
unfolding front_line line_read fields_of
front_ended t e = rw (lines_ended t e)

-- a line whose record can't be read, ended or not
front_bad : (t : List ℕ) (fs : List (List ℕ)) → fields_of t ≡ fs → record_read fs ≡ unread → front_line (sheet_lines t) ≡ unread
front_bad t fs p e = go (ended t) refl
  where
    go : (x : Bool) → ended t ≡ x → front_line (sheet_lines t) ≡ unread
    go true n = front_ended t n ∙ (ap record_read p ∙ e)
    go false n = front_unended t n

-- Sections.

pub place_most : (b : ℕ) (ls : List ℕ) (s : ℕ) → s + length ls ≤ SECTIONS → place_of b ls s ≤ SECTIONS
unfolding place_of
place_most b [] s h = omega arith
place_most b (l ∷ ls) s h = go (eqb b l) refl (place_most b ls (suc s) (omega arith))
  where
    go : (x : Bool) → eqb b l ≡ x → place_of b ls (suc s) ≤ SECTIONS → place_of b (l ∷ ls) s ≤ SECTIONS
    go true e p = rw (e, place_of) (omega arith)
    go false e p = rw (e, place_of) p

record_none : (f : List ℕ) (fs : List (List ℕ)) → section_of f ≡ SECTIONS → record_read (f ∷ fs) ≡ unread
unfolding record_read
record_none f fs e = rw (e, record_read)

record_some : (f : List ℕ) (fs : List (List ℕ)) → section_of f < SECTIONS → record_read (f ∷ fs) ≡ fields_read (columns_of (section_of f)) fs false true 1 (empty_row (section_of f))
unfolding record_read
record_some f fs h = rw (ne_eqb (section_of f) SECTIONS (λ (e : section_of f ≡ SECTIONS). omega arith), record_read)

pub section_most : (f : List ℕ) → section_of f ≤ SECTIONS
unfolding section_of
section_most [] = omega arith
section_most (b ∷ []) = place_most b letters 0 (omega arith)
section_most (b ∷ c ∷ f) = omega arith

-- each section has fields
record_empty : (f : List ℕ) → record_read (f ∷ []) ≡ unread
unfolding fields_read
record_empty f = go (eqb (section_of f) SECTIONS) refl
  where
    s : ℕ
    s = section_of f

    fields : s < SECTIONS → fields_read (columns_of s) [] false true 1 (empty_row s) ≡ unread
    fields h =
        rw (drop-cons (columns_of s) 0 id (spread s h).some)

    go : (x : Bool) → eqb s SECTIONS ≡ x → record_read (f ∷ []) ≡ unread
    go true e = record_none f [] (eqb-true s SECTIONS e)
    go false e =
        let h : s < SECTIONS = lt_of_le-ne (section_most f) (eqb-false s SECTIONS e) in
        record_some f [] h ∙ fields h

-- A line's first field names a section where it is one byte, a section's letter.

first_tab : (b : ℕ) (t : List ℕ) → eqb b TAB ≡ true → section_of (part_of TAB (b ∷ t)) ≡ SECTIONS
unfolding section_of
first_tab b t e = rw (part_ends TAB b t e) refl

letter_tab : (b : ℕ) → eqb b TAB ≡ true → place_of b letters 0 ≡ SECTIONS
unfolding place_of
letter_tab b e = rw (eqb-true b TAB e) refl

one_byte : (b : ℕ) (t : List ℕ) → part_of TAB t ≡ [] → section_of (part_of TAB (b ∷ t)) ≡ place_of b letters 0
unfolding section_of
one_byte b t p = go (eqb b TAB) refl
  where
    go : (x : Bool) → eqb b TAB ≡ x → section_of (part_of TAB (b ∷ t)) ≡ place_of b letters 0
    go true e = first_tab b t e ∙ sym (letter_tab b e)
    go false e = rw (part_goes TAB b t e, p) refl

two_bytes : (b c : ℕ) (t : List ℕ) → eqb c TAB ≡ false → section_of (part_of TAB (b ∷ c ∷ t)) ≡ SECTIONS
unfolding section_of
two_bytes b c t n = go (eqb b TAB) refl
  where
    go : (x : Bool) → eqb b TAB ≡ x → section_of (part_of TAB (b ∷ c ∷ t)) ≡ SECTIONS
    go true e = first_tab b (c ∷ t) e
    go false e = rw (part_goes TAB b (c ∷ t) e, part_goes TAB c t n) refl

pub section_letter : (t : List ℕ) → 0 < length t → (1 < length t → get_or t 1 0 ≡ TAB) → section_of (part_of TAB t) ≡ place_of (get_or t 0 0) letters 0
unfolding has
section_letter [] h e = absurd (omega arith)
section_letter (b ∷ []) h e = one_byte b [] (part_free TAB [] refl)
section_letter (b ∷ c ∷ t) h e = one_byte b (c ∷ t) (part_ends TAB c t (eq-eqb c TAB (e (omega arith))))

pub section_nothing : (t : List ℕ) → length t < 1 → section_of (part_of TAB t) ≡ SECTIONS
unfolding has section_of
section_nothing [] h = rw (part_free TAB [] refl) refl
section_nothing (b ∷ t) h = absurd (omega arith)

pub section_longer : (t : List ℕ) → 1 < length t → (get_or t 1 0 ≡ TAB → ⊥) → section_of (part_of TAB t) ≡ SECTIONS
section_longer [] h n = absurd (omega arith)
section_longer (b ∷ []) h n = absurd (omega arith)
section_longer (b ∷ c ∷ t) h n = two_bytes b c t (ne_eqb c TAB n)

-- What `line_at` finds: the part of the text that a tab ends names a section, or none.

-- no section's letter is byte 10
section_broken : (f g : List ℕ) → section_of (f ++ NEWLINE ∷ g) ≡ SECTIONS
unfolding section_of place_of
section_broken [] [] = refl
section_broken [] (c ∷ g) = refl
section_broken (b ∷ []) g = refl
section_broken (b ∷ c ∷ f) g = refl

-- a field that names a section has one byte
section_one : (f : List ℕ) → section_of f < SECTIONS → length f ≡ 1
unfolding section_of
section_one [] h = absurd (omega arith)
section_one (b ∷ []) h = refl
section_one (b ∷ c ∷ f) h = absurd (omega arith)

pub front_none : (t : List ℕ) → section_of (part_of TAB t) ≡ SECTIONS → front_line (sheet_lines t) ≡ unread
front_none t e = go (front_of t) e
  where
    go : {t : List ℕ} → Front t → section_of (part_of TAB t) ≡ SECTIONS → front_line (sheet_lines t) ≡ unread
    go (none t p q) e = front_unended t q
    go (only f u p q) e = front_bad (f ++ NEWLINE ∷ u) (f ∷ []) (fields_only f u p q) (record_empty f)
    go (tabbed f u p q) e = front_bad (f ++ TAB ∷ u) (f ∷ fields_of u) (fields_tabbed f u q p) (record_none f (fields_of u) (ap section_of (sym (part_cut TAB f u p)) ∙ e))

-- a section's letter and a tab: the section's fields follow
pub record Named (t : List ℕ) (at : ℕ) : Type 0 where
  pub fields : front_line (sheet_lines t) ≡ fields_from (columns_of (section_of (part_of TAB t))) (drop 2 t) false true 1 (empty_row (section_of (part_of TAB t)))
  pub ends : ended (drop 2 t) ≡ true → line_end at t ≡ line_end (at + 2) (drop 2 t)

named : (t : List ℕ) (at : ℕ) → section_of (part_of TAB t) < SECTIONS → Named t at
unfolding fields_from has
named t at h = go (front_of t) h
  where
    go : {t : List ℕ} → Front t → section_of (part_of TAB t) < SECTIONS → Named t at
    go (none t p q) h =
        let nothing : drop 2 t ≡ [] = drop_of_length-le t {i = 2} (omega (arith, section_one (part_of TAB t) h, ap length (part_free TAB t p))) in
        record {
          fields = front_unended t q ∙ sym (rw nothing);
          ends = λ e. let no : false ≡ true = ap ended (sym nothing) ∙ e in never cc;
        }
    go (only f u p q) h = absurd (omega (arith, h, ap section_of (only_field f u p) ∙ section_broken f (part_of TAB u)))
    go (tabbed f u p q) h =
        let here = part_cut TAB f u p in
        let one : length f ≡ 1 = section_one f (rw here at h) in
        let behind : drop 2 (f ++ TAB ∷ u) ≡ u = ap (λ (n : ℕ). drop (suc n) (f ++ TAB ∷ u)) (sym one) ∙ drop_past f TAB u in
        record {
          fields = rw (here, behind) (line (ended u) refl);
          ends = λ e. rw behind (omega (arith, end_tabbed f u q at));
        }
      where
        line : (x : Bool) → ended u ≡ x → front_line (sheet_lines (f ++ TAB ∷ u)) ≡ fields_from (columns_of (section_of f)) u false true 1 (empty_row (section_of f))
        line true n =
            front_ended (f ++ TAB ∷ u) (ended_tabbed f u q ∙ n)
            ∙ (ap record_read (fields_tabbed f u q p) ∙ (record_some f (fields_of u) (rw (part_cut TAB f u p) at h) ∙ rw (n, fields_from)))
        line false n = front_unended (f ++ TAB ∷ u) (ended_tabbed f u q ∙ n) ∙ rw (n, fields_from)

-- The same at a place of a text, where the field there names the section `s`: what is said of the fields is said of the line.
module _ (text : List ℕ) (at : ℕ) {field : List ℕ} (shown : field ≡ part_of TAB (drop at text)) {s : ℕ} (names : Names (section_of field) (Some s)) where
  same : section_of (part_of TAB (drop at text)) ≡ s
  same = ap section_of (sym shown) ∙ names.1

  known : section_of (part_of TAB (drop at text)) < SECTIONS
  known = rw same names.0

  pub front_room : at + 1 ≤ length text
  front_room = omega (arith, section_one (part_of TAB (drop at text)) known, part_short TAB (drop at text), length-drop at text)

  pub front_says : (x : Option LineAt) (stored : List ℕ)
      → LineSays (fields_from (columns_of s) (drop (at + 2) text) false true 1 (empty_row s)) (line_end (at + 2) (drop (at + 2) text)) x stored
      → LineSays (front_line (sheet_lines (drop at text))) (line_end at (drop at text)) x stored
  front_says x stored said =
      let n = named (drop at text) at known in
      let place : drop 2 (drop at text) ≡ drop (at + 2) text = drop-drop 2 at text in
      says_as x stored said (n.fields ∙ rw (place, same))
      (λ fits l r. n.ends (ap ended place ∙ read_ended (columns_of s) (drop (at + 2) text) false true 1 (empty_row s) fits l r) ∙ rw place)
