-- The fields of a line, and one turn along the fields of a record.
use Rattle.std.proofs.Common.{◌≡◌, ℕ, suc, ◌+◌, ◌<◌, ◌≤◌, Bool, true, false, cond, eqb, ltb, leb, List, [], ◌∷◌, ◌++◌, length, get_or, drop, sym, refl, ap, ◌∙◌, subst, add-one, arith, length-append, length-drop, length-set, drop_of_length-le, get_or-set_other, drop-drop, ltb-false, ltb-true, le-ltb, lt-ltb, eqb-true, le-leb}
use borrow.Author.Tests.{lt-leb}
use Rattle.sheet.specs.declared.line.CellFault.{CellFault}
use Rattle.sheet.specs.declared.line.CellFault.TheVariants.{OutOfRange, Malformed}
use Rattle.sheet.specs.declared.table.Column.{Column}
use Rattle.std.specs.Prelude.{Result, Ok, Err}
use Rattle.sheet.specs.Text.{TAB, NEWLINE, parts, part_of, line_of}
use Rattle.sheet.specs.Number.{bad, number}
use Rattle.sheet.specs.Record.{Line, unread, row, is_missing, allowed, present, cell_of, fields_read}
use Rattle.sheet.specs.Walk.{has, ended, fields_of, fields_from, line_end, is_malformed, fits_after, row_after}
use Rattle.base.proofs.Bools.{never}
use Rattle.sheet.proofs.Parts.{Cut, whole, cut, cut_at, has_goes, has-append, has_there, drop_past, parts_free, parts_cut, parts_some, part_free, part_cut, part_goes, part_past}
use Rattle.sheet.proofs.Numbers.{number_broken}

-- The front of a text up to its first tab or byte 10: there is none of them, byte 10 ends a line of one field, or a tab ends a field.
pub data Front : List ℕ → Type 0 where
  none : (t : List ℕ) → has TAB t ≡ false → has NEWLINE t ≡ false → Front t
  only : (f u : List ℕ) → has TAB f ≡ false → has NEWLINE f ≡ false → Front (f ++ NEWLINE ∷ u)
  tabbed : (f u : List ℕ) → has TAB f ≡ false → has NEWLINE f ≡ false → Front (f ++ TAB ∷ u)

pub front_of : (t : List ℕ) → Front t
unfolding has
front_of [] = none [] refl refl
front_of (b ∷ t) = go (eqb b TAB) refl (eqb b NEWLINE) refl (front_of t)
  where
    go : {t : List ℕ} (x : Bool) → eqb b TAB ≡ x → (y : Bool) → eqb b NEWLINE ≡ y → Front t → Front (b ∷ t)
    go {t} true e y f r = subst (λ (z : ℕ). Front (z ∷ t)) (sym (eqb-true b TAB e)) (tabbed [] t refl refl)
    go {t} false e true f r = subst (λ (z : ℕ). Front (z ∷ t)) (sym (eqb-true b NEWLINE f)) (only [] t refl refl)
    go false e false f (none t p q) = none (b ∷ t) (has_goes TAB b t e p) (has_goes NEWLINE b t f q)
    go false e false f (only g u p q) = only (b ∷ g) u (has_goes TAB b g e p) (has_goes NEWLINE b g f q)
    go false e false f (tabbed g u p q) = tabbed (b ∷ g) u (has_goes TAB b g e p) (has_goes NEWLINE b g f q)

-- The fields of each.

pub fields_only : (f u : List ℕ) → has TAB f ≡ false → has NEWLINE f ≡ false → fields_of (f ++ NEWLINE ∷ u) ≡ f ∷ []
unfolding fields_of line_of
fields_only f u p q = ap (parts TAB) (part_cut NEWLINE f u q) ∙ parts_free TAB f p

-- up to the next tab, such a line goes on past its byte 10
pub only_field : (f u : List ℕ) → has TAB f ≡ false → part_of TAB (f ++ NEWLINE ∷ u) ≡ f ++ NEWLINE ∷ part_of TAB u
only_field f u p = part_past TAB f (NEWLINE ∷ u) p ∙ ap (λ (l : List ℕ). f ++ l) (part_goes TAB NEWLINE u refl)

module _ (f u : List ℕ) (q : has NEWLINE f ≡ false) where
  line_tabbed : line_of (f ++ TAB ∷ u) ≡ f ++ TAB ∷ line_of u
  unfolding line_of
  line_tabbed = part_past NEWLINE f (TAB ∷ u) q ∙ ap (λ (l : List ℕ). f ++ l) (part_goes NEWLINE TAB u refl)

  pub ended_tabbed : ended (f ++ TAB ∷ u) ≡ ended u
  unfolding has
  ended_tabbed = has-append NEWLINE f (TAB ∷ u) ∙ rw q

  pub fields_tabbed : has TAB f ≡ false → fields_of (f ++ TAB ∷ u) ≡ f ∷ fields_of u
  unfolding fields_of
  fields_tabbed p = ap (parts TAB) line_tabbed ∙ parts_cut TAB f (line_of u) p

  pub end_tabbed : (at : ℕ) → line_end at (f ++ TAB ∷ u) ≡ line_end (suc (at + length f)) u
  end_tabbed at = omega (arith, ap length line_tabbed, length-append f (TAB ∷ line_of u))

-- no field has a byte that parts fields or lines
tab_broken : (a b : List ℕ) → number (a ++ TAB ∷ b) ≡ bad
tab_broken a b = number_broken TAB refl refl a b

newline_broken : (a b : List ℕ) → number (a ++ NEWLINE ∷ b) ≡ bad
newline_broken a b = number_broken NEWLINE refl refl a b

tabbed_broken : (f u : List ℕ) → has NEWLINE f ≡ false → number (part_of NEWLINE (f ++ TAB ∷ u)) ≡ bad
unfolding line_of
tabbed_broken f u q = ap number (line_tabbed f u q) ∙ tab_broken f (line_of u)

fields_some : (u : List ℕ) → fields_of u ≡ part_of TAB (line_of u) ∷ drop 1 (fields_of u)
unfolding fields_of
fields_some u = parts_some TAB (line_of u)

-- One turn along the fields of a record.

-- the byte that ends a field before the columns `cs`, that field, and the text behind it
abbrev pub sep_before : List Column → ℕ
sep_before [] = NEWLINE
sep_before (c ∷ cs) = TAB

abbrev pub field_in : List Column → List ℕ → List ℕ
field_in cs t = part_of (sep_before cs) t

abbrev pub past : List Column → List ℕ → List ℕ
past cs t = drop (suc (length (field_in cs t))) t

-- a record of which the columns `cs` are left to read, from a text's front on: none left, and the record is whole if its last field was ended
abbrev pub rest_read : List Column → Bool → List ℕ → (before fits : Bool) (k : ℕ) → List ℕ → Line
rest_read [] there t before fits k r = cond there (row fits r) unread
rest_read (c ∷ cs) there t before fits k r = fields_from (c ∷ cs) t before fits k r

bad_malformed : (c : Column) (before : Bool) → cell_of c before bad ≡ Err Malformed
unfolding cell_of present
bad_malformed c before = go (allowed c.gap before false)
  where
    go : (b : Bool) → (elim b as (λ _. Result ℕ CellFault) [ true ↦ Err Malformed | false ↦ Err Malformed ]) ≡ Err Malformed
    go true = refl
    go false = refl

-- nothing can be read, malformed or not
neither : (b : Bool) → cond b unread unread ≡ unread
neither true = refl
neither false = refl

module _ (c : Column) (before fits : Bool) (k : ℕ) (r : List ℕ) where
  abbrev cell : List ℕ → Result ℕ CellFault
  cell f = cell_of c before (number f)

  -- a field of a record, and those behind it
  read_one : (cs : List Column) (f : List ℕ) (fs : List (List ℕ)) → fields_read (c ∷ cs) (f ∷ fs) before fits k r
      ≡ cond (is_malformed (cell f)) unread (fields_read cs fs (is_missing (number f)) (fits_after (cell f) fits) (suc k) (row_after (cell f) r k))
  unfolding fields_read
  read_one cs f fs = go (cell f) refl
    where
      go : (x : Result ℕ CellFault) → cell f ≡ x → fields_read (c ∷ cs) (f ∷ fs) before fits k r
          ≡ cond (is_malformed (cell f)) unread (fields_read cs fs (is_missing (number f)) (fits_after (cell f) fits) (suc k) (row_after (cell f) r k))
      go (Ok v) e = rw (e, fields_read)
      go (Err OutOfRange) e = rw (e, fields_read)
      go (Err Malformed) e = rw (e, fields_read)

  -- too few fields, or too many
  few : (d : Column) (cs : List Column) (f : List ℕ) → fields_read (c ∷ d ∷ cs) (f ∷ []) before fits k r ≡ unread
  unfolding fields_read
  few d cs f = read_one (d ∷ cs) f [] ∙ neither (is_malformed (cell f))

  many : (f g : List ℕ) (fs : List (List ℕ)) → fields_read (c ∷ []) (f ∷ g ∷ fs) before fits k r ≡ unread
  unfolding fields_read
  many f g fs = read_one [] f (g ∷ fs) ∙ neither (is_malformed (cell f))

  -- a line that does not end in byte 10 can't be read
  unended : (cs : List Column) (t : List ℕ) → ended t ≡ false → fields_from cs t before fits k r ≡ unread
  unfolding fields_from
  unended cs t e = rw (e, fields_from)

  from_fields : (cs : List Column) (t : List ℕ) (fs : List (List ℕ)) → fields_of t ≡ fs → fields_read cs fs before fits k r ≡ unread → fields_from cs t before fits k r ≡ unread
  unfolding fields_from
  from_fields cs t fs p e = go (ended t) refl
    where
      go : (b : Bool) → ended t ≡ b → fields_from cs t before fits k r ≡ unread
      go true n = rw (n, fields_from) (rw p e)
      go false n = unended cs t n

  -- what the field `f` leaves of a record, before the columns `cs` and the text `u`; one that is no number leaves nothing
  abbrev left : List Column → List ℕ → Bool → List ℕ → Line
  left cs f there u = cond (is_malformed (cell f)) unread (rest_read cs there u (is_missing (number f)) (fits_after (cell f) fits) (suc k) (row_after (cell f) r k))

  left_bad : (cs : List Column) (f : List ℕ) (there : Bool) (u : List ℕ) → number f ≡ bad → left cs f there u ≡ unread
  left_bad cs f there u e = rw (ap is_malformed (ap (cell_of c before) e ∙ bad_malformed c before))

  -- The field at the front of a text leaves what it holds, and the rest of the line.
  abbrev there : List Column → List ℕ → Bool
  there cs t = ltb (length (field_in cs t)) (length t)

  turn_last : (t : List ℕ) → fields_from (c ∷ []) t before fits k r ≡ left [] (field_in [] t) (there [] t) (past [] t)
  unfolding fields_from fields_read
  turn_last t = go (front_of t)
    where
      go : {t : List ℕ} → Front t → fields_from (c ∷ []) t before fits k r ≡ left [] (field_in [] t) (there [] t) (past [] t)
      go (none t p q) = unended (c ∷ []) t q ∙ sym (rw (part_free NEWLINE t q, le-ltb (length t) (length t) (omega arith)) (neither (is_malformed (cell t))))
      go (only f u p q) =
          let n : length f < length (f ++ NEWLINE ∷ u) = omega (arith, length-append f (NEWLINE ∷ u)) in
          rw (part_cut NEWLINE f u q, lt-ltb (length f) (length (f ++ NEWLINE ∷ u)) n) (rw (has_there NEWLINE f u, fields_from) (rw (fields_only f u p q) (read_one [] f [])))
      go (tabbed f u p q) =
          let t = f ++ TAB ∷ u in
          let g = part_of TAB (line_of u) in
          let gs = drop 1 (fields_of u) in
          from_fields (c ∷ []) t (f ∷ g ∷ gs) (fields_tabbed f u q p ∙ ap (λ (l : List (List ℕ)). f ∷ l) (fields_some u)) (many f g gs)
          ∙ sym (left_bad [] (part_of NEWLINE t) (there [] t) (past [] t) (tabbed_broken f u q))

  turn_more : (d : Column) (cs : List Column) (t : List ℕ) → fields_from (c ∷ d ∷ cs) t before fits k r ≡ left (d ∷ cs) (field_in (d ∷ cs) t) (there (d ∷ cs) t) (past (d ∷ cs) t)
  unfolding fields_from has
  turn_more d cs t = go (front_of t)
    where
      go : {t : List ℕ} → Front t → fields_from (c ∷ d ∷ cs) t before fits k r ≡ left (d ∷ cs) (field_in (d ∷ cs) t) (there (d ∷ cs) t) (past (d ∷ cs) t)
      go (none t p q) =
          unended (c ∷ d ∷ cs) t q ∙ sym (rw (part_free TAB t p, drop_of_length-le t {i = suc (length t)} (omega arith)) (neither (is_malformed (cell t))))
      go (only f u p q) =
          let t = f ++ NEWLINE ∷ u in
          from_fields (c ∷ d ∷ cs) t (f ∷ []) (fields_only f u p q) (few d cs f)
          ∙ sym (left_bad (d ∷ cs) (part_of TAB t) (there (d ∷ cs) t) (past (d ∷ cs) t) (ap number (only_field f u p) ∙ newline_broken f (part_of TAB u)))
      go (tabbed f u p q) = rw (part_cut TAB f u p, drop_past f TAB u) (next (ended u) refl)
        where
          next : (x : Bool) → ended u ≡ x → fields_from (c ∷ d ∷ cs) (f ++ TAB ∷ u) before fits k r ≡ left (d ∷ cs) f (ltb (length f) (length (f ++ TAB ∷ u))) u
          next true n = rw (ended_tabbed f u q ∙ n, fields_from) (rw (fields_tabbed f u q p) (read_one (d ∷ cs) f (fields_of u) ∙ rw (n, fields_from)))
          next false n = unended (c ∷ d ∷ cs) (f ++ TAB ∷ u) (ended_tabbed f u q ∙ n) ∙ sym (rw (n, fields_from) (neither (is_malformed (cell f))))

  turn_here : (cs : List Column) (t : List ℕ) → fields_from (c ∷ cs) t before fits k r ≡ left cs (field_in cs t) (there cs t) (past cs t)
  turn_here [] t = turn_last t
  turn_here (d ∷ cs) t = turn_more d cs t

-- The same turn as the code takes it: what `number_of` and `cell_of` found in the field at a place of a text, and how long it is.

-- whether the record's end is known: byte 10 is still to come, or the last field was ended
abbrev pub Open : List Column → List ℕ → ℕ → Type 0
Open [] text next = next ≤ length text
Open (c ∷ cs) text next = ended (drop next text) ≡ true

-- where such a record's next line starts
abbrev pub end_read : List Column → ℕ → List ℕ → ℕ
end_read [] at t = at
end_read (c ∷ cs) at t = line_end at t

-- a text with more in it than its first line has a byte 10
ended_part : (t : List ℕ) → length (line_of t) < length t → ended t ≡ true
unfolding line_of
ended_part t h = go (cut_at NEWLINE t) h
  where
    go : {t : List ℕ} → Cut NEWLINE t → length (part_of NEWLINE t) < length t → ended t ≡ true
    go (whole t e) h = absurd (omega (arith, h, ap length (part_free NEWLINE t e)))
    go (cut f u e) h = has_there NEWLINE f u

-- a field that is a number, with more of its line behind it, is ended by a tab
ended_field : (at : ℕ) (t : List ℕ) → (number (part_of TAB t) ≡ bad → ⊥) → ended (drop (suc (length (part_of TAB t))) t) ≡ true
    → (ended t ≡ true) × (line_end at t ≡ line_end (suc (at + length (part_of TAB t))) (drop (suc (length (part_of TAB t))) t))
unfolding has
ended_field at t n o = go (front_of t) n o
  where
    go : {t : List ℕ} → Front t → (number (part_of TAB t) ≡ bad → ⊥) → ended (drop (suc (length (part_of TAB t))) t) ≡ true
        → (ended t ≡ true) × (line_end at t ≡ line_end (suc (at + length (part_of TAB t))) (drop (suc (length (part_of TAB t))) t))
    go (none t p q) n o =
        let no : false ≡ true = ap ended (sym (drop_of_length-le t {i = suc (length (part_of TAB t))} (omega (arith, ap length (part_free TAB t p))))) ∙ o in
        never cc
    go (only f u p q) n o = absurd (n (ap number (only_field f u p) ∙ newline_broken f (part_of TAB u)))
    go (tabbed f u p q) n o =
        let here = part_cut TAB f u p in
        let behind : ended u ≡ true = rw (here, drop_past f TAB u) at o in
        (ended_tabbed f u q ∙ behind, rw (here, drop_past f TAB u) (end_tabbed f u q at))

opens : (cs : List Column) (text : List ℕ) (at next : ℕ) → next ≡ at + length (field_in cs (drop at text)) + 1 → (number (field_in cs (drop at text)) ≡ bad → ⊥)
    → past cs (drop at text) ≡ drop next text → Open cs text next → (ended (drop at text) ≡ true) × (line_end at (drop at text) ≡ end_read cs next (drop next text))
unfolding line_of
opens [] text at next e n p o = (ended_part (drop at text) (omega (arith, e, o, length-drop at text)), omega arith)
opens (d ∷ cs) text at next e n p o =
    let x = ended_field at (drop at text) n (ap ended p ∙ o) in
    (x.0, x.1 ∙ rw (p, e, add-one (at + length (part_of TAB (drop at text)))))

module _ (col : Column) (cs : List Column) (before fits : Bool) (k : ℕ) (r : List ℕ) (text : List ℕ) (at : ℕ) (held : Result ℕ CellFault) (next : ℕ)
    (cell : held ≡ cell_of col before (number (field_in cs (drop at text)))) (behind : next ≡ at + length (field_in cs (drop at text)) + 1) where
  abbrev front : List ℕ
  front = drop at text

  past_place : past cs front ≡ drop next text
  past_place =
      let e : at + suc (length (field_in cs front)) ≡ next = omega arith in
      drop-drop (suc (length (field_in cs front))) at text ∙ ap (λ (j : ℕ). drop j text) e

  there_place : ltb (length (field_in cs front)) (length front) ≡ leb next (length text)
  there_place = go (ltb (length (field_in cs front)) (length front)) refl
    where
      m : ℕ
      m = length (field_in cs front)

      go : (b : Bool) → ltb m (length front) ≡ b → b ≡ leb next (length text)
      go true e = sym (le-leb next (length text) (omega (arith, ltb-true m (length front) e, length-drop at text)))
      go false e = sym (lt-leb next (length text) (omega (arith, ltb-false m (length front) e, length-drop at text)))

  turned : fields_from (col ∷ cs) front before fits k r
      ≡ cond (is_malformed held) unread (rest_read cs (leb next (length text)) (drop next text) (is_missing (number (field_in cs front))) (fits_after held fits) (suc k) (row_after held r k))
  turned = rw (sym past_place, sym there_place, cell) (turn_here col before fits k r cs front)

  pub turn_malformed : is_malformed held ≡ true → fields_from (col ∷ cs) front before fits k r ≡ unread
  turn_malformed m = turned ∙ rw m

  module _ (fine : is_malformed held ≡ false) where
    pub turn_goes : fields_from (col ∷ cs) front before fits k r
        ≡ rest_read cs (leb next (length text)) (drop next text) (is_missing (number (field_in cs front))) (fits_after held fits) (suc k) (row_after held r k)
    turn_goes = turned ∙ rw fine

    some_number : number (field_in cs front) ≡ bad → ⊥
    some_number e =
        let h : held ≡ Err Malformed = cell ∙ (ap (cell_of col before) e ∙ bad_malformed col before) in
        let no : false ≡ true = sym fine ∙ ap is_malformed h in
        never cc

    pub turn_open : Open cs text next → (ended front ≡ true) × (line_end at front ≡ end_read cs next (drop next text))
    turn_open o = opens cs text at next behind some_number past_place o

-- a record that was read has its byte 10
pub read_ended : (cs : List Column) (t : List ℕ) (before fits : Bool) (k : ℕ) (r : List ℕ) (f : Bool) (l : List ℕ) → fields_from cs t before fits k r ≡ row f l → ended t ≡ true
unfolding fields_from
read_ended cs t before fits k r f l e = go (ended t) refl
  where
    go : (x : Bool) → ended t ≡ x → ended t ≡ true
    go true n = n
    go false n = let no : unread ≡ row f l = rw (n, fields_from) at e in never cc

-- a field takes its own place in the row, and no other
pub keep_others : (held : Result ℕ CellFault) (r : List ℕ) (k j : ℕ) → (j ≡ k → ⊥) → get_or (row_after held r k) j 0 ≡ get_or r j 0
keep_others (Ok v) r k j n = get_or-set_other r k j v 0 n
keep_others (Err OutOfRange) r k j n = refl
keep_others (Err Malformed) r k j n = refl

pub keep-length : (held : Result ℕ CellFault) (r : List ℕ) (k : ℕ) → length (row_after held r k) ≡ length r
keep-length (Ok v) r k = length-set r k v
keep-length (Err OutOfRange) r k = refl
keep-length (Err Malformed) r k = refl
