-- The rows of an accepted sheet are in range.
use Rattle.std.proofs.Common.{◌≡◌, ℕ, zero, suc, ◌+◌, ◌-◌, ◌<◌, ◌≤◌, Bool, true, false, ◌&&◌, eqb, leb, List, [], ◌∷◌, map, length, get_or, drop, set, sym, refl, ap, ◌∙◌, subst, inl, inr, add-zero, add-suc, suc-add, one-add, arith, length-set, get_or-drop, get_or-set_other, get_or-set_same, leb-true}
use lib.ListN.{length-map}
use lib.Seq.{drop-nil}
use lib.Arith.{lt_of_le-ne}
use borrow.Author.Tests.{eqb-false}
use Rattle.sheet.specs.declared.Counts.{Counts}
use Rattle.sheet.specs.declared.line.CellFault.{CellFault}
use Rattle.sheet.specs.declared.line.CellFault.TheVariants.{OutOfRange, Malformed}
use Rattle.sheet.specs.declared.table.Column.{Column}
use Rattle.sheet.specs.declared.table.Gap.{Gap}
use Rattle.sheet.specs.declared.table.Gap.TheVariants.{Never}
use Rattle.std.specs.Prelude.{Result, Ok, Err}
use Rattle.sheet.specs.Text.{parts, TAB, NEWLINE}
use Rattle.sheet.specs.Number.{Number, bad, missing, plus, minus, number}
use Rattle.sheet.specs.Table.{MISSING, SECTIONS, letters, columns_of, id}
use Rattle.sheet.specs.Record.{Line, unread, row, allowed, within, present, is_missing, cell_of, fields_read, section_of, record_read, line_read, empty_row}
use Rattle.sheet.specs.Reading.{rows, reading, lines_read, sheet_lines, row_of, section_in, Before, after, no_lines, first, out_of_range, NO_LINE}
use Rattle.sheet.specs.Range.{Held, InRange}
use Rattle.base.proofs.Bools.{never, and_left, and_right}
use Rattle.sheet.proofs.Lines.{place_most}
use Rattle.sheet.proofs.Columns.{spread}
use Rattle.sheet.proofs.Walks.{accepted, accepted_read, read_at, map-drop}

-- What one field holds.

within_range : (low high : ℕ) (fits : Bool) (v w : ℕ) → within low high fits v ≡ Ok w → (low ≤ w) × (w ≤ high)
unfolding within
within_range low high fits v w e = go (fits && leb low v && leb v high) refl
  where
    go : (b : Bool) → (fits && leb low v && leb v high) ≡ b → (low ≤ w) × (w ≤ high)
    go true p =
        let q : Ok v ≡ Ok w = rw (p, within) at e in
        let s : v ≡ w = cc in
        (omega (arith, leb-true low v (and_right fits (leb low v) (and_left (fits && leb low v) (leb v high) p))), omega (arith, leb-true v high (and_right (fits && leb low v) (leb v high) p)))
    go false p = let q : Err OutOfRange ≡ Ok w = rw (p, within) at e in never cc

gap_some : (gap : Gap) (before : Bool) → allowed gap before true ≡ true → gap ≡ Never → ⊥
unfolding allowed
gap_some gap before a e =
    let q : false ≡ true = rw e at a in
    never cc

cell_held : (c : Column) (before : Bool) (n : Number) (v : ℕ) → cell_of c before n ≡ Ok v → Held c v
unfolding cell_of present
cell_held c before n v e = go (allowed c.gap before (is_missing n)) refl n refl
  where
    by : (m : Number) → allowed c.gap before (is_missing m) ≡ true → present c m ≡ Ok v → Held c v
    by bad a p = never cc
    by missing a p = inl (let q : v ≡ MISSING = cc in q, gap_some c.gap before a)
    by (plus w) a p = inr (within_range c.low c.high true (c.origin + w) v p)
    by (minus w) a p = inr (within_range c.low c.high (leb w c.origin) (c.origin - w) v p)

    go : (b : Bool) → allowed c.gap before (is_missing n) ≡ b → (m : Number) → n ≡ m → Held c v
    go true a m p = by n a (rw (a, cell_of) at e)
    go false a m p = let q : Err Malformed ≡ Ok v = rw (a, cell_of) at e in never cc

-- What the fields of a record hold: those from the k-th number on, and the numbers before it as they were.
pub record Fields (cs : List Column) (k : ℕ) (r r' : List ℕ) : Type 0 where
  pub before : (i : ℕ) → i < k → get_or r' i 0 ≡ get_or r i 0
  pub held : (j : ℕ) → j < length cs → Held (get_or cs j id) (get_or r' (k + j) 0)
  pub long : length r' ≡ length r

fields_none : (k : ℕ) (r : List ℕ) → Fields [] k r r
fields_none k r = record { before = λ i h. refl; held = λ j h. absurd (omega arith); long = refl }

fields_more : (c : Column) (cs : List Column) (k v : ℕ) (r r' : List ℕ) → k < length r → Held c v → Fields cs (suc k) (set r k v) r' → Fields (c ∷ cs) k r r'
fields_more c cs k v r r' h a f =
    record {
      before = λ i l. f.before i (omega arith) ∙ get_or-set_other r k i v 0 (λ (e : i ≡ k). omega arith);
      held = go;
      long = f.long ∙ length-set r k v;
    }
  where
    go : (j : ℕ) → j < length (c ∷ cs) → Held (get_or (c ∷ cs) j id) (get_or r' (k + j) 0)
    go zero l = subst (Held c) (sym (ap (λ (n : ℕ). get_or r' n 0) (add-zero k) ∙ (f.before k (omega arith) ∙ get_or-set_same r k v 0 h))) a
    go (suc j) l = subst (λ (n : ℕ). Held (get_or cs j id) (get_or r' n 0)) (suc-add k j ∙ sym (add-suc k j)) (f.held j (omega arith))

-- once a number is out of range, the record is
wide_stays : (cs : List Column) (fs : List (List ℕ)) (before : Bool) (k : ℕ) (r r' : List ℕ) → fields_read cs fs before false k r ≡ row true r' → ⊥
unfolding fields_read
wide_stays [] [] before k r r' e = never cc
wide_stays [] (f ∷ fs) before k r r' e = never cc
wide_stays (c ∷ cs) [] before k r r' e = never cc
wide_stays (c ∷ cs) (f ∷ fs) before k r r' e = go (cell_of c before (number f)) refl (λ (v : ℕ). wide_stays cs fs (is_missing (number f)) (suc k) (set r k v) r') (wide_stays cs fs (is_missing (number f)) (suc k) r r')
  where
    go : (x : Result ℕ CellFault) → cell_of c before (number f) ≡ x
        → ((v : ℕ) → fields_read cs fs (is_missing (number f)) false (suc k) (set r k v) ≡ row true r' → ⊥)
        → (fields_read cs fs (is_missing (number f)) false (suc k) r ≡ row true r' → ⊥) → ⊥
    go (Ok v) p h w = h v (rw (p, fields_read) at e)
    go (Err OutOfRange) p h w = w (rw (p, fields_read) at e)
    go (Err Malformed) p h w = let q : unread ≡ row true r' = rw (p, fields_read) at e in never cc

fields_held : (cs : List Column) (fs : List (List ℕ)) (before : Bool) (k : ℕ) (r r' : List ℕ) → k + length cs ≤ length r → fields_read cs fs before true k r ≡ row true r' → Fields cs k r r'
unfolding fields_read
fields_held [] [] before k r r' h e = subst (Fields [] k r) (let q : r ≡ r' = cc in q) (fields_none k r)
fields_held [] (f ∷ fs) before k r r' h e = never cc
fields_held (c ∷ cs) [] before k r r' h e = never cc
fields_held (c ∷ cs) (f ∷ fs) before k r r' h e = go (cell_of c before (number f)) refl (λ (v : ℕ). fields_held cs fs (is_missing (number f)) (suc k) (set r k v) r')
  where
    go : (x : Result ℕ CellFault) → cell_of c before (number f) ≡ x
        → ((v : ℕ) → suc k + length cs ≤ length (set r k v) → fields_read cs fs (is_missing (number f)) true (suc k) (set r k v) ≡ row true r' → Fields cs (suc k) (set r k v) r')
        → Fields (c ∷ cs) k r r'
    go (Ok v) p k' =
        fields_more c cs k v r r' (omega arith) (cell_held c before (number f) v p) (k' v (omega (arith, length-set r k v)) (rw (p, fields_read) at e))
    go (Err OutOfRange) p k' = absurd (wide_stays cs fs (is_missing (number f)) (suc k) r r' (rw (p, fields_read) at e))
    go (Err Malformed) p k' = let q : unread ≡ row true r' = rw (p, fields_read) at e in never cc

-- a record that can be read and is in range

section_most : (f : List ℕ) → section_of f ≤ SECTIONS
unfolding section_of
section_most [] = omega arith
section_most (b ∷ []) = place_most b letters 0 (omega arith)
section_most (b ∷ c ∷ f) = omega arith

columns_few : (s : ℕ) → s < SECTIONS → 1 + length (columns_of s) ≤ 16
columns_few s h =
    omega (arith, (spread s h).few)

section_held : (s : ℕ) (fs : List (List ℕ)) (r : List ℕ) → s < SECTIONS → fields_read (columns_of s) fs false true 1 (empty_row s) ≡ row true r → InRange r
section_held s fs r h e =
    let f = fields_held (columns_of s) fs false 1 (empty_row s) r (columns_few s h) e in
    let same : section_in r ≡ s = f.before 0 (omega arith) in
    record {
      section = omega arith;
      fields = subst (λ (t : ℕ). (j : ℕ) → j < length (columns_of t) → Held (get_or (columns_of t) j id) (get_or r (suc j) 0)) (sym same)
          (λ j l. subst (λ (n : ℕ). Held (get_or (columns_of s) j id) (get_or r n 0)) (one-add j) (f.held j l));
      long = f.long;
    }

record_held : (fs : List (List ℕ)) (r : List ℕ) → record_read fs ≡ row true r → InRange r
unfolding record_read
record_held [] r e = never cc
record_held (l ∷ fs) r e = go (eqb (section_of l) SECTIONS) refl
  where
    go : (b : Bool) → eqb (section_of l) SECTIONS ≡ b → InRange r
    go true p = let q : unread ≡ row true r = rw (p, record_read) at e in never cc
    go false p = section_held (section_of l) fs r (lt_of_le-ne (section_most l) (eqb-false (section_of l) SECTIONS p)) (rw (p, record_read) at e)

-- the lines of a sheet
lines_held : (ps : List (List ℕ)) (k : ℕ) (r : List ℕ) (t : List Line) → drop k (lines_read ps) ≡ row true r ∷ t → InRange r
unfolding lines_read line_read
lines_held [] zero r t e = never cc
lines_held [] (suc k) r t e = never cc
lines_held ([] ∷ []) zero r t e = never cc
lines_held ([] ∷ []) (suc k) r t e = never cc
lines_held ((b ∷ bs) ∷ []) zero r t e = never cc
lines_held ((b ∷ bs) ∷ []) (suc k) r t e = let q : [] ≡ row true r ∷ t = sym (drop-nil k) ∙ e in never cc
lines_held (p ∷ q ∷ ps) zero r t e = record_held (parts TAB p) r (let x : record_read (parts TAB p) ≡ row true r = cc in x)
lines_held (p ∷ q ∷ ps) (suc k) r t e = lines_held (q ∷ ps) k r t e

-- no line out of range
all_fit : (b : Before) (n : ℕ) (ls : List Line) → 0 < n → first out_of_range b n ls ≡ NO_LINE → (k : ℕ) (fits : Bool) (r : List ℕ) (t : List Line)
    → drop k ls ≡ row fits r ∷ t → fits ≡ true
unfolding first out_of_range
all_fit b n [] h e zero fits r t d = never cc
all_fit b n [] h e (suc k) fits r t d = never cc
all_fit b n (unread ∷ ls) h e zero fits r t d = never cc
all_fit b n (unread ∷ ls) h e (suc k) fits r t d = all_fit (after b unread) (suc n) ls (omega arith) e k fits r t d
all_fit b n (row true r' ∷ ls) h e zero fits r t d = let x : fits ≡ true = cc in x
all_fit b n (row true r' ∷ ls) h e (suc k) fits r t d = all_fit (after b (row true r')) (suc n) ls (omega arith) e k fits r t d
all_fit b n (row false r' ∷ ls) h e k fits r t d = absurd (omega arith)

-- every row of an accepted sheet is in range
pub rows_in_range : (most : Counts) (text : List ℕ) (l : List (List ℕ)) → reading most text ≡ rows l → (k : ℕ) → k < length l → InRange (get_or l k [])
unfolding sheet_lines row_of
rows_in_range most text l e k h =
    let a = accepted most text l e in
    let more : k < length (sheet_lines text) = omega (arith, ap length a.3, length-map (sheet_lines text) row_of) in
    let x = read_at k (sheet_lines text) (accepted_read most text l e) more in
    let fits = all_fit no_lines 1 (sheet_lines text) (omega arith) a.2 k x.0 x.1 (drop (suc k) (sheet_lines text)) x.2 in
    let r = lines_held (parts NEWLINE text) k x.1 (drop (suc k) (sheet_lines text)) (x.2 ∙ ap (λ (f : Bool). row f x.1 ∷ drop (suc k) (sheet_lines text)) fits) in
    let at : get_or l k [] ≡ x.1 =
    ap (λ (n : ℕ). get_or l n []) (sym (add-zero k))
    ∙ (sym (get_or-drop k l 0 [])
    ∙ ap (λ (m : List (List ℕ)). get_or m 0 []) (ap (drop k) (sym a.3) ∙ (map-drop k (sheet_lines text) ∙ ap (map row_of) x.2))) in
    subst InRange (sym at) r
