-- What is known after so many items: what is read off the items and the answers is asked alike as what the definition has booked, the slice holds the first cells of the row at hand, the notes tell of it, and the answers
-- are those of the definition. Assumes nothing.
use Prim.Native.Nat.{ℕ, zero, suc, ◌+◌, ◌-◌, ◌≤◌, ◌<◌}
use mathlib.Core.Path.{◌≡◌, refl, ap, ap₂, sym, subst, ◌∙◌}
use mathlib.Core.Bool.{Bool, true, false, not, ◌&&◌, ◌||◌}
use mathlib.Core.List.{List, [], ◌∷◌}
use native.Mathlib.Omega.{arith}
use native.Mathlib.Numerals.{add-one}
use lib.Dec.{eqb, ltb}
use lib.ListN.{length, get_or, set, take, length-set}
use lib.Seq.{get_or-set_same}
use borrow.Author.Tests.{ne_eqb, ltb-true, ltb-false, le-ltb}
use Rattle.sheet.specs.Table.{MISSING}
use Rattle.base.specs.Lists.{Found, none, at, any, keep}
use Rattle.base.proofs.Bools.{clash, either_right, pick_true, pick_false}
use Rattle.board.specs.Rows
use Rattle.board.specs.Rows.{cells_overlap, rerouter_cell}
use Rattle.board.specs.Tables.{held}
use Rattle.routes.specs.Levels.{levels_in, lowest, lightest}
use Rattle.routes_rows.specs.Booking.{cell_of, item_cell, order_at, begins, book, no_cell, first_cells, unless, count_after}
use Rattle.routes_rows.specs.Blocked.{count_in, level_no, corner_cell, blocked, Blocks, cells_meet, NoEnds}
use Rattle.routes_rows.specs.Notes.{NOTES, row_no, Plain, AllPlain, NotesLow, Noted, SamePast}
use Rattle.routes_rows.specs.Turning.{Entry, sink_x, sink_end, corner_y, sink_in, class_in, load_at, of_class, level_at, book_corner, book_item, entries_on, entries_after, answer_if, answers_after}
use Rattle.routes_rows.specs.Entries.{SLICE_MOST, in_slice, level_in, cell_entry, blank, corner_entry, entry_for, seen, row_before, span_of, span_for, BlockedFor, asked, Askable, RowFits, Decidable, Decided, TurnsFit}
use Rattle.routes_rows.specs.declared.book.Cell.{Cell}
use Rattle.routes_rows.proofs.Blocking.{none_beyond}
use Rattle.routes_rows.proofs.Cells.{Stored, all_taken}
use Rattle.routes_rows.proofs.EntryLaws.{row_kept}
use Rattle.routes_rows.proofs.NoteLaws.{low_same, noted_same, noted_more}
use Rattle.routes_rows.proofs.Deciding.{told_back}

-- ---- entries that are asked alike: blanks tell nothing
pub record Alike (b e : List Entry) : Type 0 where
  pub cells : (d : Rows.Cell) → any (λ x. cells_overlap x.cell d) b ≡ any (λ x. cells_overlap x.cell d) e
  pub loads : (sink level : ℕ) → (sink ≡ MISSING → ⊥) → load_at b sink level ≡ load_at e sink level
  pub classes : (class : ℕ) → (class ≡ MISSING → ⊥) → of_class b class ≡ of_class e class

alike_none : Alike [] []
alike_none = record { cells = λ d. refl; loads = λ s l h. refl; classes = λ c h. refl }

alike_more : (b e : List Entry) (x : Entry) → Alike b e → Alike (x ∷ b) (x ∷ e)
alike_more b e x h =
    record {
      cells = λ d. ap (λ t. cells_overlap x.cell d || t) (h.cells d);
      loads = λ s l has. go (eqb x.sink s && eqb x.cell.x0 l) s l (h.loads s l has);
      classes = λ c has. ap (λ t. eqb x.class c || t) (h.classes c has);
    }
  where
    K : List Entry → ℕ → ℕ → List Entry
    K l s level = keep (λ y. eqb y.sink s && eqb y.cell.x0 level) l

    go : (t : Bool) (s l : ℕ) → length (K b s l) ≡ length (K e s l) → length {A = Entry} (elim t [ true ↦ x ∷ K b s l | false ↦ K b s l ]) ≡ length {A = Entry} (elim t [ true ↦ x ∷ K e s l | false ↦ K e s l ])
    go true s l q = ap suc q
    go false s l q = q

alike_blank : (b e : List Entry) → Alike b e → Alike (blank ∷ b) e
unfolding cells_overlap
alike_blank b e h =
    record {
      cells = λ d. rw (le-ltb d.x0 0 (omega arith)) (h.cells d);
      loads = λ s l has.
          ap (λ (t : Bool). length {A = Entry} (elim (t && eqb 0 l) [ true ↦ blank ∷ keep (λ x. eqb x.sink s && eqb x.cell.x0 l) b | false ↦ keep (λ x. eqb x.sink s && eqb x.cell.x0 l) b ]))
          (ne_eqb MISSING s (λ q. has (sym q))) ∙ h.loads s l has;
      classes = λ c has. rw (ne_eqb MISSING c (λ q. has (sym q))) (h.classes c has);
    }

has_class : (items : List (List ℕ)) (i : ℕ) → Askable items i → class_in items i ≡ MISSING → ⊥
has_class items i a z = let few = a.class_few in omega (arith, z, few)

alike_level : (items : List (List ℕ)) (i : ℕ) (b e : List Entry) → Askable items i → Alike b e → level_at items b i ≡ level_at items e i
unfolding level_at
alike_level items i b e a h = λ j.
    elim (h.classes (class_in items i) (has_class items i a) j) as (λ _. Found) [
      | true ↦ none
      | false ↦
          elim (lowest (λ l. eqb (h.loads (sink_in items i) l a.has_sink j) 0 && not (h.cells (rerouter_cell l (corner_y items i)) j)) (sink_x items i) (levels_in (sink_x items i) (sink_end items i))) as (λ _. Found)
          [ at l ↦ at l | none ↦ lightest (λ l. not (h.cells (rerouter_cell l (corner_y items i)) j)) (λ l. h.loads (sink_in items i) l a.has_sink j) (sink_x items i) (levels_in (sink_x items i) (sink_end items i)) ]
    ]

alike_corner : (items : List (List ℕ)) (i : ℕ) (b e : List Entry) (f : Found) → Alike b e → Alike (corner_entry items i f ∷ b) (book_corner items i f e)
alike_corner items i b e none h = alike_blank b e h
alike_corner items i b e (at l) h = alike_more b e (corner_entry items i (at l)) h

alike_item : (items : List (List ℕ)) (first i : ℕ) (b e : List Entry) → (first ≤ i → Askable items i) → Alike b e → Alike (entry_for items first i (level_at items b i) ∷ b) (book_item items first i e)
alike_item items first i b e asks h = go (ltb i first) refl
  where
    go : (t : Bool) → ltb i first ≡ t → Alike (elim t [ true ↦ cell_entry items i | false ↦ corner_entry items i (level_at items b i) ] ∷ b)
        (elim t [ true ↦ record { cell = item_cell items i; sink = MISSING; class = MISSING } ∷ e | false ↦ book_corner items i (level_at items e i) e ])
    go true q = alike_more b e (cell_entry items i) h
    go false q =
        subst (λ (f : Found). Alike (corner_entry items i (level_at items b i) ∷ b) (book_corner items i f e)) (alike_level items i b e (asks (ltb-false i first q)) h)
        (alike_corner items i b e (level_at items b i) h)

alike_row : (t : Bool) (b e : List Entry) → Alike b e → Alike (entries_on t b) (entries_on t e)
alike_row true b e h = alike_none
alike_row false b e h = h

-- ---- the slice: n cells of the row count, and it holds the first; each is an entry's, and where it holds all n they overlap what the entries do
abbrev meets : List Rows.Cell → Rows.Cell → Bool
meets l d = any (λ c. cells_overlap c d) l

abbrev met : List Entry → Rows.Cell → Bool
met l d = any (λ e. cells_overlap e.cell d) l

pub record Holds (n : ℕ) (l : List Rows.Cell) (booked : List Entry) : Type 0 where
  pub some : (d : Rows.Cell) → any (λ c. cells_overlap c d) l ≡ true → any (λ e. cells_overlap e.cell d) booked ≡ true
  pub whole : n ≤ SLICE_MOST → (d : Rows.Cell) → any (λ c. cells_overlap c d) l ≡ any (λ e. cells_overlap e.cell d) booked

holds_none : (n : ℕ) → Holds n [] []
holds_none n = record { some = λ d t. t; whole = λ h d. refl }

holds_row : (cells : List Cell) (n before : ℕ) (t : Bool) (booked : List Entry) → before ≡ unless t n → Holds n (first_cells cells (in_slice n)) booked → Holds before (first_cells cells (in_slice before)) (entries_on t booked)
holds_row cells n before true booked q h = subst (λ (k : ℕ). Holds k (first_cells cells (in_slice k)) []) (sym q) (holds_none 0)
holds_row cells n before false booked q h = subst (λ (k : ℕ). Holds k (first_cells cells (in_slice k)) booked) (sym q) h

holds_more : (n k : ℕ) (l : List Rows.Cell) (booked : List Entry) (c : Rows.Cell) (e : Entry) → c ≡ e.cell → n ≤ SLICE_MOST → Holds n l booked → Holds k (c ∷ l) (e ∷ booked)
holds_more n k l booked c e is few h = record { some = λ d t. sym (same d) ∙ t; whole = λ _. same }
  where
    same : (d : Rows.Cell) → meets (c ∷ l) d ≡ met (e ∷ booked) d
    same d = ap₂ (λ s t. s || t) (ap (λ (x : Rows.Cell). cells_overlap x d) is) (h.whole few d)

-- a cell that ends at 0 is not missed
holds_empty : (n : ℕ) (l : List Rows.Cell) (booked : List Entry) (e : Entry) → e.cell.x1 ≡ 0 → Holds n l booked → Holds n l (e ∷ booked)
unfolding cells_overlap
holds_empty n l booked e at_0 h = record { some = λ d t. skip d ∙ h.some d t; whole = λ few d. h.whole few d ∙ sym (skip d) }
  where
    skip : (d : Rows.Cell) → met (e ∷ booked) d ≡ met booked d
    skip d = rw (at_0, le-ltb d.x0 0 (omega arith)) refl

holds_beyond : (n k : ℕ) (l : List Rows.Cell) (booked : List Entry) (e : Entry) → SLICE_MOST < k → Holds n l booked → Holds k l (e ∷ booked)
holds_beyond n k l booked e full h = record { some = λ d t. either_right (cells_overlap e.cell d) (met booked d) (h.some d t); whole = λ few. absurd (omega (arith, few, full)) }

slots_all : (n : ℕ) → n ≤ SLICE_MOST → in_slice n ≡ n
slots_all n h = omega arith

slots_full : (n : ℕ) → SLICE_MOST ≤ n → in_slice n ≡ SLICE_MOST
slots_full n h = omega arith

slots_most : (n : ℕ) → in_slice n ≤ SLICE_MOST
slots_most n = omega arith

module _ (cells cells' : List Cell) (before : ℕ) (booked : List Entry) (c : Cell) (e : Entry) (is : cell_of c ≡ e.cell) (left : ltb before SLICE_MOST ≡ false → cells' ≡ cells) (h : Holds before (first_cells cells (in_slice before)) booked) where
  abbrev F : List Rows.Cell
  F = first_cells cells (in_slice before)

  abbrev rest : List Rows.Cell → List Rows.Cell
  rest [] = []
  rest (d ∷ ds) = ds

  -- one more cell counts; or none, and the slice is as it was as far as it counts
  holds_next : (t u : Bool) → ltb before SLICE_MOST ≡ t → ltb 0 c.x1 ≡ u → first_cells cells' (count_after t before) ≡ book t (cell_of c) (first_cells cells before)
      → Holds (count_after u before) (first_cells cells' (in_slice (count_after u before))) (e ∷ booked)
  holds_next true true q r a =
      let low = ltb-true before SLICE_MOST q in
      let all : in_slice before ≡ before = slots_all before (omega (arith, low)) in
      let more : in_slice (before + 1) ≡ before + 1 = slots_all (before + 1) (omega (arith, low)) in
      subst (λ (l : List Rows.Cell). Holds (before + 1) l (e ∷ booked)) (sym (ap (first_cells cells') more ∙ a ∙ ap (λ (k : ℕ). cell_of c ∷ first_cells cells k) (sym all))) (holds_more before (before + 1) F booked (cell_of c) e is (omega (arith, low)) h)
  holds_next true false q r a =
      let low = ltb-true before SLICE_MOST q in
      let all : in_slice before ≡ before = slots_all before (omega (arith, low)) in
      let same : first_cells cells' before ≡ first_cells cells before = ap rest (ap (first_cells cells') (sym (add-one before)) ∙ a) in
      subst (λ (l : List Rows.Cell). Holds before l (e ∷ booked)) (sym (ap (first_cells cells') all ∙ same ∙ ap (first_cells cells) (sym all))) (holds_empty before F booked e (at_0 r) h)
    where
      at_0 : ltb 0 c.x1 ≡ false → e.cell.x1 ≡ 0
      at_0 r = let z = ltb-false 0 c.x1 r in let s : c.x1 ≡ e.cell.x1 = ap (λ (d : Rows.Cell). d.x1) is in omega (arith, z, s)
  holds_next false true q r a =
      let high = ltb-false before SLICE_MOST q in
      let same : in_slice (before + 1) ≡ in_slice before = slots_full (before + 1) (omega (arith, high)) ∙ sym (slots_full before high) in
      subst (λ (l : List Rows.Cell). Holds (before + 1) l (e ∷ booked)) (sym (ap (first_cells cells') same ∙ ap (λ (cs : List Cell). first_cells cs (in_slice before)) (left q))) (holds_beyond before (before + 1) F booked e (omega (arith, high)) h)
  holds_next false false q r a =
      subst (λ (l : List Rows.Cell). Holds before l (e ∷ booked)) (sym (ap (λ (cs : List Cell). first_cells cs (in_slice before)) (left q))) (holds_empty before F booked e (at_0 r) h)
    where
      at_0 : ltb 0 c.x1 ≡ false → e.cell.x1 ≡ 0
      at_0 r = let z = ltb-false 0 c.x1 r in let s : c.x1 ≡ e.cell.x1 = ap (λ (d : Rows.Cell). d.x1) is in omega (arith, z, s)

-- ---- what is known after p items, n cells counted on the row at hand
pub record Standing (items : List (List ℕ)) (first : ℕ) (ends₀ answers₀ : List ℕ) (p n : ℕ) (cells : List Cell) (ends answers : List ℕ) : Type 0 where
  pub few : n ≤ p
  pub room : length cells ≡ SLICE_MOST
  pub ends_long : length ends ≡ length ends₀
  pub answers_long : length answers ≡ length answers₀
  pub no_ends : NoEnds ends
  pub low : NotesLow ends
  pub rows : row_no ends ≤ p
  pub noted : 0 < n → Noted (seen items first answers p) (asked items first p) ends
  pub plain : n ≡ 0 → AllPlain (seen items first answers p)
  pub slice : Holds n (first_cells cells (in_slice n)) (seen items first answers p)
  pub alike : Alike (seen items first answers p) (entries_after items first p)
  pub told : answers ≡ answers_after items first p answers₀

pub standing_start : (items : List (List ℕ)) (first : ℕ) (ends answers : List ℕ) (cells : List Cell) → length cells ≡ SLICE_MOST → NOTES ≤ length ends → ((k : ℕ) → k < NOTES → get_or ends k 0 ≡ 0) → Standing items first ends answers 0 0 cells ends answers
unfolding entries_after answers_after
standing_start items first ends answers cells e long zeros =
    record {
      few = omega arith;
      room = e;
      ends_long = refl;
      answers_long = refl;
      no_ends = λ k low. zeros k (omega (arith, low));
      low = record { long = long; stamped = λ c few. let z = zeros (1000 + c) (omega (arith, few)) in omega (arith, z) };
      rows = let z = zeros 9192 (omega arith) in omega (arith, z);
      noted = λ some. absurd (omega (arith, some));
      plain = λ z. tt;
      slice = holds_none 0;
      alike = alike_none;
      told = refl;
    }

-- what the calls of a turn say
pub record Turning (items : List (List ℕ)) (first p n : ℕ) (cells : List Cell) (ends answers : List ℕ) (before counted : ℕ) (span : Cell) (ends₁ : List ℕ) (c : Cell) (ends' answers' : List ℕ) (cells' : List Cell) (n' : ℕ) : Type 0 where
  pub stood : before ≡ unless (begins items p) n
  pub counts : counted ≡ unless (ltb (order_at items p) first) (in_slice before)
  pub spans : span ≡ span_for items first (order_at items p)
  pub blocks : Blocks span (cells_meet (first_cells cells counted) span) ends ends₁
  pub decided : Decided items p first ends₁ answers ends' answers' c
  pub stores : Stored (ltb before SLICE_MOST) before c cells cells'
  pub next : n' ≡ count_after (ltb 0 c.x1) before

pub before_few : (n before p : ℕ) (t : Bool) → n ≤ p → before ≡ unless t n → before ≤ p
before_few n before p true h e = omega (arith, e)
before_few n before p false h e = omega (arith, e, h)

pub counted_few : (counted before : ℕ) (t : Bool) → counted ≡ unless t (in_slice before) → counted ≤ SLICE_MOST
counted_few counted before true e = omega (arith, e)
counted_few counted before false e = let h = slots_most before in omega (arith, e, h)

-- the cells that an item is held to, of what the slice holds
pub held_blocks : (cells : List Cell) (counted before : ℕ) (t : Bool) (span : Cell) (ends ends₁ : List ℕ) → length cells ≡ SLICE_MOST → counted ≡ unless t (in_slice before)
    → Blocks span (cells_meet (first_cells (take counted cells) (length (take counted cells))) span) ends ends₁ → Blocks span (cells_meet (first_cells cells counted) span) ends ends₁
held_blocks cells counted before t span ends ends₁ room counts h =
    let low = counted_few counted before t counts in
    subst (λ (l : List Rows.Cell). Blocks span (cells_meet l span) ends ends₁) (all_taken cells counted (omega (arith, low, room))) h

one_more : (t : Bool) (n : ℕ) → count_after t n ≤ n + 1
one_more true n = omega arith
one_more false n = omega arith

pub span_few : (items : List (List ℕ)) (first i : ℕ) (span : Cell) → (first ≤ i → Askable items i) → span ≡ span_for items first i → count_in span ≤ 1000
span_few items first i span asks e = go (ltb i first) refl
  where
    go : (t : Bool) → ltb i first ≡ t → count_in span ≤ 1000
    go true q = let f : count_in span ≡ 0 = ap count_in (e ∙ pick_true (ltb i first) no_cell (span_of items i) q) in omega (arith, f)
    go false q = let f : count_in span ≡ count_in (span_of items i) = ap count_in (e ∙ pick_false (ltb i first) no_cell (span_of items i) q) in let h = (asks (ltb-false i first q)).few in omega (arith, f, h)

-- the ends tell a question of the cells that are in the slice
ends_told : (items : List (List ℕ)) (first i before counted : ℕ) (cells : List Cell) (booked : List Entry) (span : Cell) (ends ends₁ : List ℕ) → first ≤ i → Askable items i → NoEnds ends
    → counted ≡ unless (ltb i first) (in_slice before) → span ≡ span_for items first i → Holds before (first_cells cells (in_slice before)) booked
    → Blocks span (cells_meet (first_cells cells counted) span) ends ends₁ → BlockedFor before (span_of items i) booked ends₁
ends_told items first i before counted cells booked span ends ends₁ l asks zeros counts spans slice blocks =
    subst (λ (s : Cell). BlockedFor before s booked ends₁) is (record { some = λ k low t. slice.some (corner_cell span k) (sym (tells k low) ∙ t); whole = λ few k low. tells k low ∙ slice.whole few (corner_cell span k) })
  where
    q : ltb i first ≡ false
    q = le-ltb i first l

    is : span ≡ span_of items i
    is = spans ∙ pick_false (ltb i first) no_cell (span_of items i) q

    all : counted ≡ in_slice before
    all = counts ∙ ap (λ t. unless t (in_slice before)) q

    tells : (k : ℕ) → k < count_in span → blocked span ends₁ k ≡ meets (first_cells cells (in_slice before)) (corner_cell span k)
    tells k low =
        let h = asks.few in
        let f : count_in span ≡ count_in (span_of items i) = ap count_in is in
        blocks.more k low ∙ ap (λ t. t || cells_meet (first_cells cells counted) span k) (none_beyond ends 1000 (level_no span k) zeros (suc k) (omega (arith, low, f, h)))
        ∙ ap (λ (m : ℕ). cells_meet (first_cells cells m) span k) all

row_fits : (items : List (List ℕ)) (first m p : ℕ) (ends answers₀ answers : List ℕ) → TurnsFit items m first ends answers₀ → p < m → length answers ≡ length answers₀ → RowFits items p first answers
row_fits items first m p ends answers₀ answers fit more long =
    record {
      inside = let h = fit.inside in omega (arith, h, more);
      countable = let h = fit.countable in omega (arith, h, more);
      ordered = λ q h. fit.ordered q (omega (arith, h, more));
      asks = λ q h. fit.asks q (omega (arith, h, more));
      there = λ q h l. let t = fit.there q (omega (arith, h, more)) l in omega (arith, t, long);
      few = λ q h. fit.few q (omega (arith, h, more));
      rising = λ q h. fit.rising q (omega (arith, h, more));
    }

module _ {items : List (List ℕ)} {first m : ℕ} {ends₀ answers₀ : List ℕ} {p n : ℕ} {cells : List Cell} {ends answers : List ℕ} (s : Standing items first ends₀ answers₀ p n cells ends answers) (fit : TurnsFit items m first ends₀ answers₀) (more : p < m) where
  abbrev before_it : List Entry
  before_it = row_before items first answers p

  fits : RowFits items p first answers
  fits = row_fits items first m p ends₀ answers₀ answers fit more s.answers_long

  held_before : (before : ℕ) → before ≡ unless (begins items p) n → Holds before (first_cells cells (in_slice before)) before_it
  held_before before stood = holds_row cells n before (begins items p) (seen items first answers p) stood s.slice

  -- where a cell counts the row has begun before, and its questions come by their numbers
  asked_few : (q : ℕ) → p ≡ q → begins items p ≡ false → asked items first p ≤ order_at items p - first
  asked_few zero e t = clash (ap (begins items) e) t
  asked_few (suc q) e t =
      let h : order_at items q < order_at items (suc q) = fit.rising q (omega (arith, e, more)) (sym (ap (begins items) e) ∙ t) in
      let a : asked items first p ≡ suc (order_at items q) - first = ap (asked items first) e in
      let b : order_at items p ≡ order_at items (suc q) = ap (order_at items) e in
      omega (arith, h, a, b)

  noted_before : (before : ℕ) → 0 < before → before ≡ unless (begins items p) n → Noted before_it (order_at items p - first) ends
  noted_before before some stood = go (begins items p) refl stood
    where
      go : (t : Bool) → begins items p ≡ t → before ≡ unless t n → Noted (entries_on t (seen items first answers p)) (order_at items p - first) ends
      go true b q = absurd (omega (arith, some, q))
      go false b q = noted_more (asked_few p refl b) (s.noted (omega (arith, some, q)))

  plain_before : (before : ℕ) → before ≡ 0 → before ≡ unless (begins items p) n → AllPlain before_it
  plain_before before z stood = go (begins items p) stood
    where
      go : (t : Bool) → before ≡ unless t n → AllPlain (entries_on t (seen items first answers p))
      go true q = tt
      go false q = s.plain (omega (arith, z, q))

  pub decidable : (before counted : ℕ) (span : Cell) (ends₁ : List ℕ) → before ≡ unless (begins items p) n → counted ≡ unless (ltb (order_at items p) first) (in_slice before)
      → span ≡ span_for items first (order_at items p) → Blocks span (cells_meet (first_cells cells counted) span) ends ends₁ → Decidable items p first before ends₁ answers
  decidable before counted span ends₁ stood counts spans blocks =
      record {
        row = fits;
        low = low_same blocks.long past s.low;
        rows = let r = s.rows in let h = fit.countable in let e = past 9192 (omega arith) in omega (arith, r, h, e, more);
        blocks = λ l. ends_told items first (order_at items p) before counted cells before_it span ends ends₁ l (fit.asks p more l) s.no_ends counts spans (held_before before stood) blocks;
        past = λ k high low. let e : count_in span ≡ count_in (span_for items first (order_at items p)) = ap count_in spans in blocks.rest k (omega (arith, e, high)) ∙ s.no_ends k low;
        noted = λ some. noted_same blocks.long past (noted_before before some stood);
        plain = λ z. plain_before before z stood;
      }
    where
      past : SamePast ends ends₁
      past k high = let h = span_few items first (order_at items p) span (fit.asks p more) spans in blocks.rest k (omega (arith, high, h))

  module _ {before counted : ℕ} {span : Cell} {ends₁ : List ℕ} {c : Cell} {ends' answers' : List ℕ} {cells' : List Cell} {n' : ℕ} (u : Turning items first p n cells ends answers before counted span ends₁ c ends' answers' cells' n') where
    abbrev this : ℕ
    this = order_at items p

    abbrev level : Found
    level = level_at items (row_before items first answers p) this

    abbrev booked : List Entry
    booked = entries_on (begins items p) (entries_after items first p)

    on_row : Alike before_it booked
    on_row = alike_row (begins items p) (seen items first answers p) (entries_after items first p) s.alike

    -- the item's own answer, and those before it on the row
    now_seen : seen items first answers' (suc p) ≡ entry_for items first this level ∷ before_it
    now_seen = go (ltb this first) refl u.decided.told
      where
        go : (t : Bool) → ltb this first ≡ t → answers' ≡ answer_if t answers (this - first) (held level) → seen items first answers' (suc p) ≡ entry_for items first this level ∷ before_it
        go true q is =
            ap (λ (a : List ℕ). seen items first a (suc p)) is
            ∙ ap (λ (e : Entry). e ∷ before_it) (pick_true (ltb this first) (cell_entry items this) _ q ∙ sym (pick_true (ltb this first) (cell_entry items this) (corner_entry items this level) q))
        go false q is =
            let l : first ≤ this = ltb-false this first q in
            let there : this - first < length answers = fits.there p (omega arith) l in
            ap (λ (a : List ℕ). seen items first a (suc p)) is
            ∙ ap₂ (λ (f : Found) (b : List Entry). entry_for items first this f ∷ b) (ap level_in (get_or-set_same answers (this - first) (held level) 0 there) ∙ told_back level (u.decided.within l)) (row_kept items first answers p fits this (held level) p l (omega arith) (omega arith))

    next_alike : Alike (seen items first answers' (suc p)) (entries_after items first (suc p))
    unfolding entries_after
    next_alike = subst (λ (l : List Entry). Alike l (book_item items first this booked)) (sym now_seen) (alike_item items first this before_it booked (fit.asks p more) on_row)

    next_slice : Holds n' (first_cells cells' (in_slice n')) (seen items first answers' (suc p))
    next_slice =
        subst (λ (l : List Entry). Holds n' (first_cells cells' (in_slice n')) l) (sym now_seen)
        (subst (λ (k : ℕ). Holds k (first_cells cells' (in_slice k)) (entry_for items first this level ∷ before_it)) (sym u.next)
        (holds_next cells cells' before before_it c (entry_for items first this level) u.decided.cell u.stores.left (held_before before u.stood) (ltb before SLICE_MOST) (ltb 0 c.x1) refl refl u.stores.added))

    next_told : answers' ≡ answers_after items first (suc p) answers₀
    unfolding answers_after
    next_told = u.decided.told ∙ go (ltb this first) refl
      where
        go : (t : Bool) → ltb this first ≡ t → answer_if t answers (this - first) (held level) ≡ answer_if t (answers_after items first p answers₀) (this - first) (held (level_at items booked this))
        go true q = s.told
        go false q = ap₂ (λ (l : List ℕ) (f : Found). set l (this - first) (held f)) s.told (alike_level items this before_it booked (fit.asks p more (ltb-false this first q)) on_row)

    -- a corner counts
    next_plain : n' ≡ 0 → AllPlain (entry_for items first this level ∷ before_it)
    next_plain z = (go (ltb this first) refl level (ap (λ (d : Rows.Cell). d.x1) u.decided.cell), plain_before before (no_more (ltb 0 c.x1) refl (sym u.next ∙ z)).0 u.stood)
      where
        no_more : (t : Bool) → ltb 0 c.x1 ≡ t → count_after t before ≡ 0 → (before ≡ 0) × (c.x1 ≡ 0)
        no_more true q e = absurd (omega (arith, e))
        no_more false q e = let h = ltb-false 0 c.x1 q in (e, omega (arith, h))

        ended : c.x1 ≡ 0
        ended = (no_more (ltb 0 c.x1) refl (sym u.next ∙ z)).1

        go : (t : Bool) → ltb this first ≡ t → (f : Found) → c.x1 ≡ (elim t as (λ _. Entry) [ true ↦ cell_entry items this | false ↦ corner_entry items this f ]).cell.x1 → Plain (elim t as (λ _. Entry) [ true ↦ cell_entry items this | false ↦ corner_entry items this f ])
        go true q f e = (refl, refl)
        go false q none e = (refl, refl)
        go false q (at l) e = absurd (omega (arith, e, ended))

    answers_long_lem : (t : Bool) (l : List ℕ) (q v : ℕ) → length (answer_if t l q v) ≡ length l
    answers_long_lem true l q v = refl
    answers_long_lem false l q v = length-set l q v

    pub turned : Standing items first ends₀ answers₀ (p + 1) n' cells' ends' answers'
    turned =
        record {
          few = let h = before_few n before p (begins items p) s.few u.stood in let k = one_more (ltb 0 c.x1) before in let e = u.next in omega (arith, h, k, e);
          room = u.stores.same ∙ s.room;
          ends_long = u.decided.long ∙ u.blocks.long ∙ s.ends_long;
          answers_long = ap length u.decided.told ∙ answers_long_lem (ltb this first) answers (this - first) (held level) ∙ s.answers_long;
          no_ends = u.decided.no_ends;
          low = u.decided.noted.low;
          rows = let r = s.rows in let d = u.decided.rows in let e = u.blocks.rest 9192 (let h = span_few items first this span (fit.asks p more) u.spans in omega (arith, h)) in omega (arith, r, d, e);
          noted = λ some. subst (λ (k : ℕ). Noted (seen items first answers' k) (asked items first k) ends') (sym (add-one p)) (subst (λ (l : List Entry). Noted l (asked items first (suc p)) ends') (sym now_seen) u.decided.noted);
          plain = λ z. subst (λ (k : ℕ). AllPlain (seen items first answers' k)) (sym (add-one p)) (subst AllPlain (sym now_seen) (next_plain z));
          slice = subst (λ (k : ℕ). Holds n' (first_cells cells' (in_slice n')) (seen items first answers' k)) (sym (add-one p)) next_slice;
          alike = subst (λ (k : ℕ). Alike (seen items first answers' k) (entries_after items first k)) (sym (add-one p)) next_alike;
          told = next_told ∙ ap (λ (k : ℕ). answers_after items first k answers₀) (sym (add-one p));
        }
