-- Which levels the ends block: cells taken in one after the other, and the ends spread. Assumes nothing.
use Prim.Native.Nat.{ℕ, zero, suc, max, ◌+◌, ◌-◌, ◌/◌, ◌≤◌, ◌<◌}
use mathlib.Core.Path.{◌≡◌, refl, ap, ap₂, sym, ◌∙◌}
use mathlib.Core.Bool.{Bool, true, false, not, ◌&&◌, ◌||◌}
use mathlib.Core.List.{List, ◌++◌}
use native.Mathlib.Omega.{arith}
use lib.Dec.{eqb, ltb, leb}
use lib.ListN.{length, get_or, set, take, drop, length-set, length-append, length-drop}
use Rattle.std.proofs.lemmas.List.{get_or_append_left, get_or-append_right}
use lib.Seq.{length-take-le, get_or-take, get_or-drop, get_or-set_same, get_or-set_other}
use borrow.Author.Tests.{eqb-true, eqb-false, ltb-true, ltb-false, lt-ltb, le-ltb, le-leb, lt-leb}
use Rattle.board.specs.Rows.{cells_overlap}
use Rattle.base.proofs.Bools.{and_right, and_false, both, false_first}
use Rattle.routes_levels.proofs.LevelLaws.{same_test}
use Rattle.routes_rows.specs.Booking.{no_cell, first_cells}
use Rattle.routes_rows.specs.Blocked.{count_in, level_no, beyond, blocked, Blocks, cell_meets, Spread, cells_meet}
use Rattle.routes_rows.specs.declared.book.Cell.{Cell}

pub or_no : (a : Bool) → a || false ≡ a
or_no true = refl
or_no false = refl

pub or_both : (a b c : Bool) → (a || b) || c ≡ a || (b || c)
or_both true b c = refl
or_both false b c = refl

or_swap : (a b c : Bool) → (a || b) || c ≡ (a || c) || b
or_swap true b c = refl
or_swap false true true = refl
or_swap false true false = refl
or_swap false false c = sym (or_no c)

or_less : (a b : Bool) → (b ≡ true → a ≡ true) → a ≡ a || b
or_less true b i = refl
or_less false true i = i refl
or_less false false i = refl

pub or_more : (a b : Bool) → (a ≡ true → b ≡ true) → b ≡ a || b
or_more true b i = i refl
or_more false b i = refl

pub and_yes : (a : Bool) → a && true ≡ a
and_yes true = refl
and_yes false = refl

-- The larger of two ends lies beyond x where one of them does.
max_beyond : (a b x : ℕ) → ltb x (max a b) ≡ ltb x a || ltb x b
max_beyond a b x = go (ltb a b) refl
  where
    go : (t : Bool) → ltb a b ≡ t → ltb x (max a b) ≡ ltb x a || ltb x b
    go true e =
        let h = ltb-true a b e in
        let is : max a b ≡ b = omega arith in
        ap (ltb x) is ∙ or_more (ltb x a) (ltb x b) (λ q. let l = ltb-true x a q in lt-ltb x b (omega arith))
    go false e =
        let h = ltb-false a b e in
        let is : max a b ≡ a = omega arith in
        ap (ltb x) is ∙ or_less (ltb x a) (ltb x b) (λ q. let l = ltb-true x b q in lt-ltb x a (omega arith))

-- An end stored at a: what it lies beyond is blocked from there on.
beyond_store : (ends : List ℕ) (a e x j : ℕ) → a < length ends → beyond (set ends a (max (get_or ends a 0) e)) x j ≡ beyond ends x j || (ltb a j && ltb x e)
beyond_store ends a e x zero h = sym (ap (λ t. t && ltb x e) (le-ltb a 0 (omega arith)))
beyond_store ends a e x (suc j) h = go (eqb j a) refl (beyond_store ends a e x j h)
  where
    E : List ℕ
    E = set ends a (max (get_or ends a 0) e)

    here : (b u v : Bool) → (b || (false && v)) || (u || v) ≡ (b || u) || (true && v)
    here true u v = refl
    here false u v = refl

    go : (t : Bool) → eqb j a ≡ t → beyond E x j ≡ beyond ends x j || (ltb a j && ltb x e)
        → beyond E x j || ltb x (get_or E j 0) ≡ (beyond ends x j || ltb x (get_or ends j 0)) || (ltb a (suc j) && ltb x e)
    go true q ih =
        let same : j ≡ a = eqb-true j a q in
        let stored : get_or E j 0 ≡ max (get_or ends j 0) e = (λ i. get_or E (same i) 0) ∙ get_or-set_same ends a (max (get_or ends a 0) e) 0 h ∙ (λ i. max (get_or ends (sym same i) 0) e) in
        ap₂ (λ s t. s || t) (ih ∙ ap (λ t. beyond ends x j || (t && ltb x e)) (le-ltb a j (omega arith))) (ap (ltb x) stored ∙ max_beyond (get_or ends j 0) e x)
        ∙ here (beyond ends x j) (ltb x (get_or ends j 0)) (ltb x e)
        ∙ ap (λ t. (beyond ends x j || ltb x (get_or ends j 0)) || (t && ltb x e)) (sym (lt-ltb a (suc j) (omega arith)))
    go false q ih =
        let other = eqb-false j a q in
        let step : ltb a j ≡ ltb a (suc j) = same_test _ _ (λ t. let l = ltb-true a j t in lt-ltb a (suc j) (omega arith)) (λ t. let l = ltb-true a (suc j) t in lt-ltb a j (omega (arith, other))) in
        ap₂ (λ s t. s || t) (ih ∙ ap (λ t. beyond ends x j || (t && ltb x e)) step) (ap (ltb x) (get_or-set_other ends a j (max (get_or ends a 0) e) 0 other))
        ∙ or_swap (beyond ends x j) (ltb a (suc j) && ltb x e) (ltb x (get_or ends j 0))

pub blocks_none : (l : Cell) (ends : List ℕ) (test : ℕ → Bool) → ((k : ℕ) → k < count_in l → test k ≡ false) → Blocks l test ends ends
blocks_none l ends test None-passes = record { long = refl; more = λ k low. sym (ap (λ t. blocked l ends k || t) (None-passes k low) ∙ or_no (blocked l ends k)); rest = λ k high. refl }

-- A cell: where its y meets, it blocks from its first level on, as far as its end.
module _ (l cell : Cell) (first count : ℕ) (is : first ≡ (cell.x0 - l.x0) / 2) (counts : count ≡ count_in l) where
  abbrev pub within : Bool
  within = ltb l.y0 cell.y1 && ltb cell.y0 l.y1 && ltb first count

  within_first : within ≡ true → first < count_in l
  within_first e = let h = ltb-true first count (and_right (ltb l.y0 cell.y1 && ltb cell.y0 l.y1) (ltb first count) e) in omega (arith, h, counts)

  pub within_all : l.y0 < cell.y1 → cell.y0 < l.y1 → first < count → within ≡ true
  within_all a b h = both _ (ltb first count) (both (ltb l.y0 cell.y1) (ltb cell.y0 l.y1) (lt-ltb l.y0 cell.y1 a) (lt-ltb cell.y0 l.y1 b)) (lt-ltb first count h)

  -- one of the three does not hold
  pub within_below : cell.y1 ≤ l.y0 → within ≡ false
  within_below h = false_first _ (ltb first count) (false_first _ (ltb cell.y0 l.y1) (le-ltb l.y0 cell.y1 h))

  pub within_above : l.y1 ≤ cell.y0 → within ≡ false
  within_above h = false_first _ (ltb first count) (ap (λ t. ltb l.y0 cell.y1 && t) (le-ltb cell.y0 l.y1 h) ∙ and_false (ltb l.y0 cell.y1))

  pub within_beside : count ≤ first → within ≡ false
  within_beside h = ap (λ t. ltb l.y0 cell.y1 && ltb cell.y0 l.y1 && t) (le-ltb first count h) ∙ and_false (ltb l.y0 cell.y1 && ltb cell.y0 l.y1)

  begins : (k : ℕ) → ltb cell.x0 (level_no l k + 2) ≡ ltb first (suc k)
  begins k = same_test _ _ (λ t. let h = ltb-true cell.x0 (level_no l k + 2) t in lt-ltb first (suc k) (omega arith)) (λ t. let h = ltb-true first (suc k) t in lt-ltb cell.x0 (level_no l k + 2) (omega arith))

  tests : (v f s t g : Bool) → (f ≡ true → g ≡ true) → v && f && s && t ≡ (s && t && g) && (f && v)
  tests v false s t g i = ap (λ a. a && s && t) (and_false v) ∙ sym (and_false (s && t && g))
  tests true true s t g i = sym (and_yes (s && t && g) ∙ ap (λ a. s && t && a) (i refl) ∙ and_yes (s && t))
  tests false true s t g i = sym (and_false (s && t && g))

  meets : (k : ℕ) → k < count_in l → cell_meets cell l k ≡ within && (ltb first (suc k) && ltb (level_no l k) cell.x1)
  unfolding cells_overlap
  meets k low =
      ap (λ f. ltb (level_no l k) cell.x1 && f && ltb l.y0 cell.y1 && ltb cell.y0 l.y1) (begins k)
      ∙ tests (ltb (level_no l k) cell.x1) (ltb first (suc k)) (ltb l.y0 cell.y1) (ltb cell.y0 l.y1) (ltb first count) (λ t. let h = ltb-true first (suc k) t in lt-ltb first count (omega (arith, h, counts, low)))

  pub cell_blocks : (ends : List ℕ) → within ≡ true → first < length ends → Blocks l (cell_meets cell l) ends (set ends first (max (get_or ends first 0) cell.x1))
  cell_blocks ends e room =
      record {
        long = length-set ends first (max (get_or ends first 0) cell.x1);
        more = λ k low.
            beyond_store ends first cell.x1 (level_no l k) (suc k) room
            ∙ ap (λ t. blocked l ends k || t) (sym (meets k low ∙ ap (λ t. t && (ltb first (suc k) && ltb (level_no l k) cell.x1)) e));
        rest = λ k high. let h = within_first e in get_or-set_other ends first k (max (get_or ends first 0) cell.x1) 0 (λ z. omega (arith, z, h, high));
      }

  pub cell_left : (ends : List ℕ) → cell.x1 ≤ l.x0 → Blocks l (cell_meets cell l) ends ends
  unfolding cells_overlap
  cell_left ends h =
      blocks_none l ends (cell_meets cell l)
      (λ k low. ap (λ t. t && ltb cell.x0 (level_no l k + 2) && ltb l.y0 cell.y1 && ltb cell.y0 l.y1) (le-ltb (level_no l k) cell.x1 (omega (arith, h))))

  pub cell_passed : (ends : List ℕ) → within ≡ false → Blocks l (cell_meets cell l) ends ends
  cell_passed ends e = blocks_none l ends (cell_meets cell l) (λ k low. meets k low ∙ ap (λ t. t && (ltb first (suc k) && ltb (level_no l k) cell.x1)) e)

-- Cells taken in one after the other, the newest first: what is blocked so far, with the first k cells that are left, is what all n block.
pub record Blocking (l : Cell) (cells : List Cell) (n : ℕ) (ends : List ℕ) (k : ℕ) (ends' : List ℕ) : Type 0 where
  pub long : length ends' ≡ length ends
  pub same : (j : ℕ) → j < count_in l → blocked l ends j || cells_meet (first_cells cells n) l j ≡ blocked l ends' j || cells_meet (first_cells cells k) l j
  pub rest : (j : ℕ) → count_in l ≤ j → get_or ends' j 0 ≡ get_or ends j 0

module _ (l : Cell) (cells : List Cell) (n : ℕ) (ends : List ℕ) where
  pub blocking_next : (k : ℕ) (ends' ends'' : List ℕ) → Blocking l cells n ends (suc k) ends' → Blocks l (cell_meets (get_or cells k no_cell) l) ends' ends'' → Blocking l cells n ends k ends''
  blocking_next k ends' ends'' b h =
      record {
        long = h.long ∙ b.long;
        same = λ j low.
            b.same j low ∙ sym (or_both (blocked l ends' j) (cell_meets (get_or cells k no_cell) l j) (cells_meet (first_cells cells k) l j)) ∙ sym (ap (λ t. t || cells_meet (first_cells cells k) l j) (h.more j low));
        rest = λ j high. h.rest j high ∙ b.rest j high;
      }

-- The ends being spread: those before k are, and `furthest` is the furthest of them.
pub record Spreading (ends : List ℕ) (furthest k : ℕ) (ends' : List ℕ) : Type 0 where
  pub done : (i x : ℕ) → i < k → ltb x (get_or ends' i 0) ≡ beyond ends x (suc i)
  pub reached : (x : ℕ) → ltb x furthest ≡ beyond ends x k
  pub rest : (i : ℕ) → k ≤ i → get_or ends' i 0 ≡ get_or ends i 0

-- ---- the first so many of a list written, and the rest left
beyond_taken : (ends : List ℕ) (x count j : ℕ) → j ≤ count → beyond (take count ends) x j ≡ beyond ends x j
beyond_taken ends x count zero h = refl
beyond_taken ends x count (suc j) h = ap₂ (λ a b. a || b) (beyond_taken ends x count j (omega (arith, h))) (ap (ltb x) (get_or-take count ends j 0 h))

module _ (ends : List ℕ) (count : ℕ) (part : List ℕ) (room : count ≤ length ends) (long : length part ≡ length (take count ends)) where
  part_long : length part ≡ count
  part_long = long ∙ length-take-le count ends room

  pub part_all : length (part ++ drop count ends) ≡ length ends
  part_all = let e = length-append part (drop count ends) in let d = length-drop count ends in let l = part_long in omega (arith, e, d, l, room)

  pub part_first : (k : ℕ) → k < count → get_or (part ++ drop count ends) k 0 ≡ get_or part k 0
  part_first k low = let l = part_long in get_or_append_left part (drop count ends) 0 k (omega (arith, low, l))

  pub part_rest : (k : ℕ) → count ≤ k → get_or (part ++ drop count ends) k 0 ≡ get_or ends k 0
  part_rest k high =
      let e : count + (k - count) ≡ k = omega (arith, high) in
      get_or-append_right part (drop count ends) count k 0 part_long high ∙ get_or-drop count ends (k - count) 0 ∙ ap (λ (i : ℕ). get_or ends i 0) e

pub spread_in : {ends : List ℕ} {count : ℕ} {part : List ℕ} → count ≤ length ends → Spread (length (take count ends)) (take count ends) part → Spread count ends (part ++ drop count ends)
spread_in {ends = ends} {count = count} {part = part} room s =
    let here = length-take-le count ends room in
    record {
      long = part_all ends count part room s.long;
      tells = λ k x low. ap (ltb x) (part_first ends count part room s.long k low) ∙ s.tells k x (omega (arith, low, here)) ∙ beyond_taken ends x count (suc k) low;
      rest = λ k high. part_rest ends count part room s.long k high;
    }

-- From no ends at all to what each end tells.
pub none_beyond : (ends : List ℕ) (count x : ℕ) → ((k : ℕ) → k < count → get_or ends k 0 ≡ 0) → (j : ℕ) → j ≤ count → beyond ends x j ≡ false
none_beyond ends count x zeros zero h = refl
none_beyond ends count x zeros (suc j) h =
    ap₂ (λ a b. a || b) (none_beyond ends count x zeros j (omega arith)) (ap (ltb x) (zeros j (omega arith)) ∙ le-ltb x 0 (omega arith))

pub leb-not : (a b : ℕ) → leb a b ≡ not (ltb b a)
leb-not a b = go (ltb b a) refl
  where
    go : (t : Bool) → ltb b a ≡ t → leb a b ≡ not t
    go true e = lt-leb a b (ltb-true b a e)
    go false e = le-leb a b (ltb-false b a e)
