-- An accepted sheet's rows, section by section: they stand in the order of the sections, each section's records are counted, and each row has its
-- section's ranges.
use Prim.Native.Nat.{ℕ, zero, suc, ◌+◌, ◌≤◌, ◌<◌}
use mathlib.Core.Path.{◌≡◌, refl, ap, ap₂, sym, ◌∙◌}
use mathlib.Core.Bool.{Bool, true, false}
use mathlib.Core.List.{List, [], ◌∷◌, ◌++◌, append_assoc}
use native.Mathlib.Omega.{arith}
use lib.Dec.{eqb}
use lib.ListN.{length, get_or, take, drop, replicate, length-set, length-append, get_or-append}
use lib.Seq.{get_or-set_same, get_or-set_other, get_or-append-add, take-append_seam, drop-append_seam}
use borrow.Author.Tests.{eq-eqb, ne_eqb, eqb-true, eqb-false}
use Rattle.sheet.specs.declared.Counts.{Counts}
use Rattle.sheet.specs.Table.{SECTIONS}
use Rattle.sheet.specs.Reading.{section_in, counted, listed}
use Rattle.sheet.specs.Answer.{counted_all, counts_of}
use Rattle.sheet.proofs.Accepted.{Accepted, Each, each_at, zeros_at, Rising, RowHeld, PageRow, NodeRow, ChipRow, InnerRow, ExecRow, WireRow, page_row_lem, node_row, chip_row, inner_row, exec_row, wire_row_lem}
use Rattle.board.specs.Board.{Board, board_of, section}
use Rattle.base.proofs.Bools.{pick_true, pick_false}

abbrev Rows : Type 0
Rows = List (List ℕ)

-- A row belongs to its own section and to no other.
section_same : (s : ℕ) (r : List ℕ) (l : Rows) → section_in r ≡ s → section s (r ∷ l) ≡ r ∷ section s l
unfolding section
section_same s r l e = pick_true (eqb (section_in r) s) _ _ (eq-eqb (section_in r) s e)

section_other : (s : ℕ) (r : List ℕ) (l : Rows) → (section_in r ≡ s → ⊥) → section s (r ∷ l) ≡ section s l
unfolding section
section_other s r l e = pick_false (eqb (section_in r) s) _ _ (ne_eqb (section_in r) s e)

-- The rows of the n sections from s on, one section after the other.
abbrev pub in_order_lem : ℕ → ℕ → Rows → Rows
in_order_lem s zero l = []
in_order_lem s (suc n) l = section s l ++ in_order_lem (suc s) n l

section_none : (s t : ℕ) (l : Rows) → s < t → Rising t l → section s l ≡ []
unfolding section
section_none s t [] h e = refl
section_none s t (r ∷ l) h e = let low = e.0 in section_other s r l (λ z. omega arith) ∙ section_none s (section_in r) l (omega arith) e.1

in_order_skip : (n s : ℕ) (r : List ℕ) (l : Rows) → section_in r < s → in_order_lem s n (r ∷ l) ≡ in_order_lem s n l
in_order_skip zero s r l h = refl
in_order_skip (suc n) s r l h = ap₂ ◌++◌ (section_other s r l (λ z. omega arith)) (in_order_skip n (suc s) r l (omega arith))

in_order_front : (n s : ℕ) (r : List ℕ) (l : Rows) → s ≤ section_in r → section_in r < s + n → Rising (section_in r) l → in_order_lem s n (r ∷ l) ≡ r ∷ in_order_lem s n l
in_order_front zero s r l low high e = absurd (omega arith)
in_order_front (suc n) s r l low high e = go (eqb (section_in r) s) refl (in_order_front n (suc s) r l)
  where
    go : (t : Bool) → eqb (section_in r) s ≡ t
        → (suc s ≤ section_in r → section_in r < suc s + n → Rising (section_in r) l → in_order_lem (suc s) n (r ∷ l) ≡ r ∷ in_order_lem (suc s) n l)
        → section s (r ∷ l) ++ in_order_lem (suc s) n (r ∷ l) ≡ r ∷ (section s l ++ in_order_lem (suc s) n l)
    go true is rec =
        let same = eqb-true (section_in r) s is in
        ap₂ ◌++◌ (section_same s r l same) (in_order_skip n (suc s) r l (omega arith))
    go false is rec =
        let other = eqb-false (section_in r) s is in
        let more : suc s ≤ section_in r = omega (arith, other) in
        rw (section_other s r l other, section_none s (section_in r) l more e) (rec more (omega arith) e)

-- The rows of an accepted sheet are those of its sections, in their order.
rows_in_order : (t : ℕ) (l : Rows) → Each RowHeld l → Rising t l → in_order_lem 0 SECTIONS l ≡ l
unfolding section
rows_in_order t [] h e = refl
rows_in_order t (r ∷ l) h e =
    in_order_front SECTIONS 0 r l (omega arith) (let k = h.0.known in omega arith) e.1 ∙ ap (λ (m : Rows). r ∷ m) (rows_in_order (section_in r) l h.1 e.1)

-- Counting the rows counts each section.
counted_section : (c : List ℕ) (l : Rows) (s : ℕ) → Each RowHeld l → length c ≡ SECTIONS → get_or (counted_all c l) s 0 ≡ get_or c s 0 + length (section s l)
unfolding counted_all counted section
counted_section c [] s h e = omega arith
counted_section c (r ∷ l) s h e = go (eqb s (section_in r)) refl (counted_section (counted c r) l s h.1 (simp length-set e))
  where
    more : ℕ
    more = suc (get_or c (section_in r) 0)

    go : (t : Bool) → eqb s (section_in r) ≡ t → get_or (counted_all (counted c r) l) s 0 ≡ get_or (counted c r) s 0 + length (section s l)
        → get_or (counted_all (counted c r) l) s 0 ≡ get_or c s 0 + length (section s (r ∷ l))
    go true is rec =
        let same : s ≡ section_in r = eqb-true s (section_in r) is in
        let inside : section_in r < length c = let k = h.0.known in omega arith in
        let one : get_or (counted c r) s 0 ≡ suc (get_or c s 0) = rw same (get_or-set_same c (section_in r) more 0 inside) in
        let len = ap length (section_same s r l (sym same)) in
        omega (arith, rec, one, len)
    go false is rec =
        let other = eqb-false s (section_in r) is in
        let none : get_or (counted c r) s 0 ≡ get_or c s 0 = get_or-set_other c (section_in r) s more 0 other in
        let len = ap length (section_other s r l (λ z. other (sym z))) in
        omega (arith, rec, none, len)

-- The rows of a section are of that section.
each_section : (l : Rows) (s : ℕ) → Each RowHeld l → Each (λ r. RowHeld r × (section_in r ≡ s)) (section s l)
unfolding section
each_section [] s h = tt
each_section (r ∷ l) s h = go (eqb (section_in r) s) refl (each_section l s h.1)
  where
    go : (t : Bool) → eqb (section_in r) s ≡ t → Each (λ r. RowHeld r × (section_in r ≡ s)) (section s l)
        → Each (λ r. RowHeld r × (section_in r ≡ s)) (elim t [ true ↦ r ∷ section s l | false ↦ section s l ])
    go true is rec = ((h.0, eqb-true (section_in r) s is), rec)
    go false is rec = rec

-- x stands in l from its k-th row on.
pub record Part (l : Rows) (k : ℕ) (x rest : Rows) : Type 0 where
  pub before : Rows
  pub starts : length before ≡ k
  pub whole : before ++ (x ++ rest) ≡ l

module _ {l : Rows} {k : ℕ} {x rest : Rows} (p : Part l k x rest) where
  pub part_at : (i : ℕ) → i < length x → get_or l (k + i) [] ≡ get_or x i []
  part_at i h =
      rw (← p.whole, ← p.starts, get_or-append-add p.before (x ++ rest) i []) (get_or-append x rest [] i h)

  pub part_below : (i : ℕ) → i < length x → k + i < length l
  part_below i h =
      let whole = ap length (sym p.whole) in
      let starts = p.starts in
      omega (arith, whole, length-append p.before (x ++ rest), length-append x rest)

  pub part_start : k ≤ length l
  part_start =
      let whole = ap length (sym p.whole) in
      let starts = p.starts in
      omega (arith, whole, length-append p.before (x ++ rest))

  pub part_slice : take (length x) (drop k l) ≡ x
  part_slice = rw (← p.whole, ← p.starts, drop-append_seam p.before (x ++ rest)) (take-append_seam x rest)

  part_next : {y more : Rows} → rest ≡ y ++ more → Part l (k + length x) y more
  part_next {y} {more} e =
      record {
        before = p.before ++ x;
        starts = length-append p.before x ∙ ap (λ (n : ℕ). n + length x) p.starts;
        whole = append_assoc p.before x (y ++ more) ∙ ap (λ (m : Rows). p.before ++ (x ++ m)) (sym e) ∙ p.whole;
      }

-- What is known of a board whose sheet was accepted.
pub record Sections (most : Counts) (l : Rows) (b : Board) : Type 0 where
  pub pages : Part l 0 b.pages (in_order_lem 1 5 l)
  pub nodes : Part l (length b.pages) b.nodes (in_order_lem 2 4 l)
  pub chips : Part l (length b.pages + length b.nodes) b.chips (in_order_lem 3 3 l)
  pub inner : Part l (length b.pages + length b.nodes + length b.chips) b.inner (in_order_lem 4 2 l)
  pub execs : Part l (length b.pages + length b.nodes + length b.chips + length b.inner) b.execs (in_order_lem 5 1 l)
  pub wires : Part l (length b.pages + length b.nodes + length b.chips + length b.inner + length b.execs) b.wires []
  pub counts : counts_of l ≡ record { pages = length b.pages; nodes = length b.nodes; chips = length b.chips; inner = length b.inner; execs = length b.execs; wires = length b.wires }
  pub few_pages : length b.pages ≤ most.pages
  pub few_nodes : length b.nodes ≤ most.nodes
  pub few_chips : length b.chips ≤ most.chips
  pub few_inner : length b.inner ≤ most.inner
  pub few_execs : length b.execs ≤ most.execs
  pub few_wires : length b.wires ≤ most.wires
  pub page : (i : ℕ) → i < length b.pages → PageRow (get_or b.pages i [])
  pub node : (i : ℕ) → i < length b.nodes → NodeRow (get_or b.nodes i [])
  pub chip : (i : ℕ) → i < length b.chips → ChipRow (get_or b.chips i [])
  pub inner_node : (i : ℕ) → i < length b.inner → InnerRow (get_or b.inner i [])
  pub exec : (i : ℕ) → i < length b.execs → ExecRow (get_or b.execs i [])
  pub wire : (i : ℕ) → i < length b.wires → WireRow (get_or b.wires i [])

module _ (most : Counts) (text : List ℕ) (l : Rows) (a : Accepted most text l) where
  counted_all_lem : (s : ℕ) → get_or (counted_all (replicate SECTIONS 0) l) s 0 ≡ length (section s l)
  counted_all_lem s = omega (arith, counted_section (replicate SECTIONS 0) l s a.held refl, zeros_at SECTIONS s)

  fewest : (s : ℕ) → length (section s l) ≤ get_or (listed most) s 0
  fewest s = rw (← counted_all_lem s) (a.fewest s)

  row_of_lem : (s i : ℕ) → i < length (section s l) → RowHeld (get_or (section s l) i []) × (section_in (get_or (section s l) i []) ≡ s)
  row_of_lem s i h = each_at (λ r. RowHeld r × (section_in r ≡ s)) (section s l) i [] (each_section l s a.held) h

  pub sections : Sections most l (board_of l)
  unfolding board_of counts_of
  sections =
      let whole : in_order_lem 0 SECTIONS l ≡ l = rows_in_order 0 l a.held a.rising in
      let nodes : Part l (length (section 0 l)) (section 1 l) (in_order_lem 2 4 l) = record { before = section 0 l; starts = refl; whole = whole } in
      let chips = part_next nodes {y = section 2 l} {more = in_order_lem 3 3 l} refl in
      let inner = part_next chips {y = section 3 l} {more = in_order_lem 4 2 l} refl in
      let execs = part_next inner {y = section 4 l} {more = in_order_lem 5 1 l} refl in
      record {
        pages = record { before = []; starts = refl; whole = whole };
        nodes = nodes;
        chips = chips;
        inner = inner;
        execs = execs;
        wires = part_next execs {y = section 5 l} {more = []} refl;
        counts = λ w. record { pages = counted_all_lem 0 w; nodes = counted_all_lem 1 w; chips = counted_all_lem 2 w; inner = counted_all_lem 3 w; execs = counted_all_lem 4 w; wires = counted_all_lem 5 w };
        few_pages = fewest 0;
        few_nodes = fewest 1;
        few_chips = fewest 2;
        few_inner = fewest 3;
        few_execs = fewest 4;
        few_wires = fewest 5;
        page = λ i h. let r = row_of_lem 0 i h in page_row_lem _ r.0 r.1;
        node = λ i h. let r = row_of_lem 1 i h in node_row _ r.0 r.1;
        chip = λ i h. let r = row_of_lem 2 i h in chip_row _ r.0 r.1;
        inner_node = λ i h. let r = row_of_lem 3 i h in inner_row _ r.0 r.1;
        exec = λ i h. let r = row_of_lem 4 i h in exec_row _ r.0 r.1;
        wire = λ i h. let r = row_of_lem 5 i h in wire_row_lem _ r.0 r.1;
      }
