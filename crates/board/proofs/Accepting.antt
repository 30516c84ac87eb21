-- The board of a sheet that refusals 1 to 6 leave is accepted, and its rows are the sheet's.
use Prim.Native.Nat.{ℕ, zero, suc, ◌≤◌, ◌<◌}
use native.Mathlib.Omega.{arith}
use native.Mathlib.Decide.{ℕ_discrete, dec_lt}
use mathlib.Core.Path.{◌≡◌, refl, ap, sym, subst, ◌∙◌}
use mathlib.Core.Bool.{Bool, true, false, not, ◌&&◌}
use mathlib.Core.List.{List, []}
use lib.Dec.{eqb, leb}
use lib.ListN.{length, get_or, get_or-eq_default}
use borrow.Author.Tests.{eqb-true, not-true, leb-false}
use Rattle.base.specs.declared.refusal.Reason.TheVariants.{IdTaken, NotThere, Unplaced}
use Rattle.base.specs.Refusal.{refusal}
use Rattle.sheet.specs.declared.Counts.{Counts}
use Rattle.sheet.specs.Table.{MISSING, ID_MOST, PORT_MOST, HALF_MOST, PAGE_MOST, program_most}
use Rattle.sheet.specs.Reading.{Reading, rows, reading, rows_from}
use Rattle.sheet.proofs.Accepted.{COORDINATE_LOW, MayBe, NodeRow, PageRow, WireRow, accepted}
use Rattle.base.specs.Lists.{Found, none, at, or_else, oldest}
use Rattle.board.specs.Board.{Board, board_of, field, given, has_row, page_of, placed}
use Rattle.board.specs.Refusals
use Rattle.board.specs.Refusals.{Judged, board, judged, judged_board, id_twice, not_there, page_missing, unplaced, row_unplaced, node_line, first_line}
use Rattle.board.specs.Walk.{WithinLibrary}
use Rattle.board.specs.Accepted.{COORDINATE_HIGH, Y_LOW, Accepted, AcceptedNodes}
use Rattle.base.proofs.Bools.{never}
use Rattle.board.proofs.BySection.{Sections, sections}

-- A test that finds nothing fails everywhere.
pub oldest_none : (p : ℕ → Bool) (n : ℕ) → oldest p n ≡ none → (i : ℕ) → i < n → p i ≡ false
oldest_none p zero e i h = absurd (omega arith)
oldest_none p (suc n) e i h = go (oldest p n) refl (p n) refl e (λ d. oldest_none p n d i)
  where
    go : (f : Found) → oldest p n ≡ f → (t : Bool) → p n ≡ t → elim f [ at k ↦ at k | none ↦ elim t [ true ↦ at n | false ↦ none ] ] ≡ none
        → (oldest p n ≡ none → i < n → p i ≡ false) → p i ≡ false
    go (at k) d t u q rec = never cc
    go none d true u q rec = never cc
    go none d false u q rec =
        elim (ℕ_discrete i n) [ yes same ↦ ap p same ∙ u | no other ↦ rec d (omega (arith, other)) ]

-- The numbers of a row of nodes, of pages and of wires.
record NodeIn (r : List ℕ) : Type 0 where
  id : get_or r 1 0 ≤ ID_MOST
  half_x : get_or r 5 0 ≤ HALF_MOST
  half_y : get_or r 6 0 ≤ HALF_MOST
  x : given (get_or r 8 0) ≡ true → get_or r 8 0 ≤ COORDINATE_HIGH
  y : given (get_or r 8 0) ≡ true → get_or r 9 0 ≤ COORDINATE_HIGH
  page : given (get_or r 10 0) ≡ true → get_or r 10 0 ≤ PAGE_MOST

record PageIn (r : List ℕ) : Type 0 where
  min_y : given (get_or r 1 0) ≡ true → get_or r 1 0 ≤ COORDINATE_HIGH
  z : get_or r 2 0 ≤ COORDINATE_HIGH

record WireIn (r : List ℕ) : Type 0 where
  source_node : get_or r 1 0 ≤ ID_MOST
  source_port : get_or r 2 0 ≤ PORT_MOST
  target_node : get_or r 3 0 ≤ ID_MOST
  target_port : get_or r 4 0 ≤ PORT_MOST

node_in_lem : (r : List ℕ) → NodeRow r → NodeIn r
node_in_lem r h =
    record {
      id = h.id.1;
      half_x = h.half_x.1;
      half_y = h.half_y.1;
      x = λ g. (h.x (not-true (eqb (get_or r 8 0) MISSING) g)).1;
      y = λ g. (h.y (h.xy ∙ not-true (eqb (get_or r 8 0) MISSING) g)).1;
      page = λ g. (h.page (not-true (eqb (get_or r 10 0) MISSING) g)).1;
    }

page_in : (r : List ℕ) → PageRow r → PageIn r
page_in r h = record { min_y = λ g. (h.min_y (not-true (eqb (get_or r 1 0) MISSING) g)).1; z = h.z.1 }

wire_in_lem : (r : List ℕ) → WireRow r → WireIn r
wire_in_lem r h = record { source_node = h.source_node.1; source_port = h.source_port.1; target_node = h.target_node.1; target_port = h.target_port.1 }

every_row : (P : List ℕ → Type 0) (l : List (List ℕ)) → P [] → ((i : ℕ) → i < length l → P (get_or l i [])) → (i : ℕ) → P (get_or l i [])
every_row P l zeros h i = go (dec_lt i (length l))
  where
    go : Dec (i < length l) → P (get_or l i [])
    go (yes k) = h i k
    go (no k) = rw (get_or-eq_default l [] {n = i} (omega arith)) zeros

no_line : (b : Board) (line : ℕ → ℕ) (p : ℕ → Bool) (n : ℕ) → first_line b line p n ≡ none → oldest p n ≡ none
no_line b line p n = go (oldest p n)
  where
    go : (f : Found) → elim f as (λ _. Found) [ at k ↦ at (line k) | none ↦ none ] ≡ none → f ≡ none
    go none e = refl
    go (at k) e = never cc

-- A board that is judged to be fine is the sheet's own, without a 5 or a 6.
fine_board : (c b : Board) → judged_board c ≡ board b → (c ≡ b) × (not_there c ≡ none) × (unplaced c ≡ none)
unfolding judged_board
fine_board c b = go (id_twice c) (not_there c) (unplaced c)
  where
    go : (f g h : Found)
        → elim f as (λ _. Judged) [ at l ↦ Refusals.turned_away (refusal IdTaken l) | none ↦ elim g as (λ _. Judged) [ at l ↦ Refusals.turned_away (refusal NotThere l) | none ↦ elim h as (λ _. Judged) [ at l ↦ Refusals.turned_away (refusal Unplaced l) | none ↦ board c ] ] ] ≡ board b
        → (c ≡ b) × (g ≡ none) × (h ≡ none)
    go (at l) g h e = never cc
    go none (at l) h e = never cc
    go none none (at l) e = never cc
    go none none none e = (cc, refl, refl)

page_there_lem : (b : Board) → not_there b ≡ none → (i : ℕ) → i < length b.nodes → has_row b i ≡ true → page_of b i < length b.pages
unfolding not_there page_missing
page_there_lem b e i h r =
    leb-false (length b.pages) (page_of b i)
    (second (has_row b i) (leb (length b.pages) (page_of b i)) r
    (oldest_none (page_missing b) (length b.nodes) (no_line b (node_line b) (page_missing b) (length b.nodes) (first _ _ e)) i h))
  where
    first : (f g : Found) → or_else f g ≡ none → f ≡ none
    first none g q = refl
    first (at k) g q = q

    second : (s t : Bool) → s ≡ true → (s && t) ≡ false → t ≡ false
    second true t q n = n
    second false t q n = never cc

row_placed_lem : (b : Board) → unplaced b ≡ none → (i : ℕ) → i < length b.nodes → has_row b i ≡ true → placed b i ≡ true
unfolding unplaced row_unplaced
row_placed_lem b e i h r = go (has_row b i) (placed b i) r (oldest_none (row_unplaced b) (length b.nodes) (no_line b (node_line b) (row_unplaced b) (length b.nodes) e) i h)
  where
    go : (s t : Bool) → s ≡ true → (s && not t) ≡ false → t ≡ true
    go true true q n = refl
    go true false q n = never cc
    go false t q n = never cc

-- A coordinate that may be missing is not low.
not_low : (v : ℕ) → MayBe COORDINATE_LOW COORDINATE_HIGH v → Y_LOW ≤ v
not_low v r = go (eqb v MISSING) refl
  where
    go : (t : Bool) → eqb v MISSING ≡ t → Y_LOW ≤ v
    go true e = let q = eqb-true v MISSING e in omega arith
    go false e = let q = r e in omega arith

-- What a sheet that refusals 1 to 6 leave says of its board.
pub record FromSheet (most : Counts) (text : List ℕ) (b : Board) : Type 0 where
  pub read : reading most text ≡ rows (rows_from text)
  pub known : Sections most (rows_from text) b
  pub there : not_there b ≡ none
  pub none_unplaced : unplaced b ≡ none

pub from_sheet : (most : Counts) (text : List ℕ) (b : Board) → judged most text ≡ board b → FromSheet most text b
unfolding judged
from_sheet most text b = go (reading most text) refl
  where
    go : (r : Reading) → reading most text ≡ r
        → elim r as (λ _. Judged) [ Reading.refused x ↦ Refusals.turned_away x | rows l ↦ judged_board (board_of l) ] ≡ board b → FromSheet most text b
    go (Reading.refused x) e d = never cc
    go (rows l) e d =
        let a = accepted most text l e in
        let f = fine_board (board_of l) b d in
        subst (λ (c : Board). FromSheet most text c) f.0
        (record {
          read = e ∙ ap rows (sym a.whole);
          known = subst (λ (k : List (List ℕ)). Sections most k (board_of l)) (sym a.whole) (sections most text l a);
          there = f.1;
          none_unplaced = f.2;
        })

pub sheet_accepted : (most : Counts) (text : List ℕ) (b : Board) → WithinLibrary most → judged most text ≡ board b → Accepted b
sheet_accepted most text b low is =
    let f = from_sheet most text b is in
    let s = f.known in
    let node : (i : ℕ) → NodeIn (get_or b.nodes i []) = every_row NodeIn b.nodes no_node (λ i h. node_in_lem _ (s.node i h)) in
    let page : (i : ℕ) → PageIn (get_or b.pages i []) = every_row PageIn b.pages no_page (λ i h. page_in _ (s.page i h)) in
    let wire : (i : ℕ) → WireIn (get_or b.wires i []) = every_row WireIn b.wires no_wire (λ i h. wire_in_lem _ (s.wire i h)) in
    record {
      few_pages = omega (arith, s.few_pages, low 0);
      few_nodes = omega (arith, s.few_nodes, low 1);
      few_chips = omega (arith, s.few_chips, low 2);
      few_inner = omega (arith, s.few_inner, low 3);
      few_execs = omega (arith, s.few_execs, low 4);
      few_wires = omega (arith, s.few_wires, low 5);
      min_y_low = λ p h. not_low (get_or (get_or b.pages p []) 1 0) (s.page p h).min_y;
      min_y = λ p g. let l = (page p).min_y g in omega arith;
      z = λ p. (page p).z;
      id = λ i. (node i).id;
      half_x = λ i. (node i).half_x;
      half_y = λ i. (node i).half_y;
      x = λ i. (node i).x;
      y_low = λ i h. not_low (get_or (get_or b.nodes i []) 9 0) (s.node i h).y;
      y = λ i g. let l = (node i).y g in omega arith;
      page = λ i. (node i).page;
      source = λ w. ((wire w).source_node, (wire w).source_port);
      target = λ w. ((wire w).target_node, (wire w).target_port);
      page_there = page_there_lem b f.there;
      row_placed = every_row (λ r. given (get_or r 10 0) ≡ true → given (get_or r 8 0) ≡ true) b.nodes (λ g. refl) (row_placed_lem b f.none_unplaced);
    }
  where
    no_node : NodeIn []
    no_node = record { id = omega arith; half_x = omega arith; half_y = omega arith; x = λ g. omega arith; y = λ g. omega arith; page = λ g. omega arith }

    no_page : PageIn []
    no_page = record { min_y = λ g. omega arith; z = omega arith }

    no_wire : WireIn []
    no_wire = record { source_node = omega arith; source_port = omega arith; target_node = omega arith; target_port = omega arith }

-- The program's limits are below the library's.
pub within_program : WithinLibrary program_most
within_program zero = omega arith
within_program (suc zero) = omega arith
within_program (suc (suc zero)) = omega arith
within_program (suc (suc (suc zero))) = omega arith
within_program (suc (suc (suc (suc zero)))) = omega arith
within_program (suc (suc (suc (suc (suc zero))))) = omega arith
within_program (suc (suc (suc (suc (suc (suc s)))))) = omega arith

-- What is known of the nodes alone.
module _ {nodes : List (List ℕ)} (a : AcceptedNodes nodes) where
  pub nodes_half_x : (i : ℕ) → field nodes i 5 ≤ HALF_MOST
  nodes_half_x i = subst (λ (l : List (List ℕ)). field l i 5 ≤ HALF_MOST) a.1 (a.2.half_x i)

  pub nodes_half_y : (i : ℕ) → field nodes i 6 ≤ HALF_MOST
  nodes_half_y i = subst (λ (l : List (List ℕ)). field l i 6 ≤ HALF_MOST) a.1 (a.2.half_y i)

  pub nodes_x : (i : ℕ) → given (field nodes i 10) ≡ true → field nodes i 8 ≤ COORDINATE_HIGH
  nodes_x i = subst (λ (l : List (List ℕ)). given (field l i 10) ≡ true → field l i 8 ≤ COORDINATE_HIGH) a.1 (λ h. a.2.x i (a.2.row_placed i h))
