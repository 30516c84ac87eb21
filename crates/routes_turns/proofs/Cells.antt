-- What is booked on a row before any question: the row's bricks and the bus's rerouters beside it, and no corner.
use Prim.Native.Nat.{ℕ, zero, suc, ◌+◌, ◌≤◌, ◌<◌}
use native.Mathlib.Omega.{arith}
use mathlib.Core.Path.{◌≡◌, refl, ap, ap₂, sym, ◌∙◌}
use mathlib.Core.Bool.{Bool, true, false, not, ◌&&◌, ◌||◌}
use mathlib.Core.List.{List, [], ◌∷◌}
use lib.Dec.{eqb, ltb}
use lib.ListN.{length}
use borrow.Author.Tests.{lt-ltb, le-ltb, ltb-true, ltb-false, ne_eqb}
use Rattle.base.specs.Lists.{any}
use Rattle.base.proofs.Bools.{clash, and_right, neither, pick_true, pick_false}
use Rattle.base.proofs.Lists.{same_two, count_none}
use Rattle.sheet.specs.Table.{MISSING}
use Rattle.board.specs.Board.{Board}
use Rattle.board.specs.Rows
use Rattle.board.specs.Rows.{REROUTER_SIZE, cells_overlap, rerouter_cell, brick_cell, bricks_in}
use Rattle.board.specs.Tables.{NodeFacts}
use Rattle.routes.specs.Bus.{Rerouter, Bus, beside_row, clear_of_row}
use Rattle.routes_taps.specs.Asking.{booked}
use Rattle.routes_beside.specs.Beside.{count_on, key_at, BrickItem}
use Rattle.routes_beside.proofs.Among
use Rattle.routes_beside.proofs.Among.{booked_among}
use Rattle.routes_beside.proofs.Keys.{key_below, key_tells}
use Rattle.routes_beside.proofs.Told.{agrees_first}
use Rattle.routes_rows.proofs.InTurn.{among, step_if}
use Rattle.routes_rows.specs.Booking.{item_cell, key_of, clear_of}
use Rattle.routes_rows.specs.Turning.{Entry, book_corner, book_item, level_at, load_at, of_class}
use Rattle.routes_turns.specs.CornerItems.{EDGE, is_row, is_inside, is_beside, BesideItem, BesideItems, CornerItems}
use Rattle.routes_turns.proofs.Decided.{or_swap}

and_true : (s t : Bool) → (s && true) && t ≡ s && t
and_true true t = refl
and_true false t = refl

pub or_none : (t : Bool) → t || false ≡ t
or_none true = refl
or_none false = refl

not_or : (s t : Bool) → not (s || t) ≡ not s && not t
not_or true t = refl
not_or false t = refl

module _ (items : List (List ℕ)) (first : ℕ) where
  -- What the items before i have booked on the row of a key, newest first.
  abbrev pub entries_among : ℕ → ℕ → List Entry
  entries_among = among items [] (book_item items first)

  abbrev cell_entry : ℕ → Entry
  cell_entry i = record { cell = item_cell items i; sink = MISSING; class = MISSING }

  -- A test of it, with one cell more.
  any_next : (f : Entry → Bool) (key i : ℕ) → i < first → any f (entries_among key (suc i)) ≡ (eqb (key_of items i) key && f (cell_entry i)) || any f (entries_among key i)
  any_next f key i h = go (eqb (key_of items i) key)
    where
      before : List Entry
      before = entries_among key i

      go : (s : Bool) → any f (step_if items [] (book_item items first) s i before) ≡ (s && f (cell_entry i)) || any f before
      go true = ap (any f) (pick_true (ltb i first) (cell_entry i ∷ before) (book_corner items i (level_at items before i) before) (lt-ltb i first h))
      go false = refl

  -- Behind the cells a corner is booked.
  pub behind_cells : (i : ℕ) (before : List Entry) → first ≤ i → book_item items first i before ≡ book_corner items i (level_at items before i) before
  behind_cells i before h = pick_false (ltb i first) (cell_entry i ∷ before) (book_corner items i (level_at items before i) before) (le-ltb i first h)

  -- A test that cells do not pass; cells have neither sink nor class.
  no_cell_lem : (f : Entry → Bool) → ((i : ℕ) → f (cell_entry i) ≡ false) → (key m : ℕ) → m ≤ first → any f (entries_among key m) ≡ false
  no_cell_lem f fails key zero h = refl
  no_cell_lem f fails key (suc m) h =
      any_next f key m (omega arith)
      ∙ neither (eqb (key_of items m) key && f (cell_entry m)) (any f (entries_among key m)) (both_not (eqb (key_of items m) key) (fails m)) (no_cell_lem f fails key m (omega arith))
    where
      both_not : (s : Bool) {t : Bool} → t ≡ false → s && t ≡ false
      both_not true e = e
      both_not false e = refl

  pub unloaded : (key sink level : ℕ) → (sink ≡ MISSING → ⊥) → load_at (entries_among key first) sink level ≡ 0
  unloaded key sink level other =
      count_none f (entries_among key first)
      (no_cell_lem f (λ i. ap (λ t. t && eqb (item_cell items i).x0 level) (ne_eqb MISSING sink (λ z. other (sym z)))) key first (omega arith))
    where
      f : Entry → Bool
      f e = eqb e.sink sink && eqb e.cell.x0 level

  pub classless : (key class : ℕ) → (class ≡ MISSING → ⊥) → of_class (entries_among key first) class ≡ false
  classless key class other = no_cell_lem (λ e. eqb e.class class) (λ i. ne_eqb MISSING class (λ z. other (sym z))) key first (omega arith)

  -- Bricks are booked as where lanes' rerouters are asked for.
  same_bricks : (f : Rows.Cell → Bool) (bricks key m : ℕ) → bricks ≤ first → m ≤ bricks → any (λ e. f e.cell) (entries_among key m) ≡ any f (booked_among items bricks key m)
  same_bricks f bricks key zero few h = refl
  same_bricks f bricks key (suc m) few h =
      any_next (λ e. f e.cell) key m (omega arith)
      ∙ (ap₂ (λ s t. s || t) (sym one) (same_bricks f bricks key m few (omega arith)) ∙ sym (Among.any_next items bricks f key m))
    where
      rest : Bool
      rest = clear_of (booked_among items bricks key m) (item_cell items m)

      one : (eqb (key_of items m) key && (ltb m bricks || rest)) && f (item_cell items m) ≡ eqb (key_of items m) key && f (item_cell items m)
      one =
          ap (λ t. (eqb (key_of items m) key && (t || rest)) && f (item_cell items m)) (lt-ltb m bricks (let l : m < bricks = omega arith in l))
          ∙ and_true (eqb (key_of items m) key) (f (item_cell items m))

never : (s : Bool) → s && false ≡ false
never true = refl
never false = refl

second_not : (s t u : Bool) → s && false && t && u ≡ false
second_not true t u = refl
second_not false t u = refl

last_not : (s t u : Bool) → s && t && u && false ≡ false
last_not s t u = never (s && t && u)

-- A row of the board, by its key; x and y of what is asked for.
pub row_there : (b : Board) (p r : ℕ) → is_row b p r ≡ true → r < count_on b.nodes p
row_there b p r there = ltb-true r (count_on b.nodes p) (and_right (ltb p 64) (ltb r (count_on b.nodes p)) there)

module _ (b : Board) (items : List (List ℕ)) (first p r : ℕ) (there : is_row b p r ≡ true) where
  abbrev key : ℕ
  key = key_at b.nodes p r

  -- A rerouter stands beside the row where its item has the row's key. Beyond the edge it meets no cell that ends there.
  module _ (cell : Rows.Cell) (end_x : cell.x1 ≤ EDGE) (end_y : cell.y1 ≤ EDGE) where
    beyond : (x y : ℕ) → is_inside x y ≡ false → cells_overlap (rerouter_cell x y) cell ≡ false
    unfolding cells_overlap
    beyond x y e = go (ltb x EDGE) refl e
      where
        go : (t : Bool) → ltb x EDGE ≡ t → t && ltb y EDGE ≡ false → cells_overlap (rerouter_cell x y) cell ≡ false
        go true f g =
            let high = ltb-false y EDGE g in
            ap (λ t. ltb cell.x0 (x + 2) && ltb x cell.x1 && ltb cell.y0 (y + 2) && t) (le-ltb y cell.y1 (let l : cell.y1 ≤ y = omega arith in l))
            ∙ last_not (ltb cell.x0 (x + 2)) (ltb x cell.x1) (ltb cell.y0 (y + 2))
        go false f g =
            let high = ltb-false x EDGE f in
            ap (λ t. ltb cell.x0 (x + 2) && t && ltb cell.y0 (y + 2) && ltb y cell.y1) (le-ltb x cell.x1 (let l : cell.x1 ≤ x = omega arith in l))
            ∙ second_not (ltb cell.x0 (x + 2)) (ltb cell.y0 (y + 2)) (ltb y cell.y1)

    one_beside : (k : Rerouter) (i : ℕ) → BesideItem b items k i → eqb (key_of items i) key && cells_overlap (item_cell items i) cell ≡ beside_row p r cell k
    one_beside k i it = go (is_row b k.page k.row) (is_inside k.x k.y) refl refl
      where
        here : Bool
        here = eqb k.page p && eqb k.row r

        meets : Bool
        meets = cells_overlap (rerouter_cell k.x k.y) cell

        left_out : is_beside b k ≡ false → here && meets ≡ false → eqb (key_of items i) key && cells_overlap (item_cell items i) cell ≡ beside_row p r cell k
        left_out e not-met =
            let last = it.absent e in
            let below = key_below b.nodes p r (row_there b p r there) in
            ap (λ t. t && cells_overlap (item_cell items i) cell) (ne_eqb (key_of items i) key (λ z. omega arith)) ∙ sym not-met

        apart : is_row b k.page k.row ≡ false → (t : Bool) → eqb k.page p && eqb k.row r ≡ t → eqb k.page p && eqb k.row r ≡ false
        apart e true h = let two = same_two k.page p k.row r h in clash there ((λ j. is_row b (sym two.0 j) (sym two.1 j)) ∙ e)
        apart e false h = h

        go : (t s : Bool) → is_row b k.page k.row ≡ t → is_inside k.x k.y ≡ s → eqb (key_of items i) key && cells_overlap (item_cell items i) cell ≡ beside_row p r cell k
        go true true e f =
            let yes : is_beside b k ≡ true = λ j. e j && f j in
            let same : eqb (key_of items i) key ≡ eqb k.page p && eqb k.row r =
            ap (λ j. eqb j key) (it.keyed yes) ∙ key_tells b.nodes k.page k.row p r (row_there b k.page k.row e) (row_there b p r there) in
            let its : item_cell items i ≡ rerouter_cell k.x k.y = it.cell yes in
            λ j. same j && cells_overlap (its j) cell
        go true false e f = left_out (λ j. e j && f j) (ap (λ t. here && t) (beyond k.x k.y f) ∙ never here)
        go false s e f = left_out (λ j. e j && f j) (ap (λ t. t && meets) (apart e here refl))

  module _ (facts : List (List ℕ)) (known : NodeFacts b facts) (bricks : (i : ℕ) → i < length b.nodes → BrickItem b.nodes facts items i) (x y : ℕ)
      (end_x : x + REROUTER_SIZE ≤ EDGE) (end_y : y + REROUTER_SIZE ≤ EDGE) where
    abbrev cell : Rows.Cell
    cell = rerouter_cell x y

    abbrev stands : Entry → Bool
    stands e = cells_overlap e.cell cell

    abbrev in_row : Bool
    in_row = any (λ i. cells_overlap (brick_cell b i) cell) (bricks_in b p r)

    all_bricks : length b.nodes ≤ first → any stands (entries_among items first key (length b.nodes)) ≡ in_row
    unfolding booked
    all_bricks few =
        same_bricks items first (λ c. cells_overlap c cell) (length b.nodes) key (length b.nodes) few (omega arith)
        ∙ (agrees_first b items facts known bricks (record { page = p; row = r; x = x; y = y }) (row_there b p r there) ∙ or_none in_row)

    all_beside : (l : List Rerouter) → BesideItems b items l → length b.nodes + length l ≤ first
        → any stands (entries_among items first key (length b.nodes + length l)) ≡ in_row || any (beside_row p r cell) l
    all_beside [] its h =
        ap (λ i. any stands (entries_among items first key i)) (let z : length b.nodes + 0 ≡ length b.nodes = omega arith in z)
        ∙ (all_bricks (omega arith) ∙ sym (or_none in_row))
    all_beside (k ∷ l) its h =
        ap (λ i. any stands (entries_among items first key i)) (let z : length b.nodes + suc (length l) ≡ suc (length b.nodes + length l) = omega arith in z)
        ∙ (any_next items first stands key (length b.nodes + length l) (omega arith)
        ∙ (ap₂ (λ s t. s || t) (one_beside cell end_x end_y k (length b.nodes + length l) its.0) (all_beside l its.1 (omega arith))
        ∙ or_swap (beside_row p r cell k) in_row (any (beside_row p r cell) l)))

  -- Clear of the cells booked is clear of the row.
  pub clear_first : (bus : Bus) (class : ℕ → ℕ) (facts : List (List ℕ)) (ws : List ℕ) → NodeFacts b facts → CornerItems b bus class facts items first ws → (x y : ℕ)
      → x + REROUTER_SIZE ≤ EDGE → y + REROUTER_SIZE ≤ EDGE → not (any (λ e. cells_overlap e.cell (rerouter_cell x y)) (entries_among items first key first)) ≡ clear_of_row b bus p r (rerouter_cell x y)
  unfolding clear_of_row
  clear_first bus class facts ws known held x y end_x end_y =
      let e = held.first_is in
      ap not (ap (λ i. any (stands facts known held.bricks x y end_x end_y) (entries_among items first key i)) e
      ∙ all_beside facts known held.bricks x y end_x end_y bus.rerouters held.beside (omega arith))
      ∙ not_or (in_row facts known held.bricks x y end_x end_y) (any (beside_row p r (rerouter_cell x y)) bus.rerouters)
