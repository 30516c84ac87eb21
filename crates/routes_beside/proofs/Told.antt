-- What the items have booked on a row is what the rules have booked there: the row's bricks, and the candidates placed so far. So the flags are the answers.
use Prim.Native.Nat.{ℕ, zero, suc, ◌+◌, ◌*◌, ◌≤◌, ◌<◌}
use native.Mathlib.Omega.{arith}
use mathlib.Core.Path.{◌≡◌, refl, ap, ap₂, sym, subst, ◌∙◌}
use mathlib.Core.Bool.{Bool, true, false, not, ◌&&◌, ◌||◌}
use mathlib.Core.List.{List, [], ◌∷◌}
use lib.Dec.{eqb, ltb}
use lib.ListN.{length, get_or}
use borrow.Author.Tests.{eqb-true, ne_eqb, lt-ltb, le-ltb}
use Rattle.base.specs.Lists.{any, keep, upto}
use Rattle.base.specs.Runs.{Ordered}
use Rattle.board.specs.Board.{Board, field, has_row, page_of}
use Rattle.board.specs.Rows
use Rattle.board.specs.Rows.{cells_overlap, rerouter_cell, brick_cell, bricks_in, nodes_on, row_of}
use Rattle.board.specs.Tables.{flag, NodeFacts}
use Rattle.routes_taps.specs.Asking.{Candidate, stands_in, is_clear, booked, candidate_if, source_in, gate_side_in, candidates_in, sourced_in, source_item, gate_side_item, RowsTold}
use Rattle.routes_rows.specs.Booking.{item_cell, key_of, order_at, clear_of, flags_after}
use Rattle.routes_beside.specs.Beside.{count_on, key_at, BrickItem, AskedItem, Items}
use Rattle.routes_beside.proofs.Among.{booked_among, taken, any_next, flag_there, flag_absent}
use Rattle.routes_beside.proofs.Keys.{row_below_page, key_below, key_tells}

any_kept : (f q : ℕ → Bool) (t : Bool) (i : ℕ) (l : List ℕ) → any f (keep q (elim t [ true ↦ i ∷ l | false ↦ l ])) ≡ (t && (q i && f i)) || any f (keep q l)
any_kept f q true i l = go (q i)
  where
    go : (s : Bool) → any f (elim s [ true ↦ i ∷ keep q l | false ↦ keep q l ]) ≡ (s && f i) || any f (keep q l)
    go true = refl
    go false = refl
any_kept f q false i l = refl

any_candidate : (f : Candidate → Bool) (t : Bool) (c : Candidate) (l : List Candidate) → any f (elim t [ true ↦ c ∷ l | false ↦ l ]) ≡ (t && f c) || any f l
any_candidate f true c l = refl
any_candidate f false c l = refl

or_none : (t : Bool) → t ≡ t || false
or_none true = refl
or_none false = refl

not_or : (s t : Bool) → not (s || t) ≡ not s && not t
not_or true t = refl
not_or false t = refl

regroup : (p r f : Bool) → ((p && r) && true) && f ≡ p && (r && f)
regroup true true f = refl
regroup true false f = refl
regroup false r f = refl

swap : (x y d : Bool) → y || (x || d) ≡ x || (y || d)
swap true true d = refl
swap true false d = refl
swap false y d = refl

none_more : (x c d : Bool) → x || d ≡ x || ((c && false) || d)
none_more x true d = refl
none_more x false d = refl

module _ (b : Board) (items : List (List ℕ)) where
  abbrev pub N : ℕ
  N = length b.nodes

  abbrev key_for : Candidate → ℕ
  key_for c = key_at b.nodes c.page c.row

  abbrev cell_for : Candidate → Rows.Cell
  cell_for c = rerouter_cell c.x c.y

  -- A candidate's row is there.
  abbrev pub InRow : Candidate → Type 0
  InRow c = c.row < count_on b.nodes c.page

  -- The items before i have booked the bricks, and those of the candidates that are placed.
  abbrev pub Agrees : ℕ → List Candidate → Type 0
  Agrees i l =
      (c : Candidate) → InRow c
      → any (λ d. cells_overlap d (cell_for c)) (booked_among items N (key_for c) i)
      ≡ any (λ j. cells_overlap (brick_cell b j) (cell_for c)) (bricks_in b c.page c.row) || any (stands_in c) (booked b l)

  module _ (facts : List (List ℕ)) (known : NodeFacts b facts) (held : (i : ℕ) → i < N → BrickItem b.nodes facts items i) where
    row_counts : (i : ℕ) → i < N → has_row b i ≡ true → row_of b i < count_on b.nodes (page_of b i)
    unfolding nodes_on
    row_counts i h r = row_below_page b i h r

    same_cell : (i : ℕ) → i < N → has_row b i ≡ true → item_cell items i ≡ brick_cell b i
    unfolding brick_cell
    same_cell i h r = (held i h).cell r

    same_key_lem : (i : ℕ) → i < N → has_row b i ≡ true → key_of items i ≡ key_at b.nodes (page_of b i) (row_of b i)
    same_key_lem i h r = (held i h).keyed r ∙ ap (key_at b.nodes (page_of b i)) (known.rows i h r)

    module _ (f : Rows.Cell → Bool) (p r : ℕ) (there : r < count_on b.nodes p) where
      one_brick : (i : ℕ) → i < N → (rest : Bool)
          → (eqb (key_of items i) (key_at b.nodes p r) && (ltb i N || rest)) && f (item_cell items i) ≡ (has_row b i && eqb (page_of b i) p) && (eqb (row_of b i) r && f (brick_cell b i))
      one_brick i h rest = go (has_row b i) refl
        where
          go : (t : Bool) → has_row b i ≡ t
              → (eqb (key_of items i) (key_at b.nodes p r) && (ltb i N || rest)) && f (item_cell items i) ≡ (t && eqb (page_of b i) p) && (eqb (row_of b i) r && f (brick_cell b i))
          go true e =
              let key : eqb (key_of items i) (key_at b.nodes p r) ≡ eqb (page_of b i) p && eqb (row_of b i) r =
              ap (λ k. eqb k (key_at b.nodes p r)) (same_key_lem i h e) ∙ key_tells b.nodes (page_of b i) (row_of b i) p r (row_counts i h e) there in
              let brick : ltb i N ≡ true = lt-ltb i N h in
              let cell : item_cell items i ≡ brick_cell b i = same_cell i h e in
              (λ w. (key w && (brick w || rest)) && f (cell w)) ∙ regroup (eqb (page_of b i) p) (eqb (row_of b i) r) (f (brick_cell b i))
          go false e =
              let last = (held i h).absent e in
              let below = key_below b.nodes p r there in
              ap (λ t. (t && (ltb i N || rest)) && f (item_cell items i)) (ne_eqb (key_of items i) (key_at b.nodes p r) (λ z. omega arith))

      first_bricks : (m : ℕ) → m ≤ N
          → any f (booked_among items N (key_at b.nodes p r) m) ≡ any (λ j. f (brick_cell b j)) (keep (λ j. eqb (row_of b j) r) (keep (λ j. has_row b j && eqb (page_of b j) p) (upto m)))
      first_bricks zero h = refl
      first_bricks (suc m) h =
          any_next items N f (key_at b.nodes p r) m
          ∙ (ap₂ (λ s t. s || t) (one_brick m (omega arith) (clear_of (booked_among items N (key_at b.nodes p r) m) (item_cell items m))) (first_bricks m (omega arith))
          ∙ sym (any_kept (λ j. f (brick_cell b j)) (λ j. eqb (row_of b j) r) (has_row b m && eqb (page_of b m) p) m (keep (λ j. has_row b j && eqb (page_of b j) p) (upto m))))

    -- Before the first candidate the bricks are booked.
    pub agrees_first : Agrees N []
    unfolding bricks_in nodes_on booked
    agrees_first c there =
        first_bricks (λ d. cells_overlap d (cell_for c)) c.page c.row there N (omega arith)
        ∙ or_none (any (λ j. cells_overlap (brick_cell b j) (cell_for c)) (bricks_in b c.page c.row))

  booked_more : (c d : Candidate) (l : List Candidate) → (is_clear b (booked b l) d && stands_in c d) || any (stands_in c) (booked b l) ≡ any (stands_in c) (booked b (d ∷ l))
  unfolding booked
  booked_more c d l = sym (any_candidate (stands_in c) (is_clear b (booked b l) d) d (booked b l))

  module _ (i : ℕ) (l : List Candidate) (behind : N ≤ i) (so_far : Agrees i l) where
    clear_same : (d : Candidate) → InRow d → clear_of (booked_among items N (key_for d) i) (cell_for d) ≡ is_clear b (booked b l) d
    unfolding is_clear
    clear_same d there =
        ap not (so_far d there) ∙ not_or (any (λ j. cells_overlap (brick_cell b j) (cell_for d)) (bricks_in b d.page d.row)) (any (stands_in d) (booked b l))

    taken_same : (d : Candidate) → InRow d → AskedItem b.nodes items true d i → taken items N i ≡ is_clear b (booked b l) d
    taken_same d there it =
        let brick : ltb i N ≡ false = le-ltb i N behind in
        let key : key_of items i ≡ key_for d = it.keyed refl in
        let cell : item_cell items i ≡ cell_for d = it.cell refl in
        (λ w. brick w || clear_of (booked_among items N (key w) i) (cell w)) ∙ clear_same d there

    -- Item i is one more candidate.
    pub agrees_more : (t : Bool) (d : Candidate) → (t ≡ true → InRow d) → AskedItem b.nodes items t d i → Agrees (suc i) (candidate_if t d l)
    agrees_more false d there it c has =
        any_next items N f (key_for c) i
        ∙ (ap (λ s. ((s && (ltb i N || clear_of (booked_among items N (key_for c) i) (item_cell items i))) && f (item_cell items i)) || any f (booked_among items N (key_for c) i)) other
        ∙ so_far c has)
      where
        f : Rows.Cell → Bool
        f e = cells_overlap e (cell_for c)

        other : eqb (key_of items i) (key_for c) ≡ false
        other = let last = it.absent refl in let below = key_below b.nodes c.page c.row has in ne_eqb (key_of items i) (key_for c) (λ z. omega arith)
    agrees_more true d there it c has =
        any_next items N f (key_for c) i
        ∙ ((λ w. ((eqb (key w) (key_for c) && (brick w || clear_of (booked_among items N (key_for c) i) (cell w))) && f (cell w)) || so_far c has w)
        ∙ (go (eqb (key_for d) (key_for c)) refl
        ∙ ap (λ s. bricks || s)
        (ap (λ s. (is_clear b (booked b l) d && (s && f (cell_for d))) || done) (key_tells b.nodes d.page d.row c.page c.row (there refl) has)
        ∙ booked_more c d l)))
      where
        f : Rows.Cell → Bool
        f e = cells_overlap e (cell_for c)

        bricks : Bool
        bricks = any (λ j. cells_overlap (brick_cell b j) (cell_for c)) (bricks_in b c.page c.row)

        done : Bool
        done = any (stands_in c) (booked b l)

        brick : ltb i N ≡ false
        brick = le-ltb i N behind

        key : key_of items i ≡ key_for d
        key = it.keyed refl

        cell : item_cell items i ≡ cell_for d
        cell = it.cell refl

        go : (q : Bool) → eqb (key_for d) (key_for c) ≡ q
            → ((q && clear_of (booked_among items N (key_for c) i) (cell_for d)) && f (cell_for d)) || (bricks || done) ≡ bricks || ((is_clear b (booked b l) d && (q && f (cell_for d))) || done)
        go true e =
            let same : key_for d ≡ key_for c = eqb-true (key_for d) (key_for c) e in
            ap (λ s. (s && f (cell_for d)) || (bricks || done)) (ap (λ k. clear_of (booked_among items N k i) (cell_for d)) (sym same) ∙ clear_same d (there refl))
            ∙ swap bricks (is_clear b (booked b l) d && f (cell_for d)) done
        go false e = none_more bricks (is_clear b (booked b l) d) done

    -- Its flag is its answer.
    pub flag_told : (n count : ℕ) → Ordered (key_of items) (order_at items) N n count → (flags : List ℕ) → n ≤ length flags → i < n → get_or flags i 0 ≡ 0
        → (t : Bool) (d : Candidate) → (t ≡ true → InRow d) → AskedItem b.nodes items t d i → get_or (flags_after items N count flags) i 0 ≡ flag (t && is_clear b (booked b l) d)
    flag_told n count o flags room h none' true d there it =
        let key = it.keyed refl in
        let below = key_below b.nodes d.page d.row (there refl) in
        flag_there items N N n count o flags room i h (omega arith) ∙ ap flag (taken_same d (there refl) it)
    flag_told n count o flags room h none' false d there it =
        let last = it.absent refl in flag_absent items N N n count o flags room i (omega arith) ∙ none'

-- The items hold the bricks and what is asked for, and come in the order of their keys: the flags are the answers.
module _ (b : Board) (facts laid asked items : List (List ℕ)) (n : ℕ) (known : NodeFacts b facts) (held : Items b.nodes facts laid asked n items)
    (sources : (k : ℕ) → k < n → eqb (field asked k 2) 1 ≡ true → InRow b items (source_in laid asked k))
    (gateSides : (k : ℕ) → k < n → eqb (field asked k 3) 1 ≡ true → InRow b items (gate_side_in laid asked k)) where
  agrees_source : (k : ℕ) → k < n → Agrees b items (source_item (length b.nodes) k) (candidates_in laid asked k) → Agrees b items (gate_side_item (length b.nodes) k) (sourced_in laid asked k)
  agrees_source k h a =
      agrees_more b items (source_item (length b.nodes) k) (candidates_in laid asked k) (omega arith) a (eqb (field asked k 2) 1) (source_in laid asked k) (sources k h) (held.taps k h).0

  agrees : (k : ℕ) → k ≤ n → Agrees b items (source_item (length b.nodes) k) (candidates_in laid asked k)
  unfolding candidates_in
  agrees zero h = subst (λ (i : ℕ). Agrees b items i []) (let z : length b.nodes ≡ source_item (length b.nodes) zero = omega arith in z) (agrees_first b items facts known held.bricks)
  agrees (suc k) h =
      subst (λ (i : ℕ). Agrees b items i (candidates_in laid asked (suc k))) (let z : suc (gate_side_item (length b.nodes) k) ≡ source_item (length b.nodes) (suc k) = omega arith in z)
      (agrees_more b items (gate_side_item (length b.nodes) k) (sourced_in laid asked k) (omega arith) (agrees_source k (omega arith) (agrees k (omega arith))) (eqb (field asked k 3) 1) (gate_side_in laid asked k)
      (gateSides k (omega arith)) (held.taps k (omega arith)).1)

  pub rows_told : (m count : ℕ) → Ordered (key_of items) (order_at items) (length b.nodes) m count → m ≡ length b.nodes + 2 * n → (flags : List ℕ) → m ≤ length flags
      → ((i : ℕ) → i < m → get_or flags i 0 ≡ 0) → (k : ℕ) → k < n → RowsTold b laid asked (length b.nodes) (flags_after items (length b.nodes) count flags) k
  rows_told m count o e flags room empty k h =
      let a = agrees k (omega arith) in
      record {
        source =
            flag_told b items (source_item (length b.nodes) k) (candidates_in laid asked k) (omega arith) a m count o flags room (omega arith) (empty (source_item (length b.nodes) k) (omega arith))
            (eqb (field asked k 2) 1) (source_in laid asked k) (sources k h) (held.taps k h).0;
        gate_side =
            flag_told b items (gate_side_item (length b.nodes) k) (sourced_in laid asked k) (omega arith) (agrees_source k h a) m count o flags room (omega arith) (empty (gate_side_item (length b.nodes) k) (omega arith))
            (eqb (field asked k 3) 1) (gate_side_in laid asked k) (gateSides k h) (held.taps k h).1;
      }
