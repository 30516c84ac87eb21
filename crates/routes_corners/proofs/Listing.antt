-- Laws of the items as they are listed: each row is a brick's, a rerouter's or a question's, and so the items are those of a board and a bus.
use Rattle.std.proofs.Common.{◌≡◌, ℕ, zero, suc, ◌+◌, ◌*◌, ◌<◌, ◌≤◌, Bool, true, false, ◌&&◌, eqb, ltb, List, [], ◌∷◌, length, get_or, set, sym, refl, ap, ◌∙◌, subst, arith, get_or-set_other, get_or-set_same, ltb-true, le-ltb, lt-ltb, eqb-true}
use borrow.Author.Tests.{eqb-false}
use Rattle.base.proofs.Bools.{and_left, and_right, both}
use Rattle.board.specs.Board.{Board, field, x_of, y_of, page_of}
use Rattle.board.specs.Rows.{rerouter_cell, brick_cell, row_of}
use Rattle.board.specs.Tables.{nodes_alone}
use Rattle.routes.specs.Bus
use Rattle.routes.specs.Bus.{Rerouter}
use Rattle.routes.specs.Buffers.{rerouter_row, rerouter_in}
use Rattle.routes.proofs.Rows.{inward_outward}
use Rattle.routes_beside.specs.Beside.{count_on, key_at, Bases, cell_in, ItemIs, BrickIs, BrickItem, BricksAskable}
use Rattle.routes_beside.proofs.Filled.{item_there, item_absent}
use Rattle.routes_beside.proofs.Keys.{key_below}
use Rattle.routes_turns.specs.CornerItems.{EDGE, is_row, is_inside, is_beside, BesideItem, BesideItems, QuestionItem, QuestionItems, CornerItems}
use Rattle.routes_corners.specs.CornerTables.{EndsThere, firsts}
use Rattle.routes_corners.specs.Handed.{CellRows}
use Rattle.routes_corners.proofs.Writing.{length-firsts}
use Rattle.routes_corners.specs.Listing.{CountsOf, BesideIs, question_of, question_row, TurnThere, TurnsListed, ItemsStored, TurnsOf}

-- The test on a rerouter, as the code makes it.
pub off_pages : (page row count x y : ℕ) → 64 ≤ page → false ≡ (ltb page 64 && ltb row count) && is_inside x y
off_pages page row count x y h = ap (λ t. (t && ltb row count) && is_inside x y) (sym (le-ltb page 64 h))

pub on_pages_lem : (page row count x y : ℕ) → page < 64 → (ltb row count && ltb x EDGE) && ltb y EDGE ≡ (ltb page 64 && ltb row count) && is_inside x y
on_pages_lem page row count x y h = joined (ltb row count) (ltb x EDGE) (ltb y EDGE) ∙ ap (λ t. (t && ltb row count) && is_inside x y) (sym (lt-ltb page 64 h))
  where
    joined : (r s t : Bool) → (r && s) && t ≡ (true && r) && (s && t)
    joined true s t = refl
    joined false s t = refl

-- A rerouter's item, by what the test says; x and y are its own.
module _ (nodes : List (List ℕ)) (bases counts : List ℕ) (has : Bases nodes bases) (counted : CountsOf nodes counts) (few : length nodes ≤ 4096) (k : Rerouter) (x y : ℕ) (sameX : x ≡ k.x) (sameY : y ≡ k.y) where
  abbrev tested : Bool
  tested = (ltb k.page 64 && ltb k.row (get_or counts k.page 0)) && is_inside x y

  test_same : tested ≡ is_beside (nodes_alone nodes) k
  test_same = (λ i. (ltb k.page 64 && ltb k.row (get_or counts k.page 0)) && is_inside (sameX i) (sameY i)) ∙ go (ltb k.page 64) refl
    where
      go : (t : Bool) → ltb k.page 64 ≡ t → (t && ltb k.row (get_or counts k.page 0)) && is_inside k.x k.y ≡ (t && ltb k.row (count_on nodes k.page)) && is_inside k.x k.y
      go true e = ap (λ c. ltb k.row c && is_inside k.x k.y) (counted.count k.page (ltb-true k.page 64 e))
      go false e = refl

  module _ (e : tested ≡ true) where
    beside : is_beside (nodes_alone nodes) k ≡ true
    beside = sym test_same ∙ e

    row_is : is_row (nodes_alone nodes) k.page k.row ≡ true
    row_is = and_left (is_row (nodes_alone nodes) k.page k.row) (is_inside k.x k.y) beside

    on_page_lem : k.page < 64
    on_page_lem = ltb-true k.page 64 (and_left (ltb k.page 64) (ltb k.row (count_on nodes k.page)) row_is)

    on_row : k.row < count_on nodes k.page
    on_row = ltb-true k.row (count_on nodes k.page) (and_right (ltb k.page 64) (ltb k.row (count_on nodes k.page)) row_is)

    pub beside_room : ((k.page < length bases) × (get_or bases k.page 0 + k.row ≤ 4096)) × ((x + 2 * 1 < 4294967296) × (y + 2 * 1 < 4294967296))
    beside_room =
        let inside = and_right (is_row (nodes_alone nodes) k.page k.row) (is_inside k.x k.y) beside in
        let lowX = ltb-true k.x EDGE (and_left (ltb k.x EDGE) (ltb k.y EDGE) inside) in
        let lowY = ltb-true k.y EDGE (and_right (ltb k.x EDGE) (ltb k.y EDGE) inside) in
        let p = on_page_lem in
        let l = has.long in
        let f = has.first k.page p in
        let below = key_below nodes k.page k.row on_row in
        ((omega arith, omega arith), (omega (arith, sameX), omega (arith, sameY)))

    pub beside_there : (r : List ℕ) → (cell_in r ≡ record { x0 = x; x1 = x + 2 * 1; y0 = y; y1 = y + 2 * 1 }) × (get_or r 6 0 ≡ get_or bases k.page 0 + k.row) → BesideIs nodes k r
    beside_there r it =
        item_there (length nodes) (is_beside (nodes_alone nodes) k) (rerouter_cell k.x k.y) (key_at nodes k.page k.row) r beside
        (it.0 ∙ (λ i. rerouter_cell (sameX i) (sameY i)), it.1 ∙ ap (λ v. v + k.row) (has.first k.page on_page_lem))

  pub beside_absent : tested ≡ false → (r : List ℕ) → get_or r 6 0 ≡ length nodes → BesideIs nodes k r
  beside_absent e r it =
      item_absent (length nodes) (is_beside (nodes_alone nodes) k) (rerouter_cell k.x k.y) (key_at nodes k.page k.row) r (sym test_same ∙ e) it

-- Rows stored one behind the other from a place on; those before it stay.
module _ (P : ℕ → List ℕ → Type 0) (items₀ items : List (List ℕ)) (base i : ℕ) (r : List ℕ) (room : base + i < length items) where
  pub stored_at : P i r → ((j : ℕ) → j < i → P j (get_or items (base + j) [])) → (j : ℕ) → j < i + 1 → P j (get_or (set items (base + i) r) (base + j) [])
  stored_at new old j h = go (eqb j i) refl
    where
      go : (t : Bool) → eqb j i ≡ t → P j (get_or (set items (base + i) r) (base + j) [])
      go true e =
          let same : i ≡ j = sym (eqb-true j i e) in
          subst (λ (q : ℕ). P q (get_or (set items (base + i) r) (base + q) [])) same (subst (λ (v : List ℕ). P i v) (sym (get_or-set_same items (base + i) r [] room)) new)
      go false e =
          let other = eqb-false j i e in
          subst (λ (v : List ℕ). P j v) (sym (get_or-set_other items (base + i) (base + j) r [] (λ z. other (let y : j ≡ i = omega arith in y)))) (old j (omega (arith, other)))

  pub kept_below : ((j : ℕ) → j < base → get_or items j [] ≡ get_or items₀ j []) → (j : ℕ) → j < base → get_or (set items (base + i) r) j [] ≡ get_or items₀ j []
  kept_below old j h = get_or-set_other items (base + i) j r [] (λ z. omega arith) ∙ old j h

-- A question read off items whose bricks are as they were.
pub question_same : (nodes facts : List (List ℕ)) (classes : List ℕ) (items items' : List (List ℕ)) (w first : ℕ) → TurnThere nodes facts classes w → length nodes ≤ first
    → ((j : ℕ) → j < first → get_or items' j [] ≡ get_or items j []) → question_row nodes facts classes items' w ≡ question_row nodes facts classes items w
question_same nodes facts classes items items' w first there few same =
    let low = there.ends.target in
    ap (λ v. question_of v (field nodes (field facts w 2) 9) (field facts w 3) (get_or classes w 0)) (same (field facts w 3) (omega arith))

-- Bricks, rerouters and questions, filled in one after the other.
pub items_stored : (nodes facts : List (List ℕ)) (classes list : List ℕ) (n : ℕ) (rerouters : List (List ℕ)) (m : ℕ) (items₁ items₂ items₃ : List (List ℕ)) → TurnsListed nodes facts classes list n
    → ((i : ℕ) → i < length nodes → BrickItem nodes facts items₁ i)
    → ((i : ℕ) → i < m → BesideIs nodes (rerouter_in (get_or rerouters i [])) (get_or items₂ (length nodes + i) [])) → ((j : ℕ) → j < length nodes → get_or items₂ j [] ≡ get_or items₁ j [])
    → ((q : ℕ) → q < n → get_or items₃ (length nodes + m + q) [] ≡ question_row nodes facts classes items₂ (get_or list q 0)) → ((j : ℕ) → j < length nodes + m → get_or items₃ j [] ≡ get_or items₂ j [])
    → ItemsStored nodes facts classes list n rerouters m items₃
items_stored nodes facts classes list n rerouters m items₁ items₂ items₃ ok bricks beside kept questions same =
    record {
      bricks = λ i h. subst (λ (v : List ℕ). BrickIs nodes facts i v) (sym (same i (omega arith) ∙ kept i h)) (bricks i h);
      beside = λ i h. subst (λ (v : List ℕ). BesideIs nodes (rerouter_in (get_or rerouters i [])) v) (sym (same (length nodes + i) (omega arith))) (beside i h);
      questions = λ q h. questions q h ∙ sym (question_same nodes facts classes items₂ items₃ (get_or list q 0) (length nodes + m) (ok.there q h) (omega arith) same);
    }

-- What is stored is what the rules speak of.
module _ (b : Board) (bus : Bus.Bus) (pages wires facts : List (List ℕ)) (classes list : List ℕ) (n : ℕ) (rerouters : List (List ℕ)) (m : ℕ) (items : List (List ℕ)) where
  all_beside : ((i : ℕ) → i < m → BesideIs b.nodes (rerouter_in (get_or rerouters i [])) (get_or items (length b.nodes + i) []))
      → (l : List Rerouter) → CellRows l rerouters → length l ≤ m → BesideItems b items l
  all_beside its [] rows h = tt
  all_beside its (k ∷ l) rows h = (one, all_beside its l rows.2 (omega arith))
    where
      own : Rerouter
      own = rerouter_in (get_or rerouters (length l) [])

      row : get_or rerouters (length l) [] ≡ rerouter_row k
      row = rows.0

      x_same : own.x ≡ k.x
      x_same = ap (λ r. (rerouter_in r).x) row ∙ inward_outward k.x rows.1.x_fits

      y_same : own.y ≡ k.y
      y_same = ap (λ r. (rerouter_in r).y) row ∙ inward_outward k.y rows.1.y_fits

      page_same : own.page ≡ k.page
      page_same = ap (λ r. (rerouter_in r).page) row

      row_same : own.row ≡ k.row
      row_same = ap (λ r. (rerouter_in r).row) row

      Is : ℕ → ℕ → ℕ → ℕ → Type 0
      Is x y p r =
          ItemIs (length b.nodes) (is_row b p r && is_inside x y) (rerouter_cell x y) (key_at b.nodes p r) (get_or items (length b.nodes + length l) [])

      one : BesideItem b items k (length b.nodes + length l)
      one =
          subst (λ (v : ℕ). Is v k.y k.page k.row) x_same
          (subst (λ (v : ℕ). Is own.x v k.page k.row) y_same
          (subst (λ (v : ℕ). Is own.x own.y v k.row) page_same
          (subst (λ (v : ℕ). Is own.x own.y own.page v) row_same (its (length l) (omega arith)))))

  module _ (of : TurnsOf b bus pages b.nodes b.wires facts classes list n rerouters m) (ok : BricksAskable b.nodes facts) (turns : TurnsListed b.nodes facts classes list n)
      (stored : ItemsStored b.nodes facts classes list n rerouters m items) where
    abbrev class : ℕ → ℕ
    class w = get_or classes w 0

    question : (q : ℕ) → q < n → QuestionItem b class items (get_or list q 0) (length b.nodes + m + q)
    unfolding brick_cell
    question q h =
        let own = of.ends q h in
        let few = ok.few in
        let on = ends.on_row in
        let range = ok.in_range t ends.target on in
        let number : row_of b t ≡ field facts t 0 = sym (of.board.nodes_known.rows t ends.target on) in
        let low = of.classed.low w (of.listed q h) in
        let below = of.listed q h in
        let wires_few = of.wires_few in
        let small = ends.target in
        record {
          wire = below;
          x = ap (λ r. get_or r 0 0) row ∙ (ap (λ c. c.x0) cell ∙ ap (x_of b) (sym own.1));
          end = ap (λ r. get_or r 1 0) row ∙ (ap (λ c. c.x1) cell ∙ ap (λ i. (brick_cell b i).x1) (sym own.1));
          y = ap (λ r. get_or r 2 0) row ∙ ap (y_of b) (sym own.0);
          sink = ap (λ r. get_or r 3 0) row ∙ sym own.1;
          class_is = ap (λ r. get_or r 4 0) row;
          key = ap (λ r. get_or r 6 0) row ∙ (brick.keyed on ∙ (ap (key_at b.nodes (page_of b t)) (sym number) ∙ ap (λ i. key_at b.nodes (page_of b i) (row_of b i)) (sym own.1)));
          on_row =
              ap (λ i. is_row b (page_of b i) (row_of b i)) own.1
              ∙ both (ltb (page_of b t) 64) (ltb (row_of b t) (count_on b.nodes (page_of b t))) (lt-ltb (page_of b t) 64 range.page)
              (ap (λ r. ltb r (count_on b.nodes (page_of b t))) number ∙ lt-ltb (field facts t 0) (count_on b.nodes (page_of b t)) range.row);
          low = subst (λ (i : ℕ). (brick_cell b i).x1 ≤ EDGE) (sym own.1) (turns.low q h);
          flat = subst (λ (i : ℕ). y_of b i + 2 ≤ EDGE) (sym own.0) (turns.flat q h);
          sink_small = λ z. let e = own.1 in omega arith;
          class_small = λ z. omega arith;
        }
      where
        w : ℕ
        w = get_or list q 0

        t : ℕ
        t = field facts w 3

        ends : EndsThere b.nodes facts w
        ends = (turns.there q h).ends

        row : get_or items (length b.nodes + m + q) [] ≡ question_row b.nodes facts classes items w
        row = stored.questions q h

        brick : BrickItem b.nodes facts items t
        brick = stored.bricks t ends.target

        cell : cell_in (get_or items t []) ≡ brick_cell (nodes_alone b.nodes) t
        cell = brick.cell ends.on_row

    questions : (q : ℕ) → q ≤ n → QuestionItems b class items (length b.nodes + m) (firsts list q)
    questions zero h = tt
    questions (suc q) h = (
      subst (λ (l : ℕ). QuestionItem b class items (get_or list q 0) (length b.nodes + m + l)) (sym (length-firsts list q)) (question q (omega arith)),
      questions q (omega arith),
    )

    pub corner_items : CornerItems b bus class facts items (length b.nodes + m) (firsts list n)
    corner_items =
        record {
          first_is = ap (λ l. length b.nodes + l) of.count;
          bricks = stored.bricks;
          beside = all_beside stored.beside bus.rerouters of.rows (let e = of.count in omega arith);
          questions = questions n (omega arith);
          classed = of.classed.same;
        }

-- The same of tables that are the board's.
pub items_held : (b : Board) (bus : Bus.Bus) (pages nodes wires facts : List (List ℕ)) (classes list : List ℕ) (n : ℕ) (rerouters : List (List ℕ)) (m : ℕ) (items : List (List ℕ))
    → TurnsOf b bus pages nodes wires facts classes list n rerouters m → BricksAskable nodes facts → TurnsListed nodes facts classes list n → ItemsStored nodes facts classes list n rerouters m items
    → CornerItems b bus (λ w. get_or classes w 0) facts items (length nodes + m) (firsts list n)
items_held b bus pages nodes wires facts classes list n rerouters m items of ok turns stored =
    let is = of.board in
    let ns = sym is.nodes_are in
    let ws = sym is.wires_are in
    subst (λ (ns : List (List ℕ)). CornerItems b bus (λ w. get_or classes w 0) facts items (length ns + m) (firsts list n)) is.nodes_are
    (corner_items b bus pages wires facts classes list n rerouters m items
    (subst (λ (ns : List (List ℕ)). TurnsOf b bus pages ns b.wires facts classes list n rerouters m) ns (subst (λ (ws : List (List ℕ)). TurnsOf b bus pages nodes ws facts classes list n rerouters m) ws of))
    (subst (λ (ns : List (List ℕ)). BricksAskable ns facts) ns ok)
    (subst (λ (ns : List (List ℕ)). TurnsListed ns facts classes list n) ns turns)
    (subst (λ (ns : List (List ℕ)). ItemsStored ns facts classes list n rerouters m items) ns stored))
