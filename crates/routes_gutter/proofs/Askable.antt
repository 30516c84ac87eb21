-- What the laid taps ask of rows can be answered: the rows are there, and all numbers are in range.
use Prim.Native.Nat.{ℕ, ◌+◌, ◌*◌, ◌≤◌, ◌<◌}
use native.Mathlib.Omega.{arith}
use mathlib.Core.Path.{◌≡◌, sym, ap, subst}
use mathlib.Core.Bool.{Bool, true, false, ◌&&◌}
use mathlib.Core.List.{List, [], Memᴰ as Mem}
use lib.Dec.{eqb}
use lib.ListN.{length, get_or}
use Rattle.sheet.specs.Table.{MISSING, HALF_MOST}
use Rattle.base.specs.Lists.{Found, none, at}
use Rattle.base.specs.Views.{view}
use Rattle.base.proofs.Bools.{never}
use Rattle.base.proofs.Lists.{by_test}
use Rattle.board.specs.Board.{Board, field, given, has_row, page_of}
use Rattle.board.specs.Rows.{row_of, nodes_on, turned, size_y, brick_cell}
use Rattle.board.specs.Accepted.{Accepted, Y_HIGH}
use Rattle.board.specs.Groups.{Tap, taps_of, source_row, source_anchor}
use Rattle.board.specs.Demands.{PageLanes}
use Rattle.board.specs.Tables.{NodeFacts, held, nodes_alone, tap_in}
use Rattle.board.proofs.Reach.{end_most, row_most_lem}
use Rattle.board_groups.proofs.TapLaws.{carried_row, carried_below}
use Rattle.board_lanes.proofs.GroupLaws.{known, known_row, source_below}
use Rattle.routes.specs.Stops.{laid_taps}
use Rattle.routes.specs.Levels.{stops_of}
use Rattle.routes.specs.Tables.{stop_in}
use Rattle.routes_taps.specs.Asking.{QuestionsIn, source_in, gate_side_in}
use Rattle.routes_taps.proofs.Answering.{RowsThere}
use Rattle.routes_taps.proofs.Questions.{Question, all_low, question_at, source_there, gate_side_low}
use Rattle.routes_beside.specs.Beside.{count_on, BrickInRange, AskedInRange, BricksAskable, TapAskable, RowsAskable}
use Rattle.routes_beside.proofs.Keys.{row_below_page}
use Rattle.routes_gutter.specs.Lay.{LanesReady}
use Rattle.routes_gutter.proofs.Boards.{tap_stands}
use Rattle.routes_gutter.proofs.Supply.{few_nodes, few_wires, laid_at, laid_range, y_high}

module _ (b : Board) (a : Accepted b) where
  -- By the greatest half size no brick's cell is higher.
  end_high : (i : ℕ) → has_row b i ≡ true → (brick_cell b i).y1 ≤ Y_HIGH + 2 * HALF_MOST
  unfolding brick_cell
  end_high i h =
      let y = a.y i (a.row_placed i h) in
      let half : size_y b i ≤ 2 * HALF_MOST = by_test (λ n. 2 * n ≤ 2 * HALF_MOST) (turned b i) (λ e. omega (arith, a.half_x i)) (λ e. omega (arith, a.half_y i)) in
      omega arith

  -- A brick's cell and the nodes of a page need the nodes alone.
  brick_alone : (i : ℕ) → (brick_cell b i).x1 < 4294967296 → (brick_cell b i).y1 < 4294967296 → ((brick_cell (nodes_alone b.nodes) i).x1 < 4294967296) × ((brick_cell (nodes_alone b.nodes) i).y1 < 4294967296)
  unfolding brick_cell
  brick_alone i h k = (h, k)

  count_alone : (p m : ℕ) → m < length (nodes_on b p) → m < count_on b.nodes p
  unfolding nodes_on
  count_alone p m h = h

  -- The page and the row of a node, as the tables have them.
  pub page_small_lem : (i : ℕ) → i < length b.nodes → has_row b i ≡ true → page_of b i < 64
  page_small_lem i h has = let p = a.page_there i h has in let f = a.few_pages in omega arith

  pub row_there : (i : ℕ) → i < length b.nodes → has_row b i ≡ true → row_of b i < count_on b.nodes (page_of b i)
  row_there i h has = count_alone (page_of b i) (row_of b i) (row_below_page b i h has)

  pub brick_in_range : (facts : List (List ℕ)) → NodeFacts b facts → (i : ℕ) → i < length b.nodes → has_row b i ≡ true → BrickInRange b.nodes facts i
  brick_in_range facts known i h has =
      let x = end_most b a i has in
      let y = end_high i has in
      let ends = brick_alone i (omega arith) (omega arith) in
      record {
        page = page_small_lem i h has;
        row = let r = row_there i h has in let e = known.rows i h has in omega arith;
        end_x = ends.0;
        end_y = ends.1;
      }

module _ {b : Board} {ps : List PageLanes} {pages nodes wires facts groups taps rerouters bus_wires : List (List ℕ)}
    (r : LanesReady b ps pages nodes wires facts groups taps rerouters bus_wires) where
  nodes_long : length b.nodes ≡ length nodes
  nodes_long = ap length r.nodes_are

  bricks_askable : BricksAskable nodes facts
  bricks_askable =
      record {
        few = few_nodes r;
        on_facts = r.node_room;
        in_range = subst (λ (ns : List (List ℕ)). (i : ℕ) → i < length ns → given (field ns i 10) ≡ true → BrickInRange ns facts i) r.nodes_are (brick_in_range b r.accepted facts r.nodes_known);
      }

  abbrev on_nodes : (p row : ℕ) → row < count_on b.nodes p → row < count_on nodes p
  on_nodes p row = subst (λ (ns : List (List ℕ)). row < count_on ns p) r.nodes_are

  on_row : (p q row s : ℕ) → p ≡ q → row ≡ s → s < count_on b.nodes q → row < count_on nodes p
  on_row p q row s ep er h = on_nodes p row (subst (λ (x : ℕ). row < count_on b.nodes x) (sym ep) (subst (λ (y : ℕ). y < count_on b.nodes q) (sym er) h))

  -- The k-th tap, of those that are laid.
  module _ (asked rows : List (List ℕ)) (k : ℕ) (mem : Mem (tap_in (get_or rows k [])) (taps_of b)) (q : Question b (taps_of b) ps asked rows k) where
    abbrev t : Tap
    t = tap_in (get_or rows k [])

    source_low : source_anchor b t.group < length b.nodes
    source_low = let of = known b t mem in source_below b t.group of.first of.leads

    gate_side_there : AskedInRange nodes (gate_side_in rows asked k)
    gate_side_there =
        let s = tap_stands b t mem in
        let has = carried_row b t.wire s.target s.carries in
        let inside = carried_below b t.wire s.target s.carries in
        let small = page_small_lem b r.accepted s.target inside has in
        let row = row_there b r.accepted s.target inside has in
        let high = r.accepted.y s.target (r.accepted.row_placed s.target has) in
        let y = s.y in
        record {
          page = let e = s.page in omega arith;
          row = on_row t.page (page_of b s.target) t.row (row_of b s.target) s.page s.row row;
          x = gate_side_low b (taps_of b) ps asked rows k q;
          y = omega arith;
        }

    source_row_there : field asked k 2 ≡ 1 → AskedInRange nodes (source_in rows asked k)
    source_row_there e =
        let s = source_there b (taps_of b) ps asked rows k q e in
        let small = page_small_lem b r.accepted (source_anchor b t.group) source_low s.row in
        let row = row_there b r.accepted (source_anchor b t.group) source_low s.row in
        let x = r.accepted.x (source_anchor b t.group) s.placed in
        let y = r.accepted.y (source_anchor b t.group) s.placed in
        let ex = s.x_is in
        let ey = s.y_is in
        record {
          page = let p = s.page in omega arith;
          row = on_row t.page (page_of b (source_anchor b t.group)) (field asked k 4) (row_of b (source_anchor b t.group)) (sym s.page) s.row_is row;
          x = omega arith;
          y = omega arith;
        }

    tap_askable : TapAskable nodes rows asked k
    tap_askable = record { source = source_row_there; gate_side = λ e. gate_side_there; room = y_high r t mem }

  -- A known row has a number.
  source_row_number : (t : Tap) (row : ℕ) → source_row b t.group t.page ≡ at row → row ≡ MISSING → ⊥
  unfolding source_row
  source_row_number t row e z = go (has_row b (source_anchor b t.group) && eqb (page_of b (source_anchor b t.group)) t.page) e
    where
      go : (c : Bool) → elim c as (λ _. Found) [ true ↦ at (row_of b (source_anchor b t.group)) | false ↦ none ] ≡ at row → ⊥
      go true h = let same : row_of b (source_anchor b t.group) ≡ row = ap held h in let most = row_most_lem b (source_anchor b t.group) in let few = r.accepted.few_nodes in absurd (omega arith)
      go false h = never cc

  pub rows_there : (t : Tap) → Mem t (taps_of b) → RowsThere b t
  rows_there t mem =
      record {
        row = λ z. let h = known_row b (length b.wires) t (known b t mem) in let few = r.accepted.few_nodes in absurd (omega arith);
        source = source_row_number t;
      }

  -- All taps that are laid, with what they ask.
  module _ (rows : List (List ℕ)) (few : length rows ≤ length taps) (are : view tap_in rows (length rows) ≡ laid_taps b (taps_of b) ps)
      (levels : List (List ℕ)) (fewer : length levels ≤ length rows) (stops_are : view stop_in levels (length levels) ≡ stops_of b ps (view tap_in rows (length rows))) where
    pub rows_askable : (asked items : List (List ℕ)) (flags : List ℕ)
        → QuestionsIn b (taps_of b) ps (view stop_in levels (length levels)) asked (view tap_in rows (length rows)) (view stop_in levels (length levels))
        → length rows ≤ length asked → length nodes + 2 * length wires ≤ length items → 20480 ≤ length flags → ((i : ℕ) → i < 20480 → get_or flags i 0 ≡ 0)
        → RowsAskable nodes facts rows asked items flags
    rows_askable asked items flags questions on-asked on-items on-flags no_flag =
        let count = r.count in
        let few-w = few_wires r in
        let few-n = few_nodes r in
        let range = laid_range r rows few are levels fewer stops_are in
        record {
          bricks = bricks_askable;
          taps =
              record {
                few = omega arith;
                on_laid = omega arith;
                on_asked = on-asked;
                each = λ k h.
                    tap_askable asked rows k (laid_at r rows few are k h).0
                    (question_at b (taps_of b) ps (view stop_in levels (length levels)) asked rows (length rows) (view stop_in levels (length levels)) questions (all_low levels (length levels) range.levels) k h);
              };
          on_items = omega arith;
          on_flags = omega arith;
          no_flag = λ i h. no_flag i (omega arith);
        }
