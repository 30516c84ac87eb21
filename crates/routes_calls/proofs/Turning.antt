-- From the tables that planning leaves to what the corner pass asks for.
use Prim.Native.Nat.{ℕ, ◌+◌, ◌*◌, ◌≤◌}
use native.Mathlib.Omega.{arith}
use mathlib.Core.Path.{◌≡◌, sym, subst}
use mathlib.Core.Bool.{true}
use mathlib.Core.List.{List}
use lib.ListN.{length}
use Rattle.sheet.specs.Table.{HALF_MOST}
use Rattle.board.specs.Board.{Board, field, has_row}
use Rattle.board.specs.Rows.{turned, size_x, brick_cell}
use Rattle.board.specs.Accepted.{Accepted}
use Rattle.board.specs.Sections.{SectionsCut}
use Rattle.board.specs.Tables.{NodeFacts, WireFacts, nodes_alone}
use Rattle.base.proofs.Lists.{by_test}
use Rattle.board.proofs.Reach.{REACH_MOST, end_most}
use Rattle.routes_corners.specs.CornerTables.{BoardOf}
use Rattle.routes_corners.specs.Turning.{InEdge, BoardFits}
use Rattle.routes_gutter.proofs.Askable.{brick_in_range}
use Rattle.routes_calls.specs.Turn.{BoardKnown}

module _ (b : Board) (a : Accepted b) where
  -- S11: by the greatest half size no brick's cell is wider.
  brick_wide : (i : ℕ) → size_x b i ≤ 2 * HALF_MOST
  brick_wide i = by_test (λ n. 2 * n ≤ 2 * HALF_MOST) (turned b i) (λ e. omega (arith, a.half_y i)) (λ e. omega (arith, a.half_x i))

  -- How far the cell of a node with a row reaches; it needs the nodes alone.
  cell_ends : (i : ℕ) → has_row b i ≡ true
      → ((brick_cell (nodes_alone b.nodes) i).x1 ≤ REACH_MOST) × ((brick_cell (nodes_alone b.nodes) i).x1 ≤ field b.nodes i 8 + 2 * HALF_MOST)
  unfolding brick_cell
  cell_ends i has = (end_most b a i has, omega (arith, brick_wide i))

  in_edge : (i : ℕ) → has_row b i ≡ true → InEdge b.nodes i
  in_edge i has = let ends = cell_ends i has in let y = a.y i (a.row_placed i has) in record { low = omega (arith, ends); wide = ends.1; flat = omega arith }

  board_fits : (facts : List (List ℕ)) → NodeFacts b facts → length b.nodes ≤ length facts → length b.wires ≤ length facts
      → BoardFits b.pages b.nodes b.wires facts
  board_fits facts known nf wf =
      record {
        wires_few = a.few_wires;
        ends_long = wf;
        ports = λ w. (a.target w).1;
        bricks = record { few = a.few_nodes; on_facts = nf; in_range = brick_in_range b a facts known };
        on_pages = a.page_there;
        inside = λ i h. in_edge i;
      }

-- The same of its sections as they are cut.
pub board_of : {b : Board} {pages nodes chips inner execs wires facts : List (List ℕ)} → SectionsCut b pages nodes chips inner execs wires → NodeFacts b facts → WireFacts b facts
    → BoardOf b pages nodes wires facts
board_of cut known on_wires =
    record { pages_are = sym cut.pages_cut; nodes_are = sym cut.nodes_cut; wires_are = sym cut.wires_cut; nodes_known = known; wires_known = on_wires }

pub board_known : {b : Board} {pages nodes wires facts : List (List ℕ)} → Accepted b → BoardOf b pages nodes wires facts → length b.nodes ≤ length facts → length b.wires ≤ length facts
    → BoardKnown b pages nodes wires facts
board_known {b} {pages} {nodes} {wires} {facts} a cut nf wf =
    record {
      sections = cut;
      fits =
          subst (λ (l : List (List ℕ)). BoardFits l nodes wires facts) cut.pages_are
          (subst (λ (l : List (List ℕ)). BoardFits b.pages l wires facts) cut.nodes_are
          (subst (λ (l : List (List ℕ)). BoardFits b.pages b.nodes l facts) cut.wires_are (board_fits b a facts cut.nodes_known nf wf)));
    }
