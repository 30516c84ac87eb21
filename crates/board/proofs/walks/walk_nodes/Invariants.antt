-- `walk_nodes` meets its contract: the nodes behind are entered, and no id of them stood there before. Assumes nothing.
use Prim.Native.Nat.{ℕ, ◌<◌}
use mathlib.Core.Path.{◌≡◌}
use lib.ListN.{get_or}
use Rattle.board.specs.Board.{id_of, kind_of}
use Rattle.board.specs.Refusals.{first_line, node_twice, page_missing, row_unplaced}
use Rattle.std.specs.Option.{option_or}
use Rattle.board.specs.Index.{found_of}
use Rattle.board.specs.Walk.{line_from, sheet_board}
use Rattle.board.proofs.Faults.{Walking}
use Rattle.board.proofs.walks.walk_nodes.Given as goal

-- The first i nodes are behind.
abbrev pub invariant-loop-i : goal.invariant-loop-i
invariant-loop-i l = let b = sheet_board l.lines.text.now in
    Walking l.lines.text.now l.lines.rows.now l.lines.first l.lines.count l.i (id_of b) (node_twice b) (page_missing b) l.initial.w.missing l.w.missing l.w.place l.index
    × (l.w.unplaced ≡ option_or l.initial.w.unplaced (found_of (first_line b (line_from l.lines.first) (row_unplaced b) l.i)))
    × ((j : ℕ) → j < l.i → get_or l.kinds j 0 ≡ kind_of b j)
