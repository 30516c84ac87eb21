-- `walk_inner` meets its contract: the nodes behind are entered, and no id of them stood there before. Assumes nothing.
use mathlib.Core.Path.{◌≡◌}
use Rattle.board.specs.Board.{inner_id}
use Rattle.board.specs.Refusals.{inner_twice, chip_missing}
use Rattle.board.specs.Walk.{sheet_board}
use Rattle.board.proofs.Faults.{Walking}
use Rattle.board.proofs.walks.walk_inner.Given as goal

-- The first f nodes are behind.
abbrev pub invariant-loop-f : goal.invariant-loop-f
invariant-loop-f l = let b = sheet_board l.lines.text.now in
    Walking l.lines.text.now l.lines.rows.now l.lines.first l.lines.count l.f (inner_id b) (inner_twice b) (chip_missing b) l.initial.w.missing l.w.missing l.w.place l.index × (l.w.unplaced ≡ l.initial.w.unplaced)
