-- `walk_chips` meets its contract: the chips behind are entered, and no id of them stood there before. Assumes nothing.
use mathlib.Core.Path.{◌≡◌}
use Rattle.board.specs.Board.{chip_id}
use Rattle.board.specs.Refusals.{chip_twice, parent_missing}
use Rattle.board.specs.Walk.{sheet_board}
use Rattle.board.proofs.Faults.{Walking}
use Rattle.board.proofs.walks.walk_chips.Given as goal

-- The first c chips are behind.
abbrev pub invariant-loop-c : goal.invariant-loop-c
invariant-loop-c l = let b = sheet_board l.lines.text.now in
    Walking l.lines.text.now l.lines.rows.now l.lines.first l.lines.count l.c (chip_id b) (chip_twice b) (parent_missing b) l.initial.w.missing l.w.missing l.w.place l.index × (l.w.unplaced ≡ l.initial.w.unplaced)
