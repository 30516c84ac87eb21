-- `needs_lane` meets its contract, by the three ways to need a lane. Assumes nothing.
use Rattle.std.proofs.Common.{rules}
use mathlib.Core.Bool.{◌||◌}
use lib.Dec.{eqb}
use mathlib.Core.Path.{◌≡◌, ◌∙◌}
use Rattle.board.specs.Board.{field, kind_input, class_storage}
use Rattle.board_lanes.proofs.PageLaws.{needs_two, needs_cross, needs_worthy, worthy_row}
use Rattle.board_lanes.proofs.needs.needs_lane.Goals.{then-row-via-then-row, then-row-via-else-row+then-row-ne0}
use Rattle.board_lanes.proofs.needs.needs_lane.Goals as goal

pub returns-then-row : goal.returns-then-row
returns-then-row c = λ b g n e h ts f l x.
    elim c.then-row.branch [
      | then-row-via-then-row w ↦ needs_two b ts g _ _ _ f l x w.if-row.true
      | then-row-via-else-row+then-row-ne0 w ↦ needs_cross b ts g _ _ _ f l x w.if-row-ne0.true
    ]

pub returns : goal.returns
returns c = λ b g n e h ts f l x.
    let nodes = c.args.nodes.now in
    let s = c.args.source in
    let worthy : c.is_some_and.result ≡ (eqb (field nodes s 2) kind_input || eqb (field nodes s 4) 1 || eqb (field nodes s 3) class_storage) = search rules in
    needs_worthy b ts g _ _ _ f l x c.is_some_and.result c.if-row.false c.if-row-ne0.false (worthy ∙ worthy_row b nodes n s _ e)
