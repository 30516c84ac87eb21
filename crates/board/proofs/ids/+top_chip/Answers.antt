use Rattle.board.proofs.Chips.{top_none, top_last, top_up}
use Rattle.board.proofs.ids.+top_chip.Goals as goal

pub returns-in_default : goal.returns-in_default
returns-in_default t c b e = top_none c.args.chips.now c.args.id.0 b e c.in_default.ensures

pub returns-then-parent : goal.returns-then-parent
returns-then-parent t c b e = top_last c.args.chips.now c.args.id.0 b e c.in-Some.c c.in-Some.ensures c.if-parent.true

pub returns-else-parent : goal.returns-else-parent
returns-else-parent t c b e = top_up c.args.chips.now c.args.id.0 b e c.in-Some.c c.in-Some.ensures c.if-parent.false _ c.top_chip.ensures
