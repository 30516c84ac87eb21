-- `decide` meets its contract: a cell, or a question. Assumes nothing.
use Rattle.routes_rows.proofs.Deciding.{turnable, decided_cell}
use Rattle.routes_rows.proofs.turn.decide.Goals as goal

pub returns-then-i-item : goal.returns-then-i-item
returns-then-i-item c = let a = c.args in decided_cell a.item.items.now a.item.p a.item.first a.answers.now c.requires c.begin_row.ensures c.from.result c.if-i-item.true c.from.ensures

pub turn-requires : goal.turn-requires
turn-requires c = let a = c.args in turnable a.item.items.now a.item.p a.item.first a.answers.now c.requires c.begin_row.ensures c.if-i-item.false
