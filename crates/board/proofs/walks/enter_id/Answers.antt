-- `enter_id` meets its contract. Assumes nothing.
use mathlib.Core.Path.{sym, ◌∙◌}
use Rattle.board.proofs.Faults.{entered_there, entered_new}
use Rattle.board.proofs.walks.enter_id.Goals as goal

pub returns-then-has : goal.returns-then-has
returns-then-has c = rw (c.at.ensures) (entered_there (sym c.if-has.true ∙ c.has.ensures))

pub returns : goal.returns
returns c = entered_new (sym c.if-has.false ∙ c.has.ensures) c.add_id.ensures.index_after c.add_id.ensures.index_2
