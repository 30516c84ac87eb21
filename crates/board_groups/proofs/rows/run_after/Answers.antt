-- `run_after` meets its contract: another page, another row of the page, or the same row. Assumes nothing.
use mathlib.Core.Path.{sym, ◌∙◌}
use Rattle.board_groups.proofs.KeyLaws.{run_new_page, run_new_row, run_same_row}
use Rattle.board_groups.proofs.rows.run_after.Goals as goal

pub returns-then-key-run-clause-value : goal.returns-then-key-run-clause-value
returns-then-key-run-clause-value c = rw c.in-Some.is (c.run_from-then-key-run.ensures ∙ sym (run_new_page _ _ c.if-key-run.true))

pub returns-then-key-run-2-clause-value : goal.returns-then-key-run-2-clause-value
returns-then-key-run-2-clause-value c = rw c.in-Some.is (c.run_from-then-key-run-2.ensures ∙ sym (run_new_row _ _ c.if-key-run.false c.if-key-run-2.true))

pub returns-else-key-run-2-clause-value : goal.returns-else-key-run-2-clause-value
returns-else-key-run-2-clause-value c = rw c.in-Some.is (sym (run_same_row _ _ c.if-key-run.false c.if-key-run-2.false))
