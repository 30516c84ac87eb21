use Rattle.board_plan.proofs.PageRows.{PagesUpto}
use Rattle.board_plan.proofs.write_pages.Given as goal

abbrev pub invariant-loop-p : goal.invariant-loop-p
invariant-loop-p l = PagesUpto l.facts l.initial.answers l.p l.answers
